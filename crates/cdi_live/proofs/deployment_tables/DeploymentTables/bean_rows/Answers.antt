use Rattle.cdi_live.specs.Settings.{setting_of, counts_of}
use Rattle.cdi_live.proofs.Rows.{bean_row_more}
use Rattle.cdi_live.proofs.deployment_tables.DeploymentTables.bean_rows.Goals as goal

pub loop-index-preserved : goal.loop-index-preserved
loop-index-preserved c =
    rw c.in_ok-push.ensures.ok (bean_row_more c.loop-index.graph c.in_ok-bean_row.field-0 (setting_of c.args.self.now) (counts_of c.args.self.now) c.loop-index.index c.loop-index.invariant c.in_ok-bean_row.ensures)
