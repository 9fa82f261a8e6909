use Rattle.cdi_live.specs.Graphs.{HasBeanRows}
use Rattle.cdi_live.specs.Settings.{setting_of, counts_of}
use Rattle.cdi_live.proofs.deployment_tables.DeploymentTables.bean_rows.Given as goal

abbrev pub invariant-loop-index : goal.invariant-loop-index
invariant-loop-index l = HasBeanRows (setting_of l.self) (counts_of l.self) l.index l.graph
