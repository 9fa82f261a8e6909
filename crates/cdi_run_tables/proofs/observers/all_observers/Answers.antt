use Rattle.cdi_run_tables.specs.Index.{AreGroupBy}
use Rattle.cdi_run_tables.proofs.Zips.{zip_more}
use Rattle.cdi_run_tables.proofs.observers.all_observers.Goals as goal

pub loop-group-preserved : goal.loop-group-preserved
loop-group-preserved c =
    let i = c.loop-group in (
      rw c.in_ok-push.ensures.ok
          (zip_more (AreGroupBy c.args.numbering.now) c.args.groups.now i.all i.group-index c.group-item.result c.in_ok-observers_by.field-0 c.loop-group-test.true c.group-item.is i.invariant.0 (rw c.as_slice-observers.ensures at c.in_ok-observers_by.ensures.observers)),
      c.observers_by.ensures.kept,
    )
