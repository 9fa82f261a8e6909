use Rattle.cdi_run_tables.specs.Index.{ArePlannedBy}
use Rattle.cdi_run_tables.specs.Seen.{parts_seen}
use Rattle.cdi_run_tables.proofs.Zips.{zip_more}
use Rattle.cdi_run_tables.proofs.interceptor_steps.all_steps.Goals as goal

pub loop-interceptor-preserved : goal.loop-interceptor-preserved
loop-interceptor-preserved c =
    let i = c.loop-interceptor in (
      rw c.in_ok-push.ensures.ok
          (zip_more (ArePlannedBy (parts_seen c.args.parts.now)) c.interceptors-interceptor-items.result.now i.all i.interceptor-index c.interceptor-item.result c.in_ok-steps_of.field-0 c.loop-interceptor-test.true c.interceptor-item.is i.invariant.0 c.in_ok-steps_of.ensures.steps),
      c.steps_of.ensures.kept,
    )
