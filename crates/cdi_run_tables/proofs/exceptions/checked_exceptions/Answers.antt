use Rattle.std.proofs.Common.{◌==◌, ◌&&◌}
use Rattle.cdi_deployment.specs.declared.deployment.Exception.{Exception}
use Rattle.cdi_name_check.proofs.NameSteps.{one_taken, none_taken, and_all, and_none}
use Rattle.cdi_run_tables.proofs.exceptions.checked_exceptions.Goals as goal
use Rattle.cdi_run_tables.proofs.exceptions.checked_exceptions.Goals.{then-exception+in_ok-insert, else-exception}

pub loop-exception-preserved : goal.loop-exception-preserved
loop-exception-preserved c =
    let l = c.loop-exception in
    let x = c.exception-item.result in
    elim c.if-exception.branch [
      | then-exception+in_ok-insert w ↦ rw w.names-is (one_taken (λ (x : Exception) q. (x.name == q) && x.checked) c.args.exceptions.now l.exception-index x c.loop-exception-test.true c.exception-item.is l.names l.invariant x.name _
          (λ q. and_all _ _ w.if-exception.true) w.in_ok-insert.ensures.updates.0)
      | else-exception w ↦ rw w.names-is (none_taken (λ (x : Exception) q. (x.name == q) && x.checked) c.args.exceptions.now l.exception-index x c.loop-exception-test.true c.exception-item.is l.names l.invariant
          (λ q. and_none _ _ w.if-exception.false))
    ]
