use Rattle.cdi_machine.specs.Hearing.Ending.{Due}
use Rattle.cdi_steps.proofs.Driving.{fails_for, passed_on, starves_told}
use Rattle.cdi_frames.proofs.run.write.Goals as goal

pub returns-in_err-tell-clause-failed : goal.returns-in_err-tell-clause-failed
returns-in_err-tell-clause-failed g c =
    passed_on _ c.from_residual.result (fails_for (Due _) _ c.in_err-tell.ensures.failed) c.from_residual.ensures

pub returns-in_err-write-clause-failed : goal.returns-in_err-write-clause-failed
returns-in_err-write-clause-failed g c =
    passed_on _ c.from_residual-in_err-write.result (starves_told c.in_ok-tell.ensures.told) c.from_residual-in_err-write.ensures
