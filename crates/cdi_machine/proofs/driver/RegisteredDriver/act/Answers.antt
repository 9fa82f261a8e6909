use Rattle.cdi_machine.proofs.Hearings.{memory_fails, goes_on_self}
use Rattle.cdi_machine.proofs.driver.RegisteredDriver.act.Goals as goal

pub returns-in_err-next-clause-failed : goal.returns-in_err-next-clause-failed
returns-in_err-next-clause-failed g c = memory_fails c.from_residual.result _ goes_on_self c.from_residual.ensures.1
