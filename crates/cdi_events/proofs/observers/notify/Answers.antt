use Rattle.std.proofs.Common.{refl, arith, rules}
use Rattle.cdi_steps.proofs.Driving.{passed_on, starves_alone}
use Rattle.cdi_steps.proofs.Made.{driven, ends}
use Rattle.cdi_events.proofs.ObserverSteps.{notify_none}
use Rattle.cdi_events.proofs.observers.notify.Goals as goal

pub returns-then-is_empty-clause-step : goal.returns-then-is_empty-clause-step
returns-then-is_empty-clause-step g c =
    rw c.null.ensures (driven (g.D.Driver.legal c.args.driver.now) (ends (notify_none (g.T.Tables.tables c.args.tables.now) c.args.notification (g.W.Contents.world c.args.world.now) (search rules)) (omega arith) refl))

pub returns-in_err-notify_only-clause-failed : goal.returns-in_err-notify_only-clause-failed
returns-in_err-notify_only-clause-failed g c = passed_on _ c.from_residual.result starves_alone c.from_residual.ensures

pub returns-then-len-eq1-clause-step : goal.returns-then-len-eq1-clause-step
returns-then-len-eq1-clause-step g c =
    driven (g.D.Driver.legal c.args.driver.now) c.in_ok-notify_only.ensures
