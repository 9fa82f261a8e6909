use Rattle.std.proofs.Common.{ap, arith, rules}
use Rattle.cdi_machine.specs.Hearing.Ending.{PickAsked}
use Rattle.cdi_steps.specs.declared.task.Notification.{Notification}
use Rattle.cdi_steps.proofs.Driving.{fails_for, passed_on, starves_alone, starves_asked}
use Rattle.cdi_events.proofs.KnownObservers.{delivery_known}
use Rattle.cdi_events.proofs.ObserverSteps.{pick_leads}
use Rattle.cdi_events.proofs.observers.pick.Goals as goal

pub returns-in_default-clause-failed : goal.returns-in_default-clause-failed
returns-in_default-clause-failed g c = starves_alone

pub returns-in_err-choice-clause-failed : goal.returns-in_err-choice-clause-failed
returns-in_err-choice-clause-failed g c =
    passed_on _ c.from_residual.result (fails_for (PickAsked _ _) _ c.in_err-choice.ensures.failed) c.from_residual.ensures

pub returns-in_err-delivery-clause-failed : goal.returns-in_err-delivery-clause-failed
returns-in_err-delivery-clause-failed g c =
    passed_on _ c.from_residual-in_err-delivery.result (starves_asked c.in_ok-choice.ensures.asked) c.from_residual-in_err-delivery.ensures

pub returns-clause-step : goal.returns-clause-step
returns-clause-step g c =
    record {
      leads = pick_leads (g.T.Tables.tables c.args._tables.now) (g.D.Driver.legal c.args.driver.now) c.args.notification c.in_ok-delivery.delivery c.in-Ok.count c.in_ok-choice.choice (g.W.Contents.world c.args.world.now) (search rules) (search rules) c.in_ok-delivery.ensures.observer c.in_ok-delivery.ensures.others (rw (← c.entries.ensures) at c.in_ok-choice.ensures.legal);
      lowers = omega arith;
      known = λ h. delivery_known (g.T.Tables.tables c.args._tables.now) c.args.notification.value.observers c.in_ok-choice.choice c.in_ok-delivery.delivery.value c.requires.known c.in_ok-delivery.ensures.observer (ap (λ (n : Notification). n.observers) c.in_ok-delivery.ensures.others);
      invoked = λ h. h;
    }
