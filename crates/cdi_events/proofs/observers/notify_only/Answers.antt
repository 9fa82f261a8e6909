use Rattle.std.proofs.Common.{ap}
use Rattle.cdi_steps.specs.declared.task.Notification.{Notification}
use Rattle.cdi_steps.proofs.Results.{map_ok}
use Rattle.cdi_events.proofs.KnownObservers.{delivery_known}
use Rattle.cdi_events.proofs.ObserverSteps.{notifies_only}
use Rattle.cdi_events.proofs.observers.notify_only.Goals as goal

pub deliver_to-requires : goal.deliver_to-requires
deliver_to-requires g c =
    delivery_known (g.T.Tables.tables c.args.tables.now) c.args.notification.value.observers 0 c.in_ok-delivery.delivery.value c.requires.known c.in_ok-delivery.ensures.observer (ap (λ (n : Notification). n.observers) c.in_ok-delivery.ensures.others)

pub returns : goal.returns
returns g c =
    map_ok c.deliver_to.result (λ next s. notifies_only (g.T.Tables.tables c.args.tables.now) c.args.notification c.in_ok-delivery.delivery c.requires.one c.in_ok-delivery.ensures.observer c.in_ok-delivery.ensures.others s) c.deliver_to.ensures
