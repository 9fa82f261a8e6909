use Rattle.std.proofs.Common.{sym, ap, ◌∙◌, ◌∷◌}
use Rattle.cdi_steps.specs.declared.task.Groups.{Groups}
use Rattle.cdi_steps.specs.declared.task.Notification.{Notification}
use Rattle.cdi_events.proofs.ObserverSteps.{next_group}
use Rattle.cdi_events.proofs.observers.notify_next.Goals as goal

pub returns : goal.returns
returns g c =
    let now = c.deref_mut.ensures.value in
    let same = ap (λ (k : Groups). k.value) now in
    let observers = ap (λ (n : Notification). n.observers ∷ c.take_group.new.left) c.in_ok-notification.ensures in
    let value = ap (λ (n : Notification). n.value) c.in_ok-notification.ensures in
    next_group (g.T.Tables.tables c.args._tables.now) c.args.groups.value _ c.in_ok-notification.notification (g.W.Contents.world c.args.world.now)
    (ap (λ (k : Groups). k.left) (sym now) ∙ c.in-Some.ensures.taken ∙ sym observers)
    (value ∙ c.in_ok-value.ensures.cases ∙ ap (λ (k : Groups). k.value) c.deref.ensures ∙ same)
    same (rw now at c.in-Some.ensures.few) c.requires
