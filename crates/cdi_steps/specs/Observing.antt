-- The delivery of events: to an observer that was picked, to the others of its group, and to the other groups (Jakarta CDI 4.0,
-- *Observer notification*).
use Rattle.std.specs.Prelude.{map}
use Rattle.cdi_base.specs.declared.built_in.BuiltIn.TheVariants as built_in
use Rattle.cdi_machine.specs.Programs as machine
use Rattle.cdi_machine.specs.Programs.{Given, Prog, handle, complete, call, finish, each, groups_of, rethrow, ◌>>=◌, ◌>>◌}
use Rattle.cdi_machine.specs.Events.{deliver}
use Rattle.cdi_machine.specs.Told.{observer_told}
use Rattle.cdi_steps.specs.declared.task.Delivery.{Delivery}
use Rattle.cdi_steps.specs.declared.task.Event.{Event}
use Rattle.cdi_steps.specs.declared.task.Groups.{Groups}
use Rattle.cdi_steps.specs.declared.task.Notification.{Notification}

-- those that are left of a group
abbrev pub notify_others : Notification → Prog Given
notify_others n = call (machine.Notify (map observer_told n.observers) n.value)

abbrev pub deliver_to : Delivery → Prog Given
deliver_to d = deliver (observer_told d.observer) d.others.value >> notify_others d.others

-- an observer has been notified; a checked exception becomes another one
abbrev pub after_observer : machine.Completion Given → Prog Given
after_observer c =
    handle (complete c) (λ _. finish) (λ x. rethrow x built_in.ObserverException)

-- the groups that are left
abbrev pub notify_groups : Groups → Prog Given
notify_groups g = do
  each (map (map observer_told) g.left) λ group. call (machine.Notify group g.value)
  finish

-- an event, from its delivery on
abbrev pub deliver_published : Event → Prog Given
deliver_published e = do
  groups ← groups_of e.class e.qualifiers
  each groups λ group. call (machine.Notify group e.value)
  finish
