-- What is fired and called where events are delivered.
use Rattle.std.specs.Prelude.{[], ◌∷◌, Bool, ◌&&◌}
use Rattle.cdi_base.specs.declared.scope.Scope.{Scope}
use Rattle.cdi_base.specs.declared.value.Value.{Value}
use Rattle.cdi_base.specs.declared.value.Value.TheVariants as values
use Rattle.cdi_contexts.specs.Contexts.{active_context}
use Rattle.cdi_machine.specs.declared.member.Observer.{Observer as CodeObserver}
use Rattle.cdi_machine.specs.Contexts.{is_normal}
use Rattle.cdi_machine.specs.Events.{is_out}
use Rattle.cdi_machine.specs.Tables.{Observer}
use Rattle.cdi_machine.specs.World.{World}
use Rattle.cdi_steps.specs.Words.{class_of, qualifiers_of}
use Rattle.cdi_steps.specs.declared.task.Callee.TheVariants as callees
use Rattle.cdi_steps.specs.declared.task.ContainerCall.{ContainerCall}
use Rattle.cdi_steps.specs.declared.task.ContainerEvent.{ContainerEvent}
use Rattle.cdi_steps.specs.declared.task.Event.{Event}

-- an event of the container itself carries no value
abbrev pub event_of : ContainerEvent → Event
event_of event =
    record { class = class_of event; qualifiers = qualifiers_of event; value = values.Null }

-- an observer of a bean with this scope isn't called
abbrev pub is_passed_over : World → Observer → Scope → Bool
is_passed_over w o scope =
    is_normal scope && is_out o (active_context w.contexts w.environment scope)

-- the call of an observer with the value of an event
abbrev pub observer_call : CodeObserver → Value → ContainerCall
observer_call o v =
    record { declaring = o.bean; callee = callees.Observer o; args = v ∷ [] }
