-- The steps by which events are fired are those of the machine.
use Rattle.std.proofs.Common.{◌≡◌, refl, subst}
use Rattle.std.specs.Global.{Box}
use Rattle.cdi_machine.specs.Tables.{Tables}
use Rattle.cdi_machine.specs.World.{World}
use Rattle.cdi_machine.specs.Programs as machine
use Rattle.cdi_machine.specs.Machine as definition
use Rattle.cdi_steps.specs.Leads.{Comes}
use Rattle.cdi_steps.specs.Steps.{Steps, Moves}
use Rattle.cdi_steps.specs.declared.task.Call.TheVariants as calls
use Rattle.cdi_steps.specs.declared.task.ContainerEvent.{ContainerEvent}
use Rattle.cdi_steps.specs.declared.task.Continuation.TheVariants as continuations
use Rattle.cdi_steps.specs.declared.task.Event.{Event}
use Rattle.cdi_steps.specs.declared.task.Next.{Next}
use Rattle.cdi_steps.specs.declared.task.Next.TheVariants as nexts
use Rattle.cdi_steps.specs.declared.task.Task.TheVariants as tasks
use Rattle.cdi_base.specs.declared.entry.Entry.TheVariants as entries
use Rattle.cdi_steps.proofs.Ways.{MovesTo}
use Rattle.cdi_events.specs.Events.{event_of}

module _ (t : Tables) where
  pub publish_leads : (event : Box Event) (w : World)
      → MovesTo t (tasks.Start (calls.Publish event)) w (nexts.Writes (entries.Event event.value.class event.value.qualifiers) (continuations.Publishing event)) w
  publish_leads event w = Comes.same refl

  -- an event of the container itself is fired as any other
  pub fired_as : (event : ContainerEvent) (fired : Box Event) {next : Next} {w : World} → fired.value ≡ event_of event
      → Moves t (tasks.Start (calls.Publish fired)) w next w → Moves t (tasks.Start (calls.Fire event)) w next w
  fired_as event fired {next} {w} e h = subst (λ (x : Event). Steps t (definition.machine (machine.Fire x.class x.qualifiers x.value)) 1 w next w) e h
