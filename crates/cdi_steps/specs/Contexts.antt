-- How the steps of contexts begin and go on.
use Rattle.std.specs.Prelude.{ℕ, ◌≡◌, List, Option, Some, None}
use Rattle.std.specs.Global.{Box}
use Rattle.cdi_base.specs.BuiltIn.{number_of}
use Rattle.cdi_base.specs.declared.built_in.BuiltIn.TheVariants as built_in
use Rattle.cdi_store.specs.declared.instance.Context.{Context}
use Rattle.cdi_store.specs.declared.instance.Context.TheVariants.{Request, Session}
use Rattle.cdi_store.specs.declared.instance.Owner.TheVariants as owners
use Rattle.cdi_machine.specs.Programs.{Given, Completion, Prog, complete, ◌>>◌}
use Rattle.cdi_machine.specs.Commands.{stand_in, stand_alone_in}
use Rattle.cdi_steps.specs.Words.{scope_of}
use Rattle.cdi_steps.specs.Meanings.{finish_context, close_context, after_close, close_then}
use Rattle.cdi_steps.specs.declared.task.AfterClose.{AfterClose}
use Rattle.cdi_steps.specs.declared.task.Closing.{Closing}
use Rattle.cdi_steps.specs.declared.task.Call.TheVariants as calls
use Rattle.cdi_steps.specs.declared.task.Completion.TheVariants as completions
use Rattle.cdi_steps.specs.declared.task.ContainerEvent.TheVariants as events
use Rattle.cdi_steps.specs.declared.task.Frame.TheVariants as frames
use Rattle.cdi_steps.specs.declared.task.Outcome.TheVariants as outcomes
use Rattle.cdi_steps.specs.declared.task.Task.TheVariants as tasks
use Rattle.cdi_steps.specs.declared.task.Next.{Next}
use Rattle.cdi_steps.specs.declared.task.Next.TheVariants as nexts

-- an instance of the bean is created for the context, if there is one
abbrev pub created_in : Option Context → ℕ → Next
created_in None b =
    nexts.Finished (outcomes.Ends (completions.Threw (number_of built_in.ContextNotActiveException)))
created_in (Some c) b = nexts.Goes (tasks.Start (calls.Create b (owners.Context c)))

-- it is told that the context is about to be destroyed
pub record BeginsToClose (context : Context) (after : AfterClose) (next : Next) : Type 0 where
  pub closing : Box Closing
  pub is : closing.value ≡ record { context = context; after = after }
  pub next_is :
      next
      ≡ nexts.Needs (tasks.Start (calls.Fire (events.BeforeDestroyed (scope_of context))))
      (frames.Finishing closing)

-- the end of a context from there on, and what comes after it
abbrev pub finish_then : Closing → Prog Given
finish_then k = finish_context k.context >> after_close k.after

-- from the end of its instances on
abbrev pub empty_then : Closing → Completion Given → Prog Given
empty_then k c = (complete c >> close_context k.context) >> after_close k.after

-- the end of a request, in which the command runs from there on, and of a session, in which alone it runs
abbrev pub end_in : List ℕ → AfterClose → Prog Given
end_in r after = stand_in (Some r) >> close_then (Request r) after

abbrev pub end_alone_in : List ℕ → AfterClose → Prog Given
end_alone_in s after = stand_alone_in s >> close_then (Session s) after
