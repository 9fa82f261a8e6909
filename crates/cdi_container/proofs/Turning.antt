-- A command that is carried out by turns is answered as it may be at once.
use Rattle.std.proofs.Common.{◌≡◌, ◌∙◌, refl, sym, ap, subst, false, Option, Some, None, Ok}
use Rattle.std.specs.Prelude.{is_some}
use Rattle.cdi_base.specs.declared.reply.Reply.{Reply}
use Rattle.cdi_frames.specs.Stacks.{StepsTo, program_of}
use Rattle.cdi_frames.specs.declared.stack.Stack.{Stack}
use Rattle.cdi_frames.specs.declared.stack.Turn.TheVariants as turned
use Rattle.cdi_frames.proofs.Stacks.{steps_run, turned_after}
use Rattle.cdi_machine.specs.Commands.{Command, task}
use Rattle.cdi_machine.specs.Laws.{IsWithin}
use Rattle.cdi_machine.specs.Programs.{Given, Prog}
use Rattle.cdi_machine.specs.Runs.{Legal, Outcome}
use Rattle.cdi_machine.specs.Tables.{Tables}
use Rattle.cdi_machine.specs.World.{World, at_begin}
use Rattle.cdi_machine.proofs.Order.{wider}
use Rattle.cdi_steps.specs.Words.{command_of, outcome_of}
use Rattle.cdi_container.specs.declared.left.Left.{Left}
use Rattle.cdi_container.specs.declared.left.Progress.TheVariants as progresses
use Rattle.cdi_container.specs.States.{ContainerState, AnswersCommand, CarriesOut, after_refusal, without_memory}
use Rattle.cdi_container.specs.Turns.{AnswersByTurns, IsLeftOf, stack_of}
use Rattle.cdi_container.proofs.Replying.{replied}
use Rattle.cdi_container.proofs.Starving.{starved_answer}

-- nothing is under way
pub nothing_left : (left : Option Left) → is_some left ≡ false → left ≡ None
nothing_left None e = refl
nothing_left (Some left) e = absurd (cc)

module _ (tables : Tables) {small large : Legal} (i : IsWithin small large) where
  -- behind steps
  carried_after : (a b : Stack) (w u v : World) (o : Outcome) → StepsTo tables large a w b u
      → CarriesOut tables small (Unit {0}) (program_of b) u o v → CarriesOut tables large (Unit {0}) (program_of a) w o v
  carried_after a b w u v o steps (CarriesOut.ends r) =
      CarriesOut.ends (steps_run tables large ⊥ a b w u steps o v (wider tables small large i (program_of b) u v o r))
  carried_after a b w u v o steps (CarriesOut.starves x r) =
      CarriesOut.starves x (steps_run tables large (Unit {0}) a b w u steps o v (wider tables small large i (program_of b) u v o r))

  pub carried_more : (p : Prog Given) (w v : World) (o : Outcome) → CarriesOut tables small (Unit {0}) p w o v → CarriesOut tables large (Unit {0}) p w o v
  carried_more p w v o (CarriesOut.ends r) = CarriesOut.ends (wider tables small large i p w v o r)
  carried_more p w v o (CarriesOut.starves x r) = CarriesOut.starves x (wider tables small large i p w v o r)

  -- the live instances are told as if it were at once
  told : (s u : ContainerState) (reply : Reply) → AnswersCommand tables small (Unit {0}) (after_refusal s) Command.Live reply u
      → AnswersCommand tables large (Unit {0}) s Command.Live reply u
  told s u reply (AnswersCommand.refuses r e is stays) = AnswersCommand.refuses r e is stays
  told s u reply (AnswersCommand.carries_out o e k halts is) = AnswersCommand.carries_out o e (carried_more (task Command.Live) (at_begin s.world) u.world o k) halts is
  told s u reply (AnswersCommand.lacks_memory x asks e is halts) = absurd asks

  pub by_turns : AnswersByTurns tables small large
  by_turns s t u _ _ (progresses.Running left) (IsLeftOf.runs job {stack = a} told e steps) (b, is, more) =
      subst (λ k. IsLeftOf tables large s (command_of job) k u) (sym is)
      (IsLeftOf.runs job told e (turned_after tables i (stack_of job) a (at_begin s.world) t.world (Ok (turned.Running b)) u.world steps more))
  by_turns s t u _ _ (progresses.Finished reply) (IsLeftOf.runs job {stack = a} told e steps) (o, carries, halts, is) =
      AnswersCommand.carries_out (outcome_of o) e (carried_after (stack_of job) a (at_begin s.world) t.world u.world (outcome_of o) steps carries) halts
      (is ∙ replied job o u.world told)
  by_turns s t u _ _ (progresses.Running left) (IsLeftOf.tells is) k = absurd k
  by_turns s t u _ _ (progresses.Finished reply) (IsLeftOf.tells is) k =
      told s u reply (subst (λ x. AnswersCommand tables small (Unit {0}) x Command.Live reply u) is k)
  by_turns s t u c _ (progresses.Running left) (IsLeftOf.starves e is) k = absurd k
  by_turns s t u c _ (progresses.Finished reply) (IsLeftOf.starves e is) (halted, halts) =
      starved_answer tables large s u reply halted (halts ∙ ap without_memory is) c e
