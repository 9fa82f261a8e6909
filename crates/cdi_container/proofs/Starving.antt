-- What a command is answered if memory is wanting before anything of it is carried out.
use Rattle.std.proofs.Common.{◌≡◌, ◌++◌, List, [], ◌∷◌, Bool, true, false, None, sym, ap, subst}
use Rattle.cdi_base.specs.declared.reply.Cause.TheVariants as causes
use Rattle.cdi_base.specs.declared.reply.Refusal.{Refusal}
use Rattle.cdi_base.specs.declared.reply.Refusal.TheVariants as refusals
use Rattle.cdi_base.specs.declared.reply.Reply.{Reply}
use Rattle.cdi_base.specs.declared.reply.Reply.TheVariants as replies
use Rattle.cdi_contexts.specs.Refusals.{first_that_holds}
use Rattle.cdi_machine.specs.Commands.{Command, task}
use Rattle.cdi_machine.specs.Container.{refusal, refused_by_contexts}
use Rattle.cdi_machine.specs.Runs.{Legal, Cut, Runs}
use Rattle.cdi_machine.specs.Tables.{Tables}
use Rattle.cdi_machine.specs.World.{World, at_begin}
use Rattle.cdi_container.specs.States.{ContainerState, AnswersCommand, CarriesOut, machine_state, refusal_in_state, without_memory}

none_of : (xs : List (Bool × Refusal)) → first_that_holds xs ≡ None → first_that_holds (xs ++ []) ≡ None
none_of [] e = e
none_of ((true, why) ∷ more) e = absurd (cc)
none_of ((false, why) ∷ more) e = none_of more e

module _ (tables : Tables) (legal : Legal) (s t : ContainerState) (reply : Reply)
    (is : reply ≡ replies.Halted causes.Memory) (halts : t ≡ without_memory s) where
  -- it is cut at once
  cut_at_once : (c : Command) → refusal tables (machine_state s) c ≡ None → AnswersCommand tables legal (Unit {0}) s c reply t
  cut_at_once c e =
      let Run : World → Type 0 = λ v. Runs tables legal (Unit {0}) (task c) (at_begin s.world) (Cut causes.Memory) v in
      let world : t.world ≡ at_begin s.world = ap (λ (x : ContainerState). x.world) halts in
      AnswersCommand.carries_out (Cut causes.Memory) e (CarriesOut.starves tt (subst Run (sym world) (Runs.starves tt)))
      (ap (λ (x : ContainerState). x.halted) halts) is

  unrefused : (c : Command) → refusal_in_state (machine_state s) c ≡ None
      → first_that_holds (((machine_state s).halted, refusals.Halted) ∷ (s.world.down, refusals.Down) ∷ (false, refusals.Busy) ∷ refused_by_contexts s.world.contexts c ++ []) ≡ None
  unrefused c e = none_of (((machine_state s).halted, refusals.Halted) ∷ (s.world.down, refusals.Down) ∷ (false, refusals.Busy) ∷ refused_by_contexts s.world.contexts c) e

  pub starved_answer : (c : Command) → refusal_in_state (machine_state s) c ≡ None → AnswersCommand tables legal (Unit {0}) s c reply t
  starved_answer (Command.Call request asked method args) e = AnswersCommand.lacks_memory tt tt e is halts
  starved_answer (Command.Read request asked) e = AnswersCommand.lacks_memory tt tt e is halts
  starved_answer (Command.Fire request class qualifiers v) e = AnswersCommand.lacks_memory tt tt e is halts
  starved_answer Command.Boot e = cut_at_once Command.Boot e
  starved_answer (Command.Begin request session) e = cut_at_once (Command.Begin request session) (unrefused (Command.Begin request session) e)
  starved_answer (Command.End request) e = cut_at_once (Command.End request) (unrefused (Command.End request) e)
  starved_answer (Command.Invalidate session) e = cut_at_once (Command.Invalidate session) (unrefused (Command.Invalidate session) e)
  starved_answer Command.Live e = cut_at_once Command.Live e
  starved_answer Command.Shutdown e = cut_at_once Command.Shutdown e
