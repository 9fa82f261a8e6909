-- Each command has an answer, and what was written of one in which memory ran out is the front of a run.
use Rattle.std.proofs.Common.{◌≡◌, ◌∙◌, refl, sym, ap, subst, length, Option, Some, None, inl}
use Rattle.cdi_base.specs.declared.reply.Cause.TheVariants as causes
use Rattle.cdi_base.specs.declared.reply.Reply.{Reply}
use Rattle.cdi_base.specs.declared.reply.Reply.TheVariants as replies
use Rattle.cdi_base.specs.declared.reply.Refusal.{Refusal}
use Rattle.cdi_machine.specs.Commands.{Command, task}
use Rattle.cdi_machine.specs.Container.{refusal, reply_to}
use Rattle.cdi_machine.specs.Laws.{Ends, OnItsWay, followed_by}
use Rattle.cdi_machine.specs.Runs.{Legal, Outcome, Cut, Runs}
use Rattle.cdi_machine.specs.Tables.{Tables}
use Rattle.cdi_machine.specs.World.{World, at_begin}
use Rattle.cdi_machine.proofs.Order.{goes_self, wider}
use Rattle.cdi_container.specs.OnItsWay.{AlwaysAnswers, IsFrontOfRun, StaysOnItsWay}
use Rattle.cdi_container.specs.States.{ContainerState, AnswersCommand, CarriesOut, after_refusal, cause_of, machine_state}

module _ (tables : Tables) (legal : Legal) where
  pub always_answers : Ends tables legal → AlwaysAnswers tables legal
  always_answers ends s c = by (refusal tables (machine_state s) c) refl
    where
      by : (o : Option Refusal) → refusal tables (machine_state s) c ≡ o → (reply : Reply) × (t : ContainerState) × AnswersCommand tables legal ⊥ s c reply t
      by (Some r) e = (replies.Refused r, after_refusal s, AnswersCommand.refuses r e refl refl)
      by None e =
          let run = ends (task c) (at_begin s.world) in
          let t : ContainerState = record { world = run.1; halted = cause_of run.0 } in
          (reply_to c run.0 run.1, t, AnswersCommand.carries_out run.0 e (CarriesOut.ends run.2) refl refl)

module _ (tables : Tables) (legal loose : Legal) (way : OnItsWay tables legal loose) (c : Command) (s t : ContainerState) where
  carried_on_its_way : (o : Outcome) → CarriesOut tables legal (Unit {0}) (task c) (at_begin s.world) o t.world → IsFrontOfRun tables legal loose c s t
  carried_on_its_way o (CarriesOut.ends r) =
      record {
        outcome = o;
        world = t.world;
        run = wider tables legal (followed_by (length t.world.trace) legal loose) (record { act = λ body entries fields view a h. inl h; pick = λ count entries i h. inl h }) (task c) (at_begin s.world) t.world o r;
        more = goes_self t.world;
      }
  carried_on_its_way o (CarriesOut.starves starved r) =
      let more = way (task c) (at_begin s.world) t.world _ r in
      record { outcome = more.0; world = more.1; run = more.2; more = more.3 }

  answered_on_its_way : (reply : Reply) → refusal tables (machine_state s) c ≡ None → AnswersCommand tables legal (Unit {0}) s c reply t → IsFrontOfRun tables legal loose c s t
  answered_on_its_way reply none (AnswersCommand.refuses r refused told stays) = absurd (let e : Some r ≡ None = sym refused ∙ none in cc)
  answered_on_its_way reply none (AnswersCommand.carries_out o free carried halted told) = carried_on_its_way o carried
  -- nothing was written
  answered_on_its_way reply none (AnswersCommand.lacks_memory starved asks free told halts) =
      let Run : World → Type 0 = λ v. Runs tables legal (Unit {0}) (task c) (at_begin s.world) (Cut causes.Memory) v in
      let world : t.world ≡ at_begin s.world = ap (λ (x : ContainerState). x.world) halts in
      carried_on_its_way (Cut causes.Memory) (CarriesOut.starves starved (subst Run (sym world) (Runs.starves starved)))

pub stays_on_its_way : (tables : Tables) (legal loose : Legal) → OnItsWay tables legal loose → StaysOnItsWay tables legal loose
stays_on_its_way tables legal loose way s t c reply none a = answered_on_its_way tables legal loose way c s t reply none a
