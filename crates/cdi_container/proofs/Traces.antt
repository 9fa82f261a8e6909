-- A command has no two answers with the same entries, since a program has no two runs with the same.
use Rattle.std.proofs.Common.{◌≡◌, ◌∙◌, Option, Some, None, sym, ap, ap₂}
use Rattle.cdi_base.specs.declared.reply.Cause.{Cause}
use Rattle.cdi_base.specs.declared.reply.Refusal.{Refusal}
use Rattle.cdi_base.specs.declared.reply.Reply.TheVariants as replies
use Rattle.cdi_machine.specs.Container.{refusal, reply_to}
use Rattle.cdi_machine.specs.Laws.{OneRun, SameEnd}
use Rattle.cdi_machine.specs.Programs.{Given, Prog}
use Rattle.cdi_machine.specs.Runs.{Legal, Outcome}
use Rattle.cdi_machine.specs.Tables.{Tables}
use Rattle.cdi_machine.specs.World.{World}
use Rattle.cdi_container.specs.States.{AnswersCommand, CarriesOut, cause_of, machine_state}
use Rattle.cdi_container.specs.Traces.{SameAnswer, TraceTells}

one_refusal : (o : Option Refusal) (r r' : Refusal) → o ≡ Some r → o ≡ Some r' → r ≡ r'
one_refusal o r r' e e' = let same : ◌≡◌ {A = Option Refusal} (Some r) (Some r') = sym e ∙ e' in cc

not_both : (o : Option Refusal) (r : Refusal) → o ≡ Some r → o ≡ None → ⊥
not_both o r e e' = let same : ◌≡◌ {A = Option Refusal} (Some r) None = sym e ∙ e' in cc

module _ (tables : Tables) (legal : Legal) (one : OneRun tables legal) where
  same_end : (p : Prog Given) (w v v' : World) (o o' : Outcome) → CarriesOut tables legal ⊥ p w o v → CarriesOut tables legal ⊥ p w o' v' → v.trace ≡ v'.trace → SameEnd o o' v v'
  same_end p w v v' o o' (CarriesOut.ends r) (CarriesOut.ends r') same = one p w v v' o o' r r' same
  same_end p w v v' o o' (CarriesOut.starves s r) k same = absurd s
  same_end p w v v' o o' k (CarriesOut.starves s r) same = absurd s

  pub trace_tells : TraceTells tables legal
  trace_tells s t t' c reply reply' a a' same = by a a'
    where
      by : AnswersCommand tables legal ⊥ s c reply t → AnswersCommand tables legal ⊥ s c reply' t' → SameAnswer reply reply' t t'
      by (AnswersCommand.lacks_memory starved asks e is halts) b = absurd starved
      by a (AnswersCommand.lacks_memory starved asks e is halts) = absurd starved
      by (AnswersCommand.refuses r e is stays) (AnswersCommand.refuses r' e' is' stays') =
          record { reply = is ∙ ap replies.Refused (one_refusal (refusal tables (machine_state s) c) r r' e e') ∙ sym is'; state = stays ∙ sym stays' }
      by (AnswersCommand.refuses r e is stays) (AnswersCommand.carries_out o e' k halts is') = absurd (not_both (refusal tables (machine_state s) c) r e e')
      by (AnswersCommand.carries_out o e k halts is) (AnswersCommand.refuses r e' is' stays) = absurd (not_both (refusal tables (machine_state s) c) r e' e)
      by (AnswersCommand.carries_out o e k halts is) (AnswersCommand.carries_out o' e' k' halts' is') =
          let ends = same_end _ _ t.world t'.world o o' k k' same in
          record {
            reply = is ∙ ap₂ (λ (x : Outcome) (v : World). reply_to c x v) ends.outcome ends.world ∙ sym is';
            state = ap₂ (λ (v : World) (h : Option Cause). record { world = v; halted = h }) ends.world (halts ∙ ap cause_of ends.outcome ∙ sym halts');
          }
