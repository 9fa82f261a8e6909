-- One schedule gives one output.
use Rattle.std.proofs.Common.{ℕ, Bool, ◌≡◌, ◌≢◌, ◌∙◌, ◌++◌, ◌∷◌, [], List, refl, sym, ap, ap₂, subst, Option, Some, None, Ok, Err}
use Rattle.std.specs.Prelude.{Result}
use Rattle.cdi_base.specs.declared.command.Command.{Command as Read}
use Rattle.cdi_base.specs.declared.reply.Cause.TheVariants as causes
use Rattle.cdi_base.specs.declared.reply.Cause.{Cause}
use Rattle.cdi_base.specs.declared.reply.Refusal.{Refusal}
use Rattle.cdi_base.specs.declared.reply.Reply.{Reply}
use Rattle.cdi_base.specs.declared.reply.Reply.TheVariants as replies
use Rattle.cdi_machine.specs.Tables.{Tables}
use Rattle.cdi_machine.specs.World.{World}
use Rattle.cdi_machine.specs.Programs.{Given, Prog}
use Rattle.cdi_machine.specs.Commands.{Command}
use Rattle.cdi_machine.specs.Container.{refusal, reply_to}
use Rattle.cdi_machine.specs.Laws.{SameEnd, IsOne}
use Rattle.cdi_machine.specs.Runs.{Legal, Outcome}
use Rattle.cdi_machine.proofs.Order.{one_schedule}
use Rattle.cdi_text.specs.declared.command.BadLine.{BadLine}
use Rattle.cdi_text.specs.Command.{command_in}
use Rattle.cdi_lines.specs.Served.{Replies}
use Rattle.cdi_container.specs.Commands.{machine_command}
use Rattle.cdi_container.specs.Sessions.{AnswersRead, AnswersLine, reply_in}
use Rattle.cdi_container.specs.States.{ContainerState, CarriesOut, AnswersCommand, machine_state, cause_of}
use Rattle.cdi_container.proofs.Halted.{works_on}

-- memory has not run out
abbrev pub IsFed : ContainerState → Type 0
IsFed t = t.halted ≢ Some causes.Memory

pub record SameReply (r r' : Reply) (t t' : ContainerState) : Type 0 where
  pub reply : r ≡ r'
  pub state : t ≡ t'

state_is : (t t' : ContainerState) → t.world ≡ t'.world → t.halted ≡ t'.halted → t ≡ t'
state_is t t' p q = ap₂ (λ (w : World) (h : Option Cause). record { world = w; halted = h }) p q

pub record SameOut (out out' : List ℕ) (t t' : ContainerState) : Type 0 where
  pub text : out ≡ out'
  pub state : t ≡ t'

one_refusal : (o : Option Refusal) (r r' : Refusal) → o ≡ Some r → o ≡ Some r' → r ≡ r'
one_refusal o r r' e e' = let same : ◌≡◌ {A = Option Refusal} (Some r) (Some r') = sym e ∙ e' in cc

not_both : (o : Option Refusal) (r : Refusal) → o ≡ Some r → o ≡ None → ⊥
not_both o r e e' = let same : ◌≡◌ {A = Option Refusal} (Some r) None = sym e ∙ e' in cc

module _ (shows : Bool) (names : List (List ℕ)) (tables : Tables) (legal : Legal) (one : IsOne legal) where
  abbrev Answered : ContainerState → List ℕ → List ℕ → ContainerState → Type 0
  Answered = AnswersLine shows names tables legal (Unit {0})

  carried_one : (p : Prog Given) (w : World) (o o' : Outcome) (v v' : World) → CarriesOut tables legal (Unit {0}) p w o v → CarriesOut tables legal (Unit {0}) p w o' v'
      → cause_of o ≢ Some causes.Memory → cause_of o' ≢ Some causes.Memory → SameEnd o o' v v'
  carried_one p w o o' v v' (CarriesOut.ends r) (CarriesOut.ends r') n n' = one_schedule tables legal one p w v v' o o' r r'
  carried_one p w o o' v v' (CarriesOut.starves s r) e n n' = absurd (n refl)
  carried_one p w o o' v v' e (CarriesOut.starves s r) n n' = absurd (n' refl)

  pub answers_one : (c : Command) (s : ContainerState) (r r' : Reply) (t t' : ContainerState) → AnswersCommand tables legal (Unit {0}) s c r t → AnswersCommand tables legal (Unit {0}) s c r' t' → IsFed t → IsFed t' → SameReply r r' t t'
  answers_one c s r r' t t' (AnswersCommand.lacks_memory starved asks e is halts) h' n n' = absurd (n (ap (λ (x : ContainerState). x.halted) halts))
  answers_one c s r r' t t' h (AnswersCommand.lacks_memory starved asks e is halts) n n' = absurd (n' (ap (λ (x : ContainerState). x.halted) halts))
  answers_one c s r r' t t' (AnswersCommand.refuses why e is stays) (AnswersCommand.refuses why' e' is' stays') n n' =
      record { reply = is ∙ ap replies.Refused (one_refusal (refusal tables (machine_state s) c) why why' e e') ∙ sym is'; state = stays ∙ sym stays' }
  answers_one c s r r' t t' (AnswersCommand.refuses why e is stays) (AnswersCommand.carries_out o e' k halts is') n n' = absurd (not_both (refusal tables (machine_state s) c) why e e')
  answers_one c s r r' t t' (AnswersCommand.carries_out o e k halts is) (AnswersCommand.refuses why e' is' stays) n n' = absurd (not_both (refusal tables (machine_state s) c) why e' e)
  answers_one c s r r' t t' (AnswersCommand.carries_out o e k halts is) (AnswersCommand.carries_out o' e' k' halts' is') n n' =
      let same = carried_one _ _ o o' t.world t'.world k k' (λ q. n (halts ∙ q)) (λ q. n' (halts' ∙ q)) in
      record {
        reply = is ∙ ap₂ (λ (x : Outcome) (v : World). reply_to c x v) same.outcome same.world ∙ sym is';
        state = state_is t t' same.world (halts ∙ ap cause_of same.outcome ∙ sym halts');
      }

  read_one : (c : Result Read BadLine) (s : ContainerState) (r r' : Reply) (t t' : ContainerState) → AnswersRead names tables legal (Unit {0}) c s r t → AnswersRead names tables legal (Unit {0}) c s r' t' → IsFed t → IsFed t' → SameReply r r' t t'
  read_one (Ok command) s r r' t t' h h' n n' = answers_one (machine_command names command) s r r' t t' h h' n n'
  read_one (Err bad) s r r' t t' h h' n n' = record { reply = h.0 ∙ sym h'.0; state = h.1 ∙ sym h'.1 }

  -- a container that has halted stays so
  answers_halted : (c : Command) (s : ContainerState) (r : Reply) (t : ContainerState) → AnswersCommand tables legal (Unit {0}) s c r t → s.halted ≡ Some causes.Memory → t.halted ≡ Some causes.Memory
  answers_halted c s r t (AnswersCommand.refuses why e is stays) h = ap (λ (x : ContainerState). x.halted) stays ∙ h
  answers_halted c s r t (AnswersCommand.lacks_memory starved asks e is halts) h = ap (λ (x : ContainerState). x.halted) halts
  answers_halted c s r t (AnswersCommand.carries_out o e k halts is) h = let none = works_on tables s c e in absurd (cc (h, none))

  read_halted : (c : Result Read BadLine) (s : ContainerState) (r : Reply) (t : ContainerState) → AnswersRead names tables legal (Unit {0}) c s r t → s.halted ≡ Some causes.Memory → t.halted ≡ Some causes.Memory
  read_halted (Err bad) s r t h e = ap (λ (x : ContainerState). x.halted) h.1 ∙ e
  read_halted (Ok command) s r t h e = answers_halted (machine_command names command) s r t h e

  pub replies_halted : (lines : List (List ℕ)) (s : ContainerState) (out : List ℕ) (t : ContainerState) → Replies Answered lines s out t → s.halted ≡ Some causes.Memory → t.halted ≡ Some causes.Memory
  replies_halted [] s out t h e = ap (λ (x : ContainerState). x.halted) h.1 ∙ e
  replies_halted (line ∷ lines) s out t (text, mid, rest, (reply, a, w), more, is) e = replies_halted lines mid rest t more (read_halted (command_in line) s reply mid a e)

  pub replies_one : (lines : List (List ℕ)) (s : ContainerState) (out out' : List ℕ) (t t' : ContainerState) → Replies Answered lines s out t → Replies Answered lines s out' t' → IsFed t → IsFed t' → SameOut out out' t t'
  replies_one [] s out out' t t' h h' n n' = record { text = h.0 ∙ sym h'.0; state = h.1 ∙ sym h'.1 }
  replies_one (line ∷ lines) s out out' t t' (text, mid, rest, (reply, a, w), more, is) (text', mid', rest', (reply', a', w'), more', is') n n' =
      let here = read_one (command_in line) s reply reply' mid mid' a a' (λ q. n (replies_halted lines mid rest t more q)) (λ q. n' (replies_halted lines mid' rest' t' more' q)) in
      let later = replies_one lines mid rest rest' t t' more (subst (λ (m : ContainerState). Replies Answered lines m rest' t') (sym here.state) more') n n' in
      let texts : text ≡ text' = w ∙ ap₂ (λ (r : Reply) (m : ContainerState). reply_in names shows r m) here.reply here.state ∙ sym w' in
      record { text = is ∙ ap (λ (x : List ℕ). x ++ rest) texts ∙ ap (λ (x : List ℕ). text' ++ x) later.text ∙ sym is'; state = later.state }
