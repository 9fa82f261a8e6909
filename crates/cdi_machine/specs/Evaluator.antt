-- Runs by computing: bodies and the chooser are functions here, and tasks are nested so many deep at most.
use Rattle.std.specs.Prelude.{ℕ, zero, suc, ◌≡◌, List, [], ◌∷◌, length, Option, Some, None, true, false, nat_lt}
use Rattle.cdi_base.specs.declared.act.Act.{Act}
use Rattle.cdi_base.specs.declared.entry.Entry.{Entry}
use Rattle.cdi_base.specs.declared.entry.Entry.TheVariants as entries
use Rattle.cdi_base.specs.declared.reply.Cause.TheVariants as causes
use Rattle.cdi_base.specs.declared.reply.Reply.{Reply}
use Rattle.cdi_base.specs.declared.reply.Reply.TheVariants as replies
use Rattle.cdi_base.specs.declared.reply.Refusal.{Refusal}
use Rattle.cdi_bodies.specs.declared.view.View.{View}
use Rattle.cdi_machine.specs.Words.{Fields}
use Rattle.cdi_machine.specs.Tables.{Tables, written_act}
use Rattle.cdi_machine.specs.World.{World, after_change, with_entry}
use Rattle.cdi_machine.specs.Programs.{Task, Given, Completion, Gave, Threw, Prog, ret, throw, cut, miss, see, change, tick, mark, act, choose, nested, candidates}
use Rattle.cdi_machine.specs.Machine.{machine}
use Rattle.cdi_machine.specs.World.{at_begin}
use Rattle.cdi_machine.specs.Commands.{Command, task}
use Rattle.cdi_machine.specs.Container.{State, Said, shown_entries, refusal, reply_to, state_after, after_refusal}
use Rattle.cdi_machine.specs.Runs.{Legal, Outcome, Ends, Cut}

-- a body's act by its number, the entries so far, the fields and the view; of so many candidates, after so many entries, one
pub record Performance : Type 0 where
  pub tables : Tables
  pub acts : ℕ → ℕ → Fields → View → Act
  pub chooses : ℕ → ℕ → ℕ

-- just what they answer is legal
abbrev pub legal_in : Performance → Legal
legal_in s =
    record {
      gives = λ b entries fields view a. a ≡ s.acts b entries fields view;
      picks = λ n entries i. i ≡ s.chooses n entries;
    }

abbrev pub Came : Type 0
Came = Option (Outcome × World)

abbrev pub after_task : Came → (Completion Given → World → Came) → Came
after_task None f = None
after_task (Some (Ends c, w)) f = f c w
after_task (Some (Cut cause, w)) f = Some (Cut cause, w)

abbrev pub after_entry : Entry → World → (World → Came) → Came
after_entry e w f =
    elim (nat_lt (length w.trace) w.ticks) [
      | true ↦ f (with_entry e w)
      | false ↦ Some (Cut causes.Ticks, w)
    ]

module _ (s : Performance) where
  abbrev pub steps : (Task → World → Came) → Prog Given → World → Came
  steps rec (ret g) w = Some (Ends (Gave g), w)
  steps rec (throw x) w = Some (Ends (Threw x), w)
  steps rec (cut cause) w = Some (Cut cause, w)
  steps rec (miss p) w = steps rec p w
  steps rec (see k) w = steps rec (k s.tables w) w
  steps rec (change g p) w = steps rec p (after_change g w)
  steps rec (tick e p) w = after_entry e w (λ u. steps rec p u)
  steps rec (mark n p) w = steps rec p w
  steps rec (act b fields view k) w =
      let a = written_act s.tables (s.acts b (length w.trace) fields view) in
      after_entry (entries.Did a) w (λ u. steps rec (k a) u)
  steps rec (choose n k) w =
      let i = s.chooses (candidates n) (length w.trace) in
      elim (nat_lt i (candidates n)) [
        | true ↦ after_entry (entries.Pick (candidates n) i) w (λ u. steps rec (k i) u)
        | false ↦ None
      ]
  steps rec (nested t k) w = after_task (rec t w) (λ c u. steps rec (k c) u)

  abbrev pub exec : ℕ → Task → World → Came
  exec zero t w = None
  exec (suc n) t w = steps (exec n) (machine t) w

  -- what a program comes to
  abbrev pub evaluation : ℕ → Prog Given → World → Came
  evaluation n p w = steps (exec n) p w

  abbrev pub saying : State → Reply → Option (List Said) → Option (List Said)
  saying t r None = None
  saying t r (Some more) = Some (record { entries = shown_entries t; reply = r } ∷ more)

  abbrev pub answer_by : ℕ → Command → State → Option Refusal → Came → Option (Reply × State)
  answer_by n c u (Some r) came = Some (replies.Refused r, after_refusal u)
  answer_by n c u None None = None
  answer_by n c u None (Some (o, v)) = Some (reply_to c o v, state_after o v)

  abbrev pub answer : ℕ → Command → State → Option (Reply × State)
  answer n c u =
      let came = evaluation n (task c) (at_begin u.world) in
      answer_by n c u (refusal s.tables u c) came

  -- what is said to commands
  abbrev pub performance : ℕ → State → List Command → Option (List Said)
  performance n u [] = Some []
  performance n u (c ∷ cs) =
      elim (answer n c u) [ None ↦ None | Some rt ↦ saying rt.1 rt.0 (performance n rt.1 cs) ]
