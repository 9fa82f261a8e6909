-- What the evaluator gives is a run.
use Rattle.std.proofs.Common.{ℕ, zero, suc, ◌≡◌, ◌≤◌, ◌<◌, List, [], ◌∷◌, length, refl, ap, subst, arith, Option, Some, None, true, false}
use Rattle.std.specs.Prelude.{nat_lt}
use Rattle.cdi_base.specs.declared.entry.Entry.{Entry}
use Rattle.cdi_base.specs.declared.entry.Entry.TheVariants as entries
use Rattle.cdi_base.specs.declared.reply.Cause.TheVariants as causes
use Rattle.cdi_base.specs.declared.reply.Reply.{Reply}
use Rattle.cdi_base.specs.declared.reply.Refusal.{Refusal}
use Rattle.cdi_machine.specs.Tables.{written_act}
use Rattle.cdi_machine.specs.World.{World, after_change, with_entry}
use Rattle.cdi_machine.specs.Programs.{Task, Given, Completion, Prog, ret, throw, cut, miss, see, change, tick, mark, act, choose, nested, candidates}
use Rattle.cdi_machine.specs.Machine.{machine}
use Rattle.cdi_machine.specs.Runs.{Outcome, Ends, Cut, Runs}
use Rattle.cdi_machine.specs.World.{at_begin}
use Rattle.cdi_machine.specs.Commands.{Command, task}
use Rattle.cdi_machine.specs.Container.{State, Said, shown_entries, refusal, GivesReply, Plays}
use Rattle.cdi_machine.specs.Evaluator.{Performance, legal_in, Came, after_task, after_entry, steps, exec, evaluation, saying, answer_by, answer, performance}

is_less : (a b : ℕ) → nat_lt a b ≡ true → a < b
is_less a b e = grind arith

is_least : (a b : ℕ) → nat_lt a b ≡ false → b ≤ a
is_least a b e = grind arith

module _ (s : Performance) where
  abbrev Leads : Prog Given → World → Outcome → World → Type 0
  Leads p w o v = Runs s.tables (legal_in s) ⊥ p w o v

  abbrev Tells : (Prog Given → World → Came) → Type 0
  Tells f = (p : Prog Given) (w : World) (o : Outcome) (v : World) → f p w ≡ Some (o, v) → Leads p w o v

  abbrev TellsTasks : (Task → World → Came) → Type 0
  TellsTasks f = (t : Task) (w : World) (o : Outcome) (v : World) → f t w ≡ Some (o, v) → Leads (machine t) w o v

  ended : (p : Prog Given) (w : World) (o o' : Outcome) (v : World) → Leads p w o w → ◌≡◌ {A = Came} (Some (o, w)) (Some (o', v)) → Leads p w o' v
  ended p w o o' v r e =
      let q : ◌≡◌ {A = Outcome × World} (o, w) (o', v) = cc in
      let f : o ≡ o' = ap (λ (x : Outcome × World). x.0) q in
      let g : w ≡ v = ap (λ (x : Outcome × World). x.1) q in
      subst (λ u. Leads p w o' u) g (subst (λ x. Leads p w x w) f r)

  went_on : (t : Task) (k : Completion Given → Prog Given) (w : World) (f : Completion Given → World → Came) (r : Came) → ((o : Outcome) (u : World) → r ≡ Some (o, u) → Leads (machine t) w o u) → ((c : Completion Given) (u : World) (o : Outcome) (v : World) → f c u ≡ Some (o, v) → Leads (k c) u o v) → (o : Outcome) (v : World) → after_task r f ≡ Some (o, v) → Leads (nested t k) w o v
  went_on t k w f None first then o v e = absurd (cc)
  went_on t k w f (Some (Ends c, u)) first then o v e = Runs.calls (first (Ends c) u refl) (then c u o v e)
  went_on t k w f (Some (Cut cause, u)) first then o v e = Runs.calls (first (Cut cause) u refl) (ended (cut cause) u (Cut cause) o v Runs.cuts e)

  wrote : (x : Entry) (p : Prog Given) (f : World → Came) (w : World) → ((u : World) (o : Outcome) (v : World) → f u ≡ Some (o, v) → Leads p u o v) → (o : Outcome) (v : World) → after_entry x w f ≡ Some (o, v) → Leads (tick x p) w o v
  wrote x p f w then o v e =
      elim (nat_lt (length w.trace) w.ticks) as (λ b. nat_lt (length w.trace) w.ticks ≡ b → ◌≡◌ {A = Came} (elim b [ true ↦ f (with_entry x w) | false ↦ Some (Cut causes.Ticks, w) ]) (Some (o, v)) → Leads (tick x p) w o v) [
        | true ↦ λ h q. Runs.writes (is_less (length w.trace) w.ticks h) (then (with_entry x w) o v q)
        | false ↦ λ h q. ended (tick x p) w _ o v (Runs.is_full (is_least (length w.trace) w.ticks h)) q
      ] refl e

  sound : (rec : Task → World → Came) → TellsTasks rec → Tells (steps s rec)
  sound rec tells (ret g) w o v e = ended (ret g) w _ o v Runs.returns e
  sound rec tells (throw x) w o v e = ended (throw x) w _ o v Runs.throws e
  sound rec tells (cut cause) w o v e = ended (cut cause) w _ o v Runs.cuts e
  sound rec tells (miss p) w o v e = Runs.misses (sound rec tells p w o v e)
  sound rec tells (see k) w o v e = Runs.sees (sound rec tells (k s.tables w) w o v e)
  sound rec tells (change g p) w o v e = Runs.changes (sound rec tells p (after_change g w) o v e)
  sound rec tells (tick x p) w o v e = wrote x p (λ u. steps s rec p u) w (λ u o1 v1 q. sound rec tells p u o1 v1 q) o v e
  sound rec tells (mark n p) w o v e = Runs.marks (sound rec tells p w o v e)
  sound rec tells (act b fields view k) w o v e =
      let a = written_act s.tables (s.acts b (length w.trace) fields view) in
      Runs.does (s.acts b (length w.trace) fields view) refl (wrote (entries.Did a) (k a) (λ u. steps s rec (k a) u) w (λ u o1 v1 q. sound rec tells (k a) u o1 v1 q) o v e)
  sound rec tells (choose n k) w o v e =
      let i = s.chooses (candidates n) (length w.trace) in
      elim (nat_lt i (candidates n)) as (λ b. nat_lt i (candidates n) ≡ b → ◌≡◌ {A = Came} (elim b [ true ↦ after_entry (entries.Pick (candidates n) i) w (λ u. steps s rec (k i) u) | false ↦ None ]) (Some (o, v)) → Leads (choose n k) w o v) [
        | true ↦ λ h q. Runs.picks i (is_less i (candidates n) h) refl (wrote (entries.Pick (candidates n) i) (k i) (λ u. steps s rec (k i) u) w (λ u o1 v1 z. sound rec tells (k i) u o1 v1 z) o v q)
        | false ↦ λ h q. absurd (cc)
      ] refl e
  sound rec tells (nested t k) w o v e = went_on t k w (λ c u. steps s rec (k c) u) (rec t w) (λ o1 u q. tells t w o1 u q) (λ c u o1 v1 q. sound rec tells (k c) u o1 v1 q) o v e

  sound_tasks : (n : ℕ) → TellsTasks (exec s n)
  sound_tasks zero t w o v e = absurd (cc)
  sound_tasks (suc n) t w o v e = sound (exec s n) (sound_tasks n) (machine t) w o v e

  -- what is evaluated is a run
  pub evaluates : (n : ℕ) → Tells (evaluation s n)
  evaluates n = sound (exec s n) (sound_tasks n)

  -- what is answered by computing is answered
  answers : (n : ℕ) (c : Command) (u : State) (r : Reply) (t : State) → answer s n c u ≡ Some (r, t) → GivesReply s.tables (legal_in s) u c r t
  answers n c u r t e = answers_by (refusal s.tables u c) (evaluation s n (task c) (at_begin u.world)) refl refl e
    where
      moved : (r' : Reply) (t' : State) → GivesReply s.tables (legal_in s) u c r' t' → ◌≡◌ {A = Option (Reply × State)} (Some (r', t')) (Some (r, t)) → GivesReply s.tables (legal_in s) u c r t
      moved r' t' a e =
          let q : ◌≡◌ {A = Reply × State} (r', t') (r, t) = cc in
          subst (λ x. GivesReply s.tables (legal_in s) u c x t) (ap (λ (x : Reply × State). x.0) q) (subst (λ x. GivesReply s.tables (legal_in s) u c r' x) (ap (λ (x : Reply × State). x.1) q) a)

      answers_by : (why : Option Refusal) (came : Came) → refusal s.tables u c ≡ why → evaluation s n (task c) (at_begin u.world) ≡ came → answer_by s n c u why came ≡ Some (r, t) → GivesReply s.tables (legal_in s) u c r t
      answers_by (Some why) came h k e = moved _ _ (GivesReply.refuses why h) e
      answers_by None None h k e = absurd (cc)
      answers_by None (Some (o, v)) h k e = moved _ _ (GivesReply.carries_out h (evaluates n (task c) (at_begin u.world) o v k)) e

  went : (n : ℕ) (c : Command) (cs : List Command) (u : State) (r : Option (Reply × State)) (xs : List Said) → answer s n c u ≡ r → ((t : State) (ys : List Said) → performance s n t cs ≡ Some ys → Plays s.tables (legal_in s) t cs ys) → (elim r [ None ↦ None | Some rt ↦ saying s rt.1 rt.0 (performance s n rt.1 cs) ]) ≡ Some xs → Plays s.tables (legal_in s) u (c ∷ cs) xs
  went n c cs u None xs h then e = absurd (cc)
  went n c cs u (Some (r, t)) xs h then e =
      elim (performance s n t cs) as (λ m. performance s n t cs ≡ m → saying s t r m ≡ Some xs → Plays s.tables (legal_in s) u (c ∷ cs) xs) [
        | None ↦ λ k q. absurd (cc)
        | Some ys ↦ λ k q. let f : record { entries = shown_entries t; reply = r } ∷ ys ≡ xs = cc in subst (λ zs. Plays s.tables (legal_in s) u (c ∷ cs) zs) f (Plays.goes_on (answers n c u r t h) (then t ys k))
      ] refl e

  -- what is played by computing is played
  pub plays : (n : ℕ) (u : State) (cs : List Command) (xs : List Said) → performance s n u cs ≡ Some xs → Plays s.tables (legal_in s) u cs xs
  plays n u [] xs e = let f : [] ≡ xs = cc in subst (λ zs. Plays s.tables (legal_in s) u [] zs) f Plays.ends
  plays n u (c ∷ cs) xs e = went n c cs u (answer s n c u) xs refl (λ t ys k. plays n t cs ys k) e
