-- No command that isn't refused misses anything.
use Rattle.std.proofs.Common.{ℕ, ◌≡◌, List, [], ◌∷◌, ◌++◌, length, Bool, true, false, not, Option, Some, None, refl, sym, ap, ◌∙◌, subst, nat_eq}
use Rattle.cdi_base.specs.declared.reply.Refusal.{Refusal}
use Rattle.cdi_base.specs.declared.reply.Refusal.TheVariants as refusals
use Rattle.cdi_base.specs.Maps.{at}
use Rattle.cdi_contexts.specs.Refusals.{first_that_holds}
use Rattle.cdi_machine.specs.Tables.{Tables, Method, Managed, Kind, Bean}
use Rattle.cdi_machine.specs.World.{World, at_begin, before_boot}
use Rattle.cdi_machine.specs.Commands.{Command, task}
use Rattle.cdi_machine.specs.Container.{State, refusal, bean_of, call_refusals, refused_by_contexts, refused_by_tables, no_method, wrong_count, is_cut, GivesReply as Replies, Leads}
use Rattle.cdi_machine.specs.Runs.{Legal, Outcome, Ends, Cut, Runs}
use Rattle.cdi_machine.proofs.Refused.{not_halted, past_any, refused}
use Rattle.cdi_store.specs.declared.instance.Instance.{Instance}
use Rattle.cdi_store.specs.declared.instance.Context.{Context}
use Rattle.cdi_store.specs.declared.instance.Context.TheVariants.{Application, Request, Session}
use Rattle.cdi_contexts.specs.Contexts.{context_at, at_boot}
use Rattle.cdi_ledger.proofs.Holdings.{AllHeld}
use Rattle.cdi_whole.proofs.Whole.{HeldBy}
use Rattle.cdi_whole.specs.Fits.{HasMethod, AnswersCalls, Fits}
use Rattle.cdi_whole.specs.Thrown.{ThrowsWithText}
use Rattle.cdi_machine.specs.Programs.{Threw}
use Rattle.cdi_whole.specs.Missing.{AsksWhatIsThere, NothingMissing, MissesNothing}
use Rattle.cdi_whole.proofs.Safe.{misses_none, UnlessCut}
use Rattle.cdi_whole.proofs.Terms.{Pre, Post}
use Rattle.cdi_whole.proofs.Moves.{Moves}
use Rattle.cdi_whole.proofs.Quiet.{moves}
use Rattle.cdi_whole.proofs.Tasks.{task_safe}
use Rattle.cdi_whole.proofs.Commands.{IsAdmitted, IsResting, Completes, command_safe}

passes : (b : Bool) (r : Refusal) (rs : List (Bool × Refusal)) → first_that_holds ((b, r) ∷ rs) ≡ None → (b ≡ false) × (first_that_holds rs ≡ None)
passes true r rs e = absurd (cc)
passes false r rs e = (refl, e)

-- past what the contexts refuse
past : (xs ys : List (Bool × Refusal)) → first_that_holds (xs ++ ys) ≡ None → first_that_holds ys ≡ None
past [] ys e = e
past ((true, r) ∷ xs) ys e = absurd (cc)
past ((false, r) ∷ xs) ys e = past xs ys e

turn : (x : Bool) → not x ≡ false → x ≡ true
turn true q = refl
turn false q = absurd (cc)

-- what the bean of a call doesn't refuse
taken : (c : Managed) (name count : ℕ) → first_that_holds ((no_method (at c.methods name), refusals.NoMethod) ∷ (wrong_count (at c.methods name) count, refusals.WrongCount) ∷ []) ≡ None → HasMethod c.methods name count
taken c name count e = by (at c.methods name) refl e
  where
    by : (x : Option Method) → at c.methods name ≡ x → first_that_holds ((no_method x, refusals.NoMethod) ∷ (wrong_count x count, refusals.WrongCount) ∷ []) ≡ None → HasMethod c.methods name count
    by None f h = absurd (cc)
    by (Some m) f h = record { method = m; has = f; takes = Rattle.std.proofs.lemmas.Map.Views.exact_unsigned_eq m.count count (turn (nat_eq m.count count) (passes (not (nat_eq m.count count)) refusals.WrongCount [] h).0) }

answers_by : (t : Tables) (b : ℕ) (bean : Bean) (name count : ℕ) → t.bean b ≡ Some bean → first_that_holds (call_refusals (Some bean) name count) ≡ None → AnswersCalls t b name count
answers_by t b bean name count known h = by bean.kind refl h
  where
    by : (kind : Kind) → bean.kind ≡ kind → first_that_holds (elim kind as (λ _. List (Bool × Refusal)) [
      | Kind.Class d ↦ (no_method (at d.methods name), refusals.NoMethod) ∷ (wrong_count (at d.methods name) count, refusals.WrongCount) ∷ []
      | Kind.Producer p ↦ (true, refusals.NoMethod) ∷ []
    ]) ≡ None → AnswersCalls t b name count
    by (Kind.Class c) e q = record { class = c; is = record { bean = bean; known = known; is = e }; takes = taken c name count q }
    by (Kind.Producer p) e q = absurd (cc)

pub asks_what_is_there : (t : Tables) → AsksWhatIsThere t
asks_what_is_there t s r asked method args e b bean resolves known =
    let c = Command.Call r asked method args in
    let y = past (refused_by_contexts s.world.contexts c) (refused_by_tables t c) (past_any t s c e) in
    let z = (passes (not (t.is_known asked)) refusals.UnknownName (call_refusals (bean_of t (t.resolve asked)) method (length args)) y).1 in
    answers_by t b bean method (length args) known (subst (λ o. first_that_holds (call_refusals o method (length args)) ≡ None) (ap (bean_of t) resolves ∙ known) z)

module _ (t : Tables) (legal : Legal) where
  admitted : (s : State) (c : Command) → refusal t s c ≡ None → IsAdmitted t legal c
  admitted s (Command.Call r asked method args) e = λ b resolves served. asks_what_is_there t s r asked method args e b served.bean resolves served.known
  admitted s Command.Boot e = tt
  admitted s (Command.Begin r n) e = tt
  admitted s (Command.End r) e = tt
  admitted s (Command.Invalidate n) e = tt
  admitted s (Command.Read r asked) e = tt
  admitted s (Command.Fire r class qualifiers v) e = tt
  admitted s Command.Live e = tt
  admitted s Command.Shutdown e = tt

module _ (t : Tables) (legal : Legal) (fits : Fits t legal) (moves : Moves t legal) where
  carried_out : (Starved : Type 0) (s : State) (c : Command) (o : Outcome) (v : World) → IsResting t legal fits moves s.world → refusal t s c ≡ None
      → (r : Runs t legal Starved (task c) (at_begin s.world) o v) → NothingMissing r × UnlessCut (Completes t legal fits moves) o v
  carried_out Starved s c o v h e r =
      misses_none t legal (Pre t legal) (Post t legal) Starved (task_safe t legal fits moves) (Completes t legal fits moves) r
      (command_safe t legal fits moves c (at_begin s.world) h (admitted t legal s c e))

  first : (ticks depth : ℕ) → IsResting t legal fits moves (before_boot ticks depth)
  first ticks depth = (
    record {
      below = λ n o e. absurd (none n o e);
      whole = λ n o e. absurd (none n o e);
      owned = λ m o n e. absurd (none m o e);
      refer = λ n o field r e. absurd (none n o e);
      attended = λ n o i e. absurd (none n o e);
      held = record { holds = λ k. holds k };
      borrowed = λ n h. absurd h;
      stacked = λ s o. by s o;
    },
    (refl, refl),
  )
    where
      none : (n : ℕ) (o : Instance) → ◌≡◌ {A = Option Instance} None (Some o) → ⊥
      none n o e = cc

      holds : (k : Context) → AllHeld (HeldBy [] k) (context_at at_boot k)
      holds Application = tt
      holds (Request name) = tt
      holds (Session name) = tt

      by : (s : ℕ) → Rattle.cdi_whole.proofs.Whole.OnStack [] [] s → Rattle.cdi_whole.proofs.Whole.IsThere [] s
      by s (Rattle.std.proofs.Common.inl h) = absurd h
      by s (Rattle.std.proofs.Common.inr h) = absurd h

  abbrev RestsUnlessHalted : State → Type 0
  RestsUnlessHalted s = s.halted ≡ false → IsResting t legal fits moves s.world

  after_end : (o : Outcome) (v : World) → UnlessCut (Completes t legal fits moves) o v → is_cut o ≡ false → IsResting t legal fits moves v
  after_end (Ends d) v h e = h.0
  after_end (Cut cause) v h e = absurd (cc)

  led : {s u : State} {cs : List Command} → Leads t legal s cs u → RestsUnlessHalted s → RestsUnlessHalted u
  led Leads.stays h = h
  led (Leads.goes_on {s = s} (Replies.refuses r e) more) h = led more (refused RestsUnlessHalted s h h)
  led (Leads.goes_on {s = s} {c = c} (Replies.carries_out {o = o} {v = v} e r) more) h =
      led more (λ q. after_end o v (carried_out ⊥ s c o v (h (not_halted t s c e)) e r).1 q)

pub misses_nothing : (t : Tables) (legal : Legal) (Starved : Type 0) → MissesNothing t legal Starved
misses_nothing t legal Starved fits ticks depth cs s leads c e o v r =
    let m = moves t legal in
    (carried_out t legal fits m Starved s c o v (led t legal fits m leads (λ _. first t legal fits m ticks depth) (not_halted t s c e)) e r).0

pub throws_with_text : (t : Tables) (legal : Legal) (Starved : Type 0) → ThrowsWithText t legal Starved
throws_with_text t legal Starved fits ticks depth cs s leads c e x v r =
    let m = moves t legal in
    (carried_out t legal fits m Starved s c (Ends (Threw x)) v (led t legal fits m leads (λ _. first t legal fits m ticks depth) (not_halted t s c e)) e r).1.1
