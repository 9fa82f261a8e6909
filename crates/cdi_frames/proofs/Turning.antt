-- What the steps of a turn have come to, from one to the next.
use Rattle.std.proofs.Common.{ℕ, ◌≡◌, ◌∙◌, ◌<◌, ◌≤◌, ◌+◌, List, [], ◌∷◌, length, refl, ap, arith}
use Rattle.std.specs.Prelude.{Ok, IsErr}
use Rattle.std.specs.Prelude.{Result as Either}
use Rattle.cdi_base.specs.declared.entry.Entry.{Entry}
use Rattle.cdi_base.specs.declared.reply.Cause.TheVariants as causes
use Rattle.cdi_machine.specs.declared.driver.Failure.{Failure}
use Rattle.cdi_machine.specs.Tables.{Tables}
use Rattle.cdi_machine.specs.World.{World}
use Rattle.cdi_machine.specs.Runs as runs
use Rattle.cdi_machine.specs.Runs.{Legal}
use Rattle.cdi_machine.specs.Laws.{IsWithin}
use Rattle.cdi_machine.specs.Hearing.{Hearing, Ending, IsTold}
use Rattle.cdi_steps.specs.Words.{outcome_of}
use Rattle.cdi_steps.specs.Meanings.{first, after}
use Rattle.cdi_steps.specs.Ranks.{rank, back_rank}
use Rattle.cdi_steps.specs.Steps.{IsStep, Steps, Follows, nothing_legal}
use Rattle.cdi_steps.specs.Driving.{IsAskedFor, HasFailed}
use Rattle.cdi_steps.proofs.Made.{driven}
use Rattle.cdi_steps.specs.declared.task.Call.{Call}
use Rattle.cdi_steps.specs.declared.task.Continuation.{Continuation}
use Rattle.cdi_steps.specs.declared.task.Outcome.{Outcome}
use Rattle.cdi_steps.specs.declared.task.Outcome.TheVariants as outcomes
use Rattle.cdi_steps.specs.declared.task.Task.{Task}
use Rattle.cdi_steps.specs.declared.task.Task.TheVariants as tasks
use Rattle.cdi_steps.specs.declared.task.Frame.{Frame}
use Rattle.cdi_steps.specs.declared.task.Next.{Next}
use Rattle.cdi_steps.specs.declared.task.Next.TheVariants as nexts
use Rattle.cdi_frames.specs.declared.stack.Pending.TheVariants as pendings
use Rattle.cdi_frames.specs.declared.stack.Stack.{Stack}
use Rattle.cdi_frames.specs.declared.stack.Turn.{Turn}
use Rattle.cdi_frames.specs.declared.stack.Turn.TheVariants as turns
use Rattle.cdi_frames.specs.Stacks.{stack_at, stack_after, StepsTo, TurnsTo, AddsAtMost, KnownStack}
use Rattle.cdi_frames.specs.Hearing.{Written, Spent, PassesCut, HearsTurn, HasFailedAt}
use Rattle.cdi_frames.specs.Loads.{load_of}
use Rattle.cdi_frames.proofs.Kept.{comes_still}
use Rattle.cdi_frames.proofs.StaysKnown.{known_after, known_written, known_full}
use Rattle.cdi_frames.proofs.Stacks.{steps_run, steps_then, steps_before, does_step, gives_step, writes_step, fills_step, ends_step, turned_err, starves_here}
use Rattle.cdi_frames.proofs.Loads.{does_lowers, gives_lowers, writes_lowers, fills_lowers, grown_still, grown_written}
use Rattle.cdi_frames.proofs.Hearing.{asks_nothing, does_hears, gives_hears, writes_hears, fills_hears, ends_hears, turns_then, failed_at, failed_turn}

-- what is next, once it is told apart
pub task_is : {now : Next} {p q : Task} → now ≡ nexts.Goes p → p ≡ q → now ≡ nexts.Goes q
task_is e f = e ∙ ap nexts.Goes f

pub call_is : {now : Next} {p : Task} {c d : Call} → now ≡ nexts.Goes p → p ≡ tasks.Start c → c ≡ d → now ≡ nexts.Goes (tasks.Start d)
call_is e f h = e ∙ ap nexts.Goes (f ∙ ap tasks.Start h)

pub entry_is : {now : Next} {e : Entry} {x y : Continuation} → now ≡ nexts.Writes e x → x ≡ y → now ≡ nexts.Writes e y
entry_is {e = e} i f = i ∙ ap (nexts.Writes e) f

-- From this stack and world, where the driver had been through that, steps have led here.
pub record IsUnderWay (t : Tables) (legal : Legal) (before : Hearing → Type 0) (most : ℕ) (a : Stack) (w : World)
    (b : Stack) (heard : Hearing → Type 0) (u : World) : Type 0 where
  pub so_far : StepsTo t legal a w b u
  pub known : KnownStack t u b
  pub hears : HearsTurn before a w (turns.Running b) heard u
  pub grown : AddsAtMost most w u

module _ {t : Tables} {small large : Legal} (n : IsWithin small large) {before heard : Hearing → Type 0} {most : ℕ} {a : Stack} {w u : World} where
  -- ---- a task

  task_done : {later : Hearing → Type 0} (ks : List Frame) (p : Task) (next : Next) (v : World) → IsUnderWay t large before most a w (stack_at ks (pendings.Does p)) heard u
      → IsStep t small (first p) (rank p) u next v → IsAskedFor next heard later → IsUnderWay t large before most a w (stack_after ks next) later v
  task_done ks p next v h s x =
      let b = stack_at ks (pendings.Does p) in
      let c = stack_after ks next in
      let still = comes_still t s.leads in
      record {
        so_far = steps_then h.so_far (steps_before t n (does_step t small b c p next u v refl refl refl s.leads));
        known = known_after t ks next c v refl refl h.known.frames (s.known h.known.invoked) (s.invoked h.known.invoked);
        hears = turns_then (turns.Running c) h.hears (does_hears b c p next u v refl refl still.trace x);
        grown = grown_still h.grown still;
      }

  pub goes_done : {later : Hearing → Type 0} (ks : List Frame) (now next : Next) (p : Task) (v : World) → now ≡ nexts.Goes p → IsUnderWay t large before most a w (stack_after ks now) heard u
      → IsStep t small (first p) (rank p) u next v → IsAskedFor next heard later → IsUnderWay t large before most a w (stack_after ks next) later v
  goes_done ks now next p v e h s x = task_done ks p next v (rw e at h) s x

  -- and one for whose outcome a frame waits, which comes on the stack
  pub needs_done : (ks js : List Frame) (now : Next) (p : Task) (k : Frame) → now ≡ nexts.Needs p k → js ≡ k ∷ ks → IsUnderWay t large before most a w (stack_after ks now) heard u
      → IsUnderWay t large before most a w (stack_after js (nexts.Goes p)) heard u
  needs_done ks js now p k e f h = rw f (rw e at h)

  -- the same of a task for which no driver is asked
  pub goes_moves : (ks : List Frame) (now next : Next) (p : Task) (v : World) → now ≡ nexts.Goes p → IsUnderWay t large before most a w (stack_after ks now) heard u → Steps t (first p) (rank p) u next v
      → IsUnderWay t large before most a w (stack_after ks next) heard v
  goes_moves ks now next p v e h s = goes_done ks now next p v e h (driven small s) (asks_nothing next s.quiet)

  -- ---- a frame

  pub frame_done : (ks js : List Frame) (now next : Next) (o : Outcome) (k : Frame) (v : World) → now ≡ nexts.Finished o → ks ≡ k ∷ js → IsUnderWay t large before most a w (stack_after ks now) heard u
      → Steps t (after k o) (back_rank k o) u next v → PassesCut o u next v → IsUnderWay t large before most a w (stack_after js next) heard v
  frame_done ks js now next o k v e f h s q = by (rw (e, f) at h)
    where
      by : IsUnderWay t large before most a w (stack_at (k ∷ js) (pendings.Gives o)) heard u → IsUnderWay t large before most a w (stack_after js next) heard v
      by h =
          let b = stack_at (k ∷ js) (pendings.Gives o) in
          let c = stack_after js next in
          let d = driven small s in
          let still = comes_still t d.leads in
          record {
            so_far = steps_then h.so_far (steps_before t n (gives_step t small b c k js o next u v refl refl refl refl d.leads));
            known = known_after t js next c v refl refl h.known.frames.1 (s.known h.known.invoked) (s.invoked h.known.invoked);
            hears = turns_then (turns.Running c) h.hears (gives_hears heard b c o next u v refl refl still.trace s.quiet q);
            grown = grown_still h.grown still;
          }

  -- ---- an entry

  pub entry_done : {later : Hearing → Type 0} (first : ℕ) (ks : List Frame) (now : Next) (e : Entry) (x : Continuation) (v : World) → now ≡ nexts.Writes e x
      → IsUnderWay t large before most a w (stack_after ks now) heard u → first ≡ length w.trace → length u.trace < first + most → Written e u v → IsTold e heard later
      → IsUnderWay t large before most a w (stack_after ks (nexts.Goes (tasks.Continue x))) later v
  entry_done {later = later} first ks now e x v i h f r k l = by (rw i at h)
    where
      by : IsUnderWay t large before most a w (stack_at ks (pendings.Writes e x)) heard u → IsUnderWay t large before most a w (stack_at ks (pendings.Does (tasks.Continue x))) later v
      by h =
          let b = stack_at ks (pendings.Writes e x) in
          let c = stack_at ks (pendings.Does (tasks.Continue x)) in
          record {
            so_far = steps_then h.so_far (writes_step t large b c e x u v refl refl refl k);
            known = known_written t b c x e u v refl refl refl k h.known;
            hears = turns_then (turns.Running c) h.hears (writes_hears b c e x u v refl refl k l);
            grown = grown_written h.grown first e f r k;
          }

  -- and one that has no room
  pub entry_full : {later : Hearing → Type 0} (ks : List Frame) (now next : Next) (e : Entry) (x : Continuation) (v : World) → now ≡ nexts.Writes e x → next ≡ nexts.Finished (outcomes.Cut causes.Ticks)
      → IsUnderWay t large before most a w (stack_after ks now) heard u → Spent u v → ((h : Hearing) → heard h → later h) → IsUnderWay t large before most a w (stack_after ks next) later v
  entry_full {later = later} ks now next e x v i j h k l = rw j (by (rw i at h))
    where
      by : IsUnderWay t large before most a w (stack_at ks (pendings.Writes e x)) heard u → IsUnderWay t large before most a w (stack_at ks (pendings.Gives (outcomes.Cut causes.Ticks))) later v
      by h =
          let b = stack_at ks (pendings.Writes e x) in
          let c = stack_at ks (pendings.Gives (outcomes.Cut causes.Ticks)) in
          record {
            so_far = steps_then h.so_far (fills_step t large b c e x u v refl refl refl k);
            known = rw k.world (known_full t b c (outcomes.Cut causes.Ticks) u refl refl h.known);
            hears = turns_then (turns.Running c) h.hears (fills_hears b c e x u v refl refl k l);
            grown = rw k.world h.grown;
          }

  -- what comes after an entry
  pub follows_done : (ks : List Frame) (next : Next) (x : Continuation) (v : World) → IsUnderWay t large before most a w (stack_after ks (nexts.Goes (tasks.Continue x))) heard u → Follows t x u next v
      → IsUnderWay t large before most a w (stack_after ks next) heard v
  follows_done ks next x v h s = task_done ks (tasks.Continue x) next v h (driven small s) (asks_nothing next s.quiet)

-- ---- the end

module _ {t : Tables} {legal : Legal} {before heard : Hearing → Type 0} {most : ℕ} {a : Stack} {w u : World} (ks : List Frame) (now : Next) (o : Outcome) (e : now ≡ nexts.Finished o) (h : IsUnderWay t legal before most a w (stack_after ks now) heard u) where
  -- nothing waits for the outcome
  pub over_turned : ks ≡ [] → TurnsTo t legal a w (Ok (turns.Finished o)) u
  over_turned f = by (rw (e, f) at h)
    where
      by : IsUnderWay t legal before most a w (stack_at [] (pendings.Gives o)) heard u → TurnsTo t legal a w (Ok (turns.Finished o)) u
      by h = let b = stack_at [] (pendings.Gives o) in steps_run t legal ⊥ a b w u h.so_far (outcome_of o) u (ends_step t legal b o u refl refl)

  pub over_hears : HearsTurn before a w (turns.Finished o) heard u
  over_hears = by (rw e at h)
    where
      by : IsUnderWay t legal before most a w (stack_at ks (pendings.Gives o)) heard u → HearsTurn before a w (turns.Finished o) heard u
      by h = turns_then (turns.Finished o) h.hears (ends_hears heard (stack_at ks (pendings.Gives o)) o u refl)

-- ---- failures

module _ {t : Tables} {legal : Legal} {before heard : Hearing → Type 0} {most : ℕ} {a b : Stack} {w u : World} (h : IsUnderWay t legal before most a w b heard u) (v : World) (q : v ≡ u) where
  -- a step that had no memory, or for which the driver gave nothing, and that kept the world
  pub fails_turned : (x : Either Turn Failure) → IsErr x → TurnsTo t legal a w x v
  fails_turned x i = turned_err t legal a w v x i (steps_run t legal (Unit {0}) a b w u h.so_far (runs.Cut causes.Memory) v (starves_here t legal b u v q))

  pub fails_failed : {A B : Type 0} {later : Hearing → Type 0} {ended : Ending → Hearing → Type 0} {f : Failure} → HasFailed B heard later ended f → (B → A) → HasFailedAt A before a.pending w later ended v f
  fails_failed g m = failed_turn h.hears (failed_at b.pending u v q g) m

-- ---- loads

-- What each step of the loop lowers: a frame that is still to be put on the stack counts, too.
abbrev pub pushes : Next → ℕ
pushes (nexts.Needs p k) = 1
pushes _ = 0

abbrev pub turn_load : List Frame → Next → World → ℕ
turn_load ks next w = load_of (stack_after ks next) w + load_of (stack_after ks next) w + pushes next

pushes_most : (next : Next) → pushes next ≤ 1
pushes_most (nexts.Finished o) = omega arith
pushes_most (nexts.Goes p) = omega arith
pushes_most (nexts.Needs p k) = omega arith
pushes_most (nexts.Writes e x) = omega arith

less_twice : (m n x y : ℕ) → m < n → x ≤ 1 → m + m + x < n + n + y
less_twice m n x y h i = omega (arith, h, i)

one_less : (m : ℕ) → m + m + 0 < m + m + 1
one_less m = omega arith

turn_lowers : (ks js : List Frame) (now next : Next) (u v : World) → load_of (stack_after js next) v < load_of (stack_after ks now) u → turn_load js next v < turn_load ks now u
turn_lowers ks js now next u v h = less_twice _ _ _ (pushes now) h (pushes_most next)

pub needs_lowers : (ks js : List Frame) (now : Next) (p : Task) (k : Frame) (u : World) → now ≡ nexts.Needs p k → js ≡ k ∷ ks → turn_load js (nexts.Goes p) u < turn_load ks now u
needs_lowers ks js now p k u e f = rw (e, f) (one_less (load_of (stack_at (k ∷ ks) (pendings.Does p)) u))

module _ {t : Tables} {legal : Legal} {u v : World} where
  pub goes_lowers : (ks : List Frame) (now next : Next) (p : Task) → now ≡ nexts.Goes p → IsStep t legal (first p) (rank p) u next v → turn_load ks next v < turn_load ks now u
  goes_lowers ks now next p e s = turn_lowers ks ks now next u v (rw e (does_lowers t legal (stack_at ks (pendings.Does p)) (stack_after ks next) p next u v refl refl refl s.leads s.lowers))

pub frame_lowers : {t : Tables} {u v : World} (ks js : List Frame) (now next : Next) (o : Outcome) (k : Frame) → now ≡ nexts.Finished o → ks ≡ k ∷ js → Steps t (after k o) (back_rank k o) u next v
    → turn_load js next v < turn_load ks now u
frame_lowers {t} {u} {v} ks js now next o k e f s =
    turn_lowers ks js now next u v (rw (e, f) (gives_lowers (stack_at (k ∷ js) (pendings.Gives o)) (stack_after js next) js k o next u v refl refl refl refl (comes_still t s.leads) s.lowers))

pub full_lowers : {u v : World} (ks : List Frame) (now next : Next) (e : Entry) (x : Continuation) → now ≡ nexts.Writes e x → next ≡ nexts.Finished (outcomes.Cut causes.Ticks) → Spent u v
    → turn_load ks next v < turn_load ks now u
full_lowers {u} {v} ks now next e x i j k =
    turn_lowers ks ks now next u v (rw (i, j) (fills_lowers (stack_at ks (pendings.Writes e x)) (stack_at ks (pendings.Gives (outcomes.Cut causes.Ticks))) e x u v refl refl refl k))

-- an entry, and what comes after it
pub entry_lowers : {t : Tables} {w u v : World} (ks : List Frame) (now next : Next) (e : Entry) (x : Continuation) → now ≡ nexts.Writes e x → Written e w u → Follows t x u next v
    → turn_load ks next v < turn_load ks now w
entry_lowers {t} {w} {u} {v} ks now next e x i k s =
    turn_lowers ks ks now next w v (rw i (
    let a = writes_lowers (stack_at ks (pendings.Writes e x)) (stack_at ks (pendings.Does (tasks.Continue x))) e x w u refl refl refl k in
    let b = does_lowers t nothing_legal (stack_at ks (pendings.Does (tasks.Continue x))) (stack_after ks next) (tasks.Continue x) next u v refl refl refl s.leads s.lowers in
    omega (arith, a, b)))
