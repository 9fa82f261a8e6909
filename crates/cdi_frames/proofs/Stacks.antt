-- Steps of a stack are runs of the program that it means.
use Rattle.std.proofs.Common.{List, [], ◌∷◌, ◌≡◌, sym, true≢false}
use Rattle.std.specs.Prelude.{Ok, Err, IsErr}
use Rattle.std.specs.Prelude.{Result as Either}
use Rattle.cdi_base.specs.declared.reply.Cause.TheVariants as causes
use Rattle.cdi_machine.specs.declared.driver.Failure.{Failure}
use Rattle.cdi_machine.specs.Tables.{Tables, written_act}
use Rattle.cdi_machine.specs.World.{World, with_entry}
use Rattle.cdi_machine.specs.Programs.{Given, Completion, Gave, Threw, Prog, ret, throw, cut, miss, see, change, tick, mark, act, choose, nested}
use Rattle.cdi_machine.specs.Runs as runs
use Rattle.cdi_machine.specs.Runs.{Legal, Runs, rest_after}
use Rattle.cdi_steps.specs.Words.{outcome_of}
use Rattle.cdi_steps.specs.Meanings.{over, around, node, first, continuation, waits, after}
use Rattle.cdi_steps.specs.Leads.{Comes}
use Rattle.cdi_steps.proofs.Ways.{wider_comes}
use Rattle.cdi_machine.specs.Laws.{IsWithin}
use Rattle.cdi_base.specs.declared.entry.Entry.{Entry}
use Rattle.cdi_steps.specs.declared.task.Continuation.{Continuation}
use Rattle.cdi_steps.specs.declared.task.Task.TheVariants as tasks
use Rattle.cdi_frames.specs.Hearing.{Written, Spent}
use Rattle.cdi_steps.specs.declared.task.Outcome.{Outcome}
use Rattle.cdi_steps.specs.declared.task.Outcome.TheVariants as outcomes
use Rattle.cdi_steps.specs.declared.task.Task.{Task}
use Rattle.cdi_steps.specs.declared.task.Frame.{Frame}
use Rattle.cdi_steps.specs.declared.task.Next.{Next}
use Rattle.cdi_steps.specs.declared.task.Next.TheVariants as nexts
use Rattle.cdi_frames.specs.declared.stack.Pending.{Pending}
use Rattle.cdi_frames.specs.declared.stack.Pending.TheVariants as pendings
use Rattle.cdi_frames.specs.declared.stack.Stack.{Stack}
use Rattle.cdi_frames.specs.declared.stack.Turn.{Turn}
use Rattle.cdi_frames.specs.declared.stack.Turn.TheVariants as turns
use Rattle.cdi_frames.specs.Stacks.{program_ahead, program_within, program_of, frames_with, pending_for, Steps, StepsTo, TurnsTo}
use Rattle.cdi_frames.proofs.Sound.{from_comes, full_in, around_runs, needed_runs, rest_runs, over_runs, wider}

-- a run of what is inside, and one of what is around it
pub record Then (A B : runs.Outcome → World → Type 0) : Type 0 where
  pub outcome : runs.Outcome
  pub world : World
  pub inner : A outcome world
  pub outer : B outcome world

module _ (tables : Tables) (legal : Legal) (Starved : Type 0) where
  abbrev R : Prog Given → World → runs.Outcome → World → Type 0
  R p w o v = Runs tables legal Starved p w o v

  -- the runs of what is next, and of what waits, one after the other
  abbrev Left : List Frame → Prog Given → World → runs.Outcome → World → Type 0
  Left [] p w o v = R p w o v
  Left (k ∷ ks) p w o v = Then (λ a u. R p w a u) (λ a u. Left ks (rest_after a (waits k)) u o v)

  -- what runs alike in front runs alike before what waits
  left_map : (ks : List Frame) (p q : Prog Given) (w u : World) → ((o : runs.Outcome) (v : World) → R q u o v → R p w o v)
      → (o : runs.Outcome) (v : World) → Left ks q u o v → Left ks p w o v
  left_map [] p q w u f o v h = f o v h
  left_map (k ∷ ks) p q w u f o v h = record { outcome = h.outcome; world = h.world; inner = f h.outcome h.world h.inner; outer = h.outer }

  -- a run of a program with something around it is one of the program, and then one of that
  around_splits : (p : Prog Given) (k : Completion Given → Prog Given) (w : World) (o : runs.Outcome) (v : World) → R (around p k) w o v
      → Then (λ a u. R p w a u) (λ a u. R (rest_after a k) u o v)
  around_splits (ret g) k w o v r = record { outcome = runs.Ends (Gave g); world = w; inner = Runs.returns; outer = r }
  around_splits (throw x) k w o v r = record { outcome = runs.Ends (Threw x); world = w; inner = Runs.throws; outer = r }
  around_splits (cut c) k w o v r = record { outcome = runs.Cut c; world = w; inner = Runs.cuts; outer = r }
  around_splits (miss p) k w o v (Runs.misses r) =
      let h = around_splits p k w o v r in record { outcome = h.outcome; world = h.world; inner = Runs.misses h.inner; outer = h.outer }
  around_splits (miss p) k w o v (Runs.starves s) = record { outcome = runs.Cut causes.Memory; world = w; inner = Runs.starves s; outer = Runs.cuts }
  around_splits (see f) k w o v (Runs.sees r) =
      let h = around_splits (f tables w) k w o v r in record { outcome = h.outcome; world = h.world; inner = Runs.sees h.inner; outer = h.outer }
  around_splits (see f) k w o v (Runs.starves s) = record { outcome = runs.Cut causes.Memory; world = w; inner = Runs.starves s; outer = Runs.cuts }
  around_splits (change g p) k w o v (Runs.changes r) =
      let h = around_splits p k _ o v r in record { outcome = h.outcome; world = h.world; inner = Runs.changes h.inner; outer = h.outer }
  around_splits (change g p) k w o v (Runs.starves s) = record { outcome = runs.Cut causes.Memory; world = w; inner = Runs.starves s; outer = Runs.cuts }
  around_splits (tick e p) k w o v (Runs.writes room r) =
      let h = around_splits p k _ o v r in record { outcome = h.outcome; world = h.world; inner = Runs.writes room h.inner; outer = h.outer }
  around_splits (tick e p) k w o v (Runs.is_full full) = record { outcome = runs.Cut causes.Ticks; world = w; inner = Runs.is_full full; outer = Runs.cuts }
  around_splits (tick e p) k w o v (Runs.starves s) = record { outcome = runs.Cut causes.Memory; world = w; inner = Runs.starves s; outer = Runs.cuts }
  around_splits (mark n p) k w o v (Runs.marks r) =
      let h = around_splits p k w o v r in record { outcome = h.outcome; world = h.world; inner = Runs.marks h.inner; outer = h.outer }
  around_splits (mark n p) k w o v (Runs.starves s) = record { outcome = runs.Cut causes.Memory; world = w; inner = Runs.starves s; outer = Runs.cuts }
  around_splits (act b fields view f) k w o v (Runs.does a l (Runs.writes room r)) =
      let h = around_splits (f (written_act tables a)) k _ o v r in record { outcome = h.outcome; world = h.world; inner = Runs.does a l (Runs.writes room h.inner); outer = h.outer }
  around_splits (act b fields view f) k w o v (Runs.does a l (Runs.is_full full)) = record { outcome = runs.Cut causes.Ticks; world = w; inner = Runs.does a l (Runs.is_full full); outer = Runs.cuts }
  around_splits (act b fields view f) k w o v (Runs.does a l (Runs.starves s)) = record { outcome = runs.Cut causes.Memory; world = w; inner = Runs.starves s; outer = Runs.cuts }
  around_splits (act b fields view f) k w o v (Runs.starves s) = record { outcome = runs.Cut causes.Memory; world = w; inner = Runs.starves s; outer = Runs.cuts }
  around_splits (choose n f) k w o v (Runs.picks i b l (Runs.writes room r)) =
      let h = around_splits (f i) k _ o v r in record { outcome = h.outcome; world = h.world; inner = Runs.picks i b l (Runs.writes room h.inner); outer = h.outer }
  around_splits (choose n f) k w o v (Runs.picks i b l (Runs.is_full full)) = record { outcome = runs.Cut causes.Ticks; world = w; inner = Runs.picks i b l (Runs.is_full full); outer = Runs.cuts }
  around_splits (choose n f) k w o v (Runs.picks i b l (Runs.starves s)) = record { outcome = runs.Cut causes.Memory; world = w; inner = Runs.starves s; outer = Runs.cuts }
  around_splits (choose n f) k w o v (Runs.starves s) = record { outcome = runs.Cut causes.Memory; world = w; inner = Runs.starves s; outer = Runs.cuts }
  around_splits (nested c f) k w o v (Runs.calls {u = u} {o1 = runs.Ends g} a b) =
      let h = around_splits (f g) k u o v b in record { outcome = h.outcome; world = h.world; inner = Runs.calls a h.inner; outer = h.outer }
  around_splits (nested c f) k w o v (Runs.calls {u = u} {o1 = runs.Cut cause} a b) = record { outcome = runs.Cut cause; world = u; inner = Runs.calls a Runs.cuts; outer = b }
  around_splits (nested c f) k w o v (Runs.starves s) = record { outcome = runs.Cut causes.Memory; world = w; inner = Runs.starves s; outer = Runs.cuts }

  -- the runs of a stack, one after the other, are those of the one program
  pub to_within : (ks : List Frame) (p : Prog Given) (w : World) (o : runs.Outcome) (v : World) → Left ks p w o v → R (program_within ks p) w o v
  to_within [] p w o v h = h
  to_within (k ∷ ks) p w o v h =
      to_within ks (around p (waits k)) w o v (left_map ks (around p (waits k)) (rest_after h.outcome (waits k)) w h.world (λ a u r. around_runs tables legal Starved (waits k) h.inner r) o v h.outer)

  pub from_within : (ks : List Frame) (p : Prog Given) (w : World) (o : runs.Outcome) (v : World) → R (program_within ks p) w o v → Left ks p w o v
  from_within [] p w o v r = r
  from_within (k ∷ ks) p w o v r = by ks (from_within ks (around p (waits k)) w o v r)
    where
      by : (js : List Frame) → Left js (around p (waits k)) w o v → Left (k ∷ js) p w o v
      by [] h = let s = around_splits p (waits k) w o v h in record { outcome = s.outcome; world = s.world; inner = s.inner; outer = s.outer }
      by (j ∷ js) h =
          let s = around_splits p (waits k) w h.outcome h.world h.inner in
          record { outcome = s.outcome; world = s.world; inner = s.inner; outer = record { outcome = h.outcome; world = h.world; inner = s.outer; outer = h.outer } }

  -- ---- one step

  -- what a step needs is in front, and what waits for it behind
  pushed : (ks : List Frame) (d : Task) (k : Frame) (w : World) (o : runs.Outcome) (v : World) → Left (k ∷ ks) (first d) w o v → Left ks (node (nexts.Needs d k)) w o v
  pushed ks d k w o v h =
      left_map ks (node (nexts.Needs d k)) (rest_after h.outcome (waits k)) w h.world (λ a u r. needed_runs tables legal Starved d k h.inner r) o v h.outer

  popped : (ks : List Frame) (k : Frame) (a : Outcome) (w : World) (o : runs.Outcome) (v : World) → Left ks (after k a) w o v → Left (k ∷ ks) (over a) w o v
  popped ks k (outcomes.Ends c) w o v h = record { outcome = outcome_of (outcomes.Ends c); world = w; inner = over_runs tables legal Starved (outcomes.Ends c); outer = h }
  popped ks k (outcomes.Cut cause) w o v h = record { outcome = outcome_of (outcomes.Cut cause); world = w; inner = over_runs tables legal Starved (outcomes.Cut cause); outer = h }

  placed : (ks : List Frame) (next : Next) (w : World) (o : runs.Outcome) (v : World) → Left (frames_with ks next) (program_ahead (pending_for next)) w o v → Left ks (node next) w o v
  placed ks (nexts.Finished a) w o v h = h
  placed ks (nexts.Goes t) w o v h = left_map ks (node (nexts.Goes t)) (first t) w w (λ a u r. rest_runs tables legal Starved t r) o v h
  placed ks (nexts.Needs d k) w o v h = pushed ks d k w o v h
  placed ks (nexts.Writes e a) w o v h = h

  pub starved : Starved → (ks : List Frame) (p : Prog Given) (w : World) → Left ks p w (runs.Cut causes.Memory) w
  starved s [] p w = Runs.starves s
  starved s (k ∷ ks) p w = record { outcome = runs.Cut causes.Memory; world = w; inner = Runs.starves s; outer = starved s ks (cut causes.Memory) w }

module _ (t : Tables) (legal : Legal) (Starved : Type 0) where
  -- what a stack meant follows from what it means after its steps
  steps_left : {ks js : List Frame} {d e : Pending} {w u : World} → Steps t legal ks d w js e u → (o : runs.Outcome) (v : World)
      → Left t legal Starved js (program_ahead e) u o v → Left t legal Starved ks (program_ahead d) w o v
  steps_left Steps.stays o v h = h
  steps_left (Steps.does {ks = ks} {p = p} {w = w} {u = u} next m r) o v h =
      left_map t legal Starved ks (first p) (node next) w u (λ a x y. from_comes t legal Starved m y) o v
      (placed t legal Starved ks next u o v (steps_left r o v h))
  steps_left (Steps.gives {ks = ks} {k = k} {o = a} {w = w} {u = u} next m r) o v h =
      popped t legal Starved ks k a w o v
      (left_map t legal Starved ks (after k a) (node next) w u (λ b x y. from_comes t legal Starved m y) o v
      (placed t legal Starved ks next u o v (steps_left r o v h)))
  steps_left (Steps.writes {ks = ks} {a = a} {i = i} {w = w} room r) o v h =
      left_map t legal Starved ks (tick i (continuation a)) (continuation a) w (with_entry i w) (λ b x y. Runs.writes room y) o v (steps_left r o v h)
  steps_left (Steps.fills {ks = ks} {a = a} {i = i} {w = w} full r) o v h =
      left_map t legal Starved ks (tick i (continuation a)) (cut causes.Ticks) w w (λ b x y. full_in t legal Starved full y) o v (steps_left r o v h)

  pub steps_run : (a b : Stack) (w u : World) → StepsTo t legal a w b u → (o : runs.Outcome) (v : World)
      → Runs t legal Starved (program_of b) u o v → Runs t legal Starved (program_of a) w o v
  steps_run a b w u r o v h =
      to_within t legal Starved a.frames (program_ahead a.pending) w o v
      (steps_left r o v (from_within t legal Starved b.frames (program_ahead b.pending) u o v h))

-- ---- steps in a row

pub steps_then : {t : Tables} {legal : Legal} {ks js is : List Frame} {d e f : Pending} {w u v : World} → Steps t legal ks d w js e u → Steps t legal js e u is f v → Steps t legal ks d w is f v
steps_then Steps.stays r = r
steps_then (Steps.does next m q) r = Steps.does next m (steps_then q r)
steps_then (Steps.gives next m q) r = Steps.gives next m (steps_then q r)
steps_then (Steps.writes room q) r = Steps.writes room (steps_then q r)
steps_then (Steps.fills full q) r = Steps.fills full (steps_then q r)

module _ (t : Tables) {small large : Legal} (n : IsWithin small large) where
  pub steps_before : {ks js : List Frame} {d e : Pending} {w v : World} → Steps t small ks d w js e v → Steps t large ks d w js e v
  steps_before Steps.stays = Steps.stays
  steps_before (Steps.does next m q) = Steps.does next (wider_comes n m) (steps_before q)
  steps_before (Steps.gives next m q) = Steps.gives next (wider_comes n m) (steps_before q)
  steps_before (Steps.writes room q) = Steps.writes room (steps_before q)
  steps_before (Steps.fills full q) = Steps.fills full (steps_before q)

  -- a turn after steps
  pub turned_after : (a b : Stack) (w u : World) (x : Either Turn Failure) (v : World) → StepsTo t large a w b u → TurnsTo t small b u x v → TurnsTo t large a w x v
  turned_after a b w u (Ok (turns.Running c)) v q h = steps_then q (steps_before h)
  turned_after a b w u (Ok (turns.Finished o)) v q h = steps_run t large ⊥ a b w u q (outcome_of o) v (wider n (λ x. x) h)
  turned_after a b w u (Err failure) v q h = steps_run t large (Unit {0}) a b w u q (runs.Cut causes.Memory) v (wider n (λ x. x) h)

-- ---- what one step comes to

module _ (t : Tables) (legal : Legal) where
  -- a task's step, and the stack after it
  pub does_step : (a b : Stack) (p : Task) (next : Next) (w v : World) → a.pending ≡ pendings.Does p → b.frames ≡ frames_with a.frames next → b.pending ≡ pending_for next
      → Comes t legal (first p) w (node next) v → StepsTo t legal a w b v
  does_step a b p next w v e f g m = rw (e, f, g) (Steps.does next m Steps.stays)

  pub gives_step : (a b : Stack) (k : Frame) (ks : List Frame) (o : Outcome) (next : Next) (w v : World) → a.frames ≡ k ∷ ks → a.pending ≡ pendings.Gives o
      → b.frames ≡ frames_with ks next → b.pending ≡ pending_for next → Comes t legal (after k o) w (node next) v → StepsTo t legal a w b v
  gives_step a b k ks o next w v c e f g m = rw (c, e, f, g) (Steps.gives next m Steps.stays)

  -- an entry that is written, and one that has no room
  pub writes_step : (a b : Stack) (i : Entry) (x : Continuation) (w v : World) → a.pending ≡ pendings.Writes i x → b.frames ≡ a.frames → b.pending ≡ pendings.Does (tasks.Continue x)
      → Written i w v → StepsTo t legal a w b v
  writes_step a b i x w v e f g k = rw (e, f, g, k.world) (Steps.writes k.room Steps.stays)

  pub fills_step : (a b : Stack) (i : Entry) (x : Continuation) (w v : World) → a.pending ≡ pendings.Writes i x → b.frames ≡ a.frames → b.pending ≡ pendings.Gives (outcomes.Cut causes.Ticks)
      → Spent w v → StepsTo t legal a w b v
  fills_step a b i x w v e f g k = rw (e, f, g, k.world) (Steps.fills k.full Steps.stays)

  -- nothing waits for the outcome
  pub ends_step : (a : Stack) (o : Outcome) (w : World) → a.frames ≡ [] → a.pending ≡ pendings.Gives o → Runs t legal ⊥ (program_of a) w (outcome_of o) w
  ends_step a o w c e = rw (c, e) (over_runs t legal ⊥ o)

  -- ---- failures

  abbrev pub Starves : Stack → World → World → Type 0
  Starves a w v = Runs t legal (Unit {0}) (program_of a) w (runs.Cut causes.Memory) v

  pub turned_err : (a : Stack) (w v : World) (x : Either Turn Failure) → IsErr x → Starves a w v → TurnsTo t legal a w x v
  turned_err a w v (Ok o) h r = absurd (true≢false (sym h))
  turned_err a w v (Err e) h r = r

  -- nothing has changed
  pub starves_here : (a : Stack) (w v : World) → v ≡ w → Starves a w v
  starves_here a w v e = rw e (Runs.starves tt)
