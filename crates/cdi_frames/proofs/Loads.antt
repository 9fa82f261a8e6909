-- Each step lowers the load of a stack.
use Rattle.std.proofs.Common.{ℕ, zero, suc, ◌≡◌, ◌+◌, ◌-◌, ◌*◌, ◌^◌, ◌<◌, ◌≤◌, List, [], ◌∷◌, length, refl, ap, arith}
use Rattle.std.proofs.Math.Nat.{mul-le-mul_right, suc-mul}
use Rattle.cdi_machine.specs.Tables.{Tables}
use Rattle.cdi_machine.specs.World.{World, with_entry}
use Rattle.cdi_machine.specs.Runs.{Legal, Runs}
use Rattle.cdi_steps.specs.Words.{outcome_of}
use Rattle.cdi_steps.specs.Meanings.{first, node}
use Rattle.cdi_steps.specs.Leads.{Comes}
use Rattle.cdi_steps.specs.Ranks.{rank, continuation_rank, frame_rank, thrown_rank, awaited_rank, back_rank, weight}
use Rattle.cdi_steps.proofs.Ranks.{rank_below, frame_below, thrown_below, thrown_above}
use Rattle.cdi_machine.proofs.Order.{Still, longer}
use Rattle.cdi_frames.proofs.Kept.{comes_still, still_left, body_left, destroy_left, fire_left}
use Rattle.cdi_frames.specs.Hearing.{Written, Spent}
use Rattle.cdi_base.specs.declared.entry.Entry.{Entry}
use Rattle.cdi_base.specs.declared.reply.Cause.TheVariants as causes
use Rattle.cdi_steps.specs.declared.task.Continuation.{Continuation}
use Rattle.cdi_steps.specs.declared.task.Continuation.TheVariants as continuations
use Rattle.cdi_steps.specs.declared.task.Call.{Call}
use Rattle.cdi_steps.specs.declared.task.Call.TheVariants as calls
use Rattle.cdi_steps.specs.declared.task.Completion.TheVariants as completions
use Rattle.cdi_steps.specs.declared.task.Outcome.{Outcome}
use Rattle.cdi_steps.specs.declared.task.Outcome.TheVariants as outcomes
use Rattle.cdi_steps.specs.declared.task.Task.{Task}
use Rattle.cdi_steps.specs.declared.task.Task.TheVariants as tasks
use Rattle.cdi_steps.specs.declared.task.Frame.{Frame}
use Rattle.cdi_steps.specs.declared.task.Next.{Next}
use Rattle.cdi_steps.specs.declared.task.Next.TheVariants as nexts
use Rattle.cdi_frames.specs.declared.stack.Pending.{Pending}
use Rattle.cdi_frames.specs.declared.stack.Pending.TheVariants as pendings
use Rattle.cdi_frames.specs.declared.stack.Stack.{Stack}
use Rattle.cdi_frames.specs.Stacks.{frames_with, pending_for, entries_left, AddsAtMost, StopsAt, IsDue}
use Rattle.cdi_frames.specs.Loads.{mass, greatest_mass, top_rank, behind_load, frames_load, own_load, load_of}
use Rattle.cdi_frames.proofs.Sound.{from_comes, over_runs}

-- ---- numbers

mass_suc : (n : ℕ) → mass (suc n) ≡ mass n + mass n + mass n
unfolding mass
mass_suc n = refl

mass_above : (n : ℕ) → 0 < mass n
unfolding mass
mass_above zero = omega arith
mass_above (suc n) = let h = mass_above n in omega (arith, h)

mass_more : (n : ℕ) → 0 < n → 1 < mass n
mass_more zero h = absurd (omega (arith, h))
mass_more (suc n) h = let a = mass_suc n in let b = mass_above n in omega (arith, a, b)

mass_up : (d m n : ℕ) → n ≡ d + m → mass m ≤ mass n
mass_up zero m n e = let q : n ≡ m = omega (arith, e) in rw q (omega arith)
mass_up (suc d) m zero e = absurd (omega (arith, e))
mass_up (suc d) m (suc n) e = let h : mass m ≤ mass n = mass_up d m n (omega (arith, e)) in let s = mass_suc n in omega (arith, s, h)

mass_le : (m n : ℕ) → m ≤ n → mass m ≤ mass n
mass_le m n h = mass_up (n - m) m n (omega (arith, h))

-- two lower ranks, and one more
mass_less : (m n : ℕ) → m < n → mass m + mass m + mass m ≤ mass n
mass_less m n h = let a = mass_suc m in let b = mass_le (suc m) n (omega (arith, h)) in omega (arith, a, b)

mass_bound : (n : ℕ) → n < 2 ^ 200 → mass n + mass n + mass n ≤ greatest_mass
unfolding greatest_mass
mass_bound n h = mass_less n (2 ^ 200) h

greatest_mass_above : 0 < greatest_mass
unfolding greatest_mass
greatest_mass_above = mass_above (2 ^ 200)

fewer : (a b c : ℕ) → a < b → a * c + c ≤ b * c
fewer a b c h = let l : suc a * c ≤ b * c = mul-le-mul_right {m = suc a} {n = b} c (omega (arith, h)) in rw suc-mul at l

-- ---- ranks

rank_above : (t : Task) → 0 < rank t
rank_above (tasks.Start (calls.Obtain b)) = omega arith
rank_above (tasks.Start _) = omega arith
rank_above (tasks.Continue a) = by a
  where
    by : (a : Continuation) → 0 < continuation_rank a
    by (continuations.Making n b owner) = omega arith
    by _ = omega arith
rank_above _ = omega arith

top_below : (d : Pending) (k : Frame) → top_rank d k ≤ frame_rank k
top_below (pendings.Does t) k = awaited_most t k
  where
    call_most : (c : Call) (k : Frame) → awaited_rank (tasks.Start c) k ≤ frame_rank k
    call_most (calls.Destroy n) k = let a = thrown_above k in let b = thrown_below k in omega (arith, a, b)
    call_most (calls.Obtain b) k = let b = thrown_below k in omega (arith, b)
    call_most (calls.Create b owner) k = let b = thrown_below k in omega (arith, b)
    call_most (calls.Intercept i n) k = let b = thrown_below k in omega (arith, b)
    call_most (calls.Rest chain) k = let b = thrown_below k in omega (arith, b)
    call_most (calls.Body r) k = let a = thrown_above k in let b = thrown_below k in omega (arith, a, b)
    call_most (calls.Acts r) k = let b = thrown_below k in omega (arith, b)
    call_most (calls.Release n) k = let b = thrown_below k in omega (arith, b)
    call_most (calls.Fire event) k = let a = thrown_above k in let b = thrown_below k in omega (arith, a, b)
    call_most (calls.Publish event) k = let b = thrown_below k in omega (arith, b)
    call_most (calls.Notify n) k = let b = thrown_below k in omega (arith, b)
    call_most calls.Dismiss k = let b = thrown_below k in omega (arith, b)
    call_most (calls.Clear c) k = let b = thrown_below k in omega (arith, b)

    awaited_most : (t : Task) (k : Frame) → awaited_rank t k ≤ frame_rank k
    awaited_most (tasks.Start c) k = call_most c k
    awaited_most (tasks.Begin job) k = let b = thrown_below k in omega (arith, b)
    awaited_most (tasks.Using used) k = let b = thrown_below k in omega (arith, b)
    awaited_most (tasks.Through call) k = let b = thrown_below k in omega (arith, b)
    awaited_most (tasks.Creating n b left) k = let b = thrown_below k in omega (arith, b)
    awaited_most (tasks.Providing p) k = let b = thrown_below k in omega (arith, b)
    awaited_most (tasks.Calling p) k = let b = thrown_below k in omega (arith, b)
    awaited_most (tasks.Receiving p) k = let b = thrown_below k in omega (arith, b)
    awaited_most (tasks.Supplying p) k = let b = thrown_below k in omega (arith, b)
    awaited_most (tasks.Continue a) k = let b = thrown_below k in omega (arith, b)
top_below (pendings.Gives (outcomes.Cut cause)) k = let a = thrown_above k in let b = thrown_below k in omega (arith, a, b)
top_below (pendings.Gives (outcomes.Ends (completions.Gave g))) k = omega arith
top_below (pendings.Gives (outcomes.Ends (completions.Threw x))) k = thrown_below k
top_below (pendings.Writes e a) k = let b = thrown_above k in let c = thrown_below k in omega (arith, b, c)

-- what goes on without an entry is no destruction, no body and no event
same_top : (t : Task) → 1 < rank t → (k : Frame) → frame_rank k ≤ top_rank (pendings.Does t) k
same_top (tasks.Start c) h k = by c h
  where
    by : (c : Call) → 1 < rank (tasks.Start c) → frame_rank k ≤ top_rank (pendings.Does (tasks.Start c)) k
    by (calls.Destroy n) h = absurd (omega (arith, h))
    by (calls.Obtain b) h = omega arith
    by (calls.Create b owner) h = omega arith
    by (calls.Intercept i n) h = omega arith
    by (calls.Rest chain) h = omega arith
    by (calls.Body r) h = absurd (omega (arith, h))
    by (calls.Acts r) h = omega arith
    by (calls.Release n) h = omega arith
    by (calls.Fire event) h = absurd (omega (arith, h))
    by (calls.Publish event) h = omega arith
    by (calls.Notify n) h = omega arith
    by calls.Dismiss h = omega arith
    by (calls.Clear c) h = omega arith
same_top (tasks.Begin job) h k = omega arith
same_top (tasks.Using used) h k = omega arith
same_top (tasks.Through call) h k = omega arith
same_top (tasks.Creating n b left) h k = omega arith
same_top (tasks.Providing p) h k = omega arith
same_top (tasks.Calling p) h k = omega arith
same_top (tasks.Receiving p) h k = omega arith
same_top (tasks.Supplying p) h k = omega arith
same_top (tasks.Continue a) h k = omega arith

awaited_above : (t : Task) (k : Frame) → 1 ≤ top_rank (pendings.Does t) k
awaited_above t k = by t
  where
    call : (c : Call) → 1 ≤ top_rank (pendings.Does (tasks.Start c)) k
    call (calls.Fire event) = omega arith
    call (calls.Obtain b) = let a = thrown_above k in omega (arith, a)
    call (calls.Create b owner) = let a = thrown_above k in omega (arith, a)
    call (calls.Intercept i n) = let a = thrown_above k in omega (arith, a)
    call (calls.Rest chain) = let a = thrown_above k in omega (arith, a)
    call (calls.Body r) = let a = thrown_above k in omega (arith, a)
    call (calls.Acts r) = let a = thrown_above k in omega (arith, a)
    call (calls.Destroy n) = let a = thrown_above k in omega (arith, a)
    call (calls.Release n) = let a = thrown_above k in omega (arith, a)
    call (calls.Publish event) = let a = thrown_above k in omega (arith, a)
    call (calls.Notify n) = let a = thrown_above k in omega (arith, a)
    call calls.Dismiss = let a = thrown_above k in omega (arith, a)
    call (calls.Clear c) = let a = thrown_above k in omega (arith, a)

    by : (t : Task) → 1 ≤ top_rank (pendings.Does t) k
    by (tasks.Start c) = call c
    by (tasks.Begin job) = let a = thrown_above k in omega (arith, a)
    by (tasks.Using used) = let a = thrown_above k in omega (arith, a)
    by (tasks.Through call) = let a = thrown_above k in omega (arith, a)
    by (tasks.Creating n b left) = let a = thrown_above k in omega (arith, a)
    by (tasks.Providing p) = let a = thrown_above k in omega (arith, a)
    by (tasks.Calling p) = let a = thrown_above k in omega (arith, a)
    by (tasks.Receiving p) = let a = thrown_above k in omega (arith, a)
    by (tasks.Supplying p) = let a = thrown_above k in omega (arith, a)
    by (tasks.Continue a) = let a = thrown_above k in omega (arith, a)

module _ (tables : Tables) (legal : Legal) where
  -- what ended without an entry is gone on with at no greater rank
  ended_top : (t : Task) (o : Outcome) (w v : World) → Runs tables legal ⊥ (first t) w (outcome_of o) v → entries_left v ≡ entries_left w
      → (k : Frame) → top_rank (pendings.Gives o) k ≤ top_rank (pendings.Does t) k
  ended_top t (outcomes.Cut cause) w v r e k = awaited_above t k
  ended_top t (outcomes.Ends (completions.Threw x)) w v r e k = by t r
    where
      call : (c : Call) → Runs tables legal ⊥ (first (tasks.Start c)) w (outcome_of (outcomes.Ends (completions.Threw x))) v → thrown_rank k ≤ top_rank (pendings.Does (tasks.Start c)) k
      call (calls.Fire event) r = let l = fire_left tables legal event r in absurd (omega (arith, l, e))
      call (calls.Obtain b) r = omega arith
      call (calls.Create b owner) r = omega arith
      call (calls.Intercept i n) r = omega arith
      call (calls.Rest chain) r = omega arith
      call (calls.Body q) r = omega arith
      call (calls.Acts q) r = omega arith
      call (calls.Destroy n) r = omega arith
      call (calls.Release n) r = omega arith
      call (calls.Publish event) r = omega arith
      call (calls.Notify n) r = omega arith
      call calls.Dismiss r = omega arith
      call (calls.Clear c) r = omega arith

      by : (t : Task) → Runs tables legal ⊥ (first t) w (outcome_of (outcomes.Ends (completions.Threw x))) v → thrown_rank k ≤ top_rank (pendings.Does t) k
      by (tasks.Start c) r = call c r
      by (tasks.Begin job) r = omega arith
      by (tasks.Using used) r = omega arith
      by (tasks.Through call) r = omega arith
      by (tasks.Creating n b left) r = omega arith
      by (tasks.Providing p) r = omega arith
      by (tasks.Calling p) r = omega arith
      by (tasks.Receiving p) r = omega arith
      by (tasks.Supplying p) r = omega arith
      by (tasks.Continue a) r = omega arith
  ended_top t (outcomes.Ends (completions.Gave g)) w v r e k = by t r
    where
      by : (t : Task) → Runs tables legal ⊥ (first t) w (outcome_of (outcomes.Ends (completions.Gave g))) v → frame_rank k ≤ top_rank (pendings.Does t) k
      by (tasks.Start (calls.Destroy n)) r = let l = destroy_left tables legal r in absurd (omega (arith, l, e))
      by (tasks.Start (calls.Obtain b)) r = omega arith
      by (tasks.Start (calls.Create b owner)) r = omega arith
      by (tasks.Start (calls.Intercept i n)) r = omega arith
      by (tasks.Start (calls.Rest chain)) r = omega arith
      by (tasks.Start (calls.Body q)) r = let l = body_left tables legal q.value r in absurd (omega (arith, l, e))
      by (tasks.Start (calls.Acts q)) r = omega arith
      by (tasks.Start (calls.Release n)) r = omega arith
      by (tasks.Start (calls.Fire event)) r = let l = fire_left tables legal event r in absurd (omega (arith, l, e))
      by (tasks.Start (calls.Publish event)) r = omega arith
      by (tasks.Start (calls.Notify n)) r = omega arith
      by (tasks.Start calls.Dismiss) r = omega arith
      by (tasks.Start (calls.Clear c)) r = omega arith
      by (tasks.Begin job) r = omega arith
      by (tasks.Using used) r = omega arith
      by (tasks.Through call) r = omega arith
      by (tasks.Creating n b left) r = omega arith
      by (tasks.Providing p) r = omega arith
      by (tasks.Calling p) r = omega arith
      by (tasks.Receiving p) r = omega arith
      by (tasks.Supplying p) r = omega arith
      by (tasks.Continue a) r = omega arith

-- an entry that is due puts all behind it off
due_top : (t : Task) (k : Frame) → 1 ≤ top_rank (pendings.Does t) k
due_top t k = awaited_above t k

-- ---- what waits

load_below : (d : Pending) (ks : List Frame) → frames_load d ks ≤ behind_load ks
load_below d [] = omega arith
load_below d (k ∷ ks) = let a = mass_le (top_rank d k) (frame_rank k) (top_below d k) in omega (arith, a)

load_above : (d : Pending) (ks : List Frame) → behind_load ks ≤ frames_load d ks + greatest_mass
load_above d [] = omega arith
load_above d (k ∷ ks) = let a = mass_bound (frame_rank k) (frame_below k) in omega (arith, a)

load_alike : (d e : Pending) → ((k : Frame) → top_rank d k ≤ top_rank e k) → (ks : List Frame) → frames_load d ks ≤ frames_load e ks
load_alike d e h [] = omega arith
load_alike d e h (k ∷ ks) = let a = mass_le (top_rank d k) (top_rank e k) (h k) in omega (arith, a)

load_whole : (d : Pending) → ((k : Frame) → frame_rank k ≤ top_rank d k) → (ks : List Frame) → behind_load ks ≤ frames_load d ks
load_whole d h [] = omega arith
load_whole d h (k ∷ ks) = let a = mass_le (frame_rank k) (top_rank d k) (h k) in omega (arith, a)

-- ---- one step

abbrev after_next : List Frame → Next → ℕ
after_next ks next = frames_load (pending_for next) (frames_with ks next) + own_load (pending_for next)

-- after a step from this rank that wrote no entry
next_less : (ks : List Frame) (next : Next) (n : ℕ) → weight next < n → after_next ks next < behind_load ks + mass n
next_less ks (nexts.Finished o) n h = let a = load_below (pendings.Gives o) ks in let b = mass_above n in omega (arith, a, b)
next_less ks (nexts.Goes p) n h =
    let a = load_below (pendings.Does p) ks in let b = mass_less (rank p) n (omega (arith, h)) in let c = mass_above (rank p) in omega (arith, a, b, c)
next_less ks (nexts.Writes e a) n h =
    let b = load_below (pendings.Writes e a) ks in let c = mass_more n (omega (arith, h)) in omega (arith, b, c)
next_less ks (nexts.Needs p k) n h =
    let b = mass_less (rank p) n (omega (arith, h)) in
    let c = mass_less (top_rank (pendings.Does p) k) n (omega (arith, h)) in
    let d = mass_above (rank p) in
    omega (arith, b, c, d)

pub does_lowers : (t : Tables) (legal : Legal) (a b : Stack) (p : Task) (next : Next) (w v : World) → a.pending ≡ pendings.Does p → b.frames ≡ frames_with a.frames next → b.pending ≡ pending_for next
    → Comes t legal (first p) w (node next) v → weight next < rank p → load_of b v < load_of a w
does_lowers t legal a b p next w v e f g m h = rw (e, f, g) (rw (still_left (comes_still t m)) (let q = by next m h (still_left (comes_still t m)) in omega (arith, q)))
  where
    by : (next : Next) → Comes t legal (first p) w (node next) v → weight next < rank p → entries_left v ≡ entries_left w → after_next a.frames next < frames_load (pendings.Does p) a.frames + mass (rank p)
    by (nexts.Finished o) m h e =
        let r = from_comes t legal ⊥ m (over_runs t legal ⊥ o) in
        let x = load_alike (pendings.Gives o) (pendings.Does p) (ended_top t legal p o w v r e) a.frames in
        let y = mass_above (rank p) in
        omega (arith, x, y)
    by (nexts.Goes q) m h e =
        let o = rank_above q in
        let x = load_whole (pendings.Does p) (same_top p (omega (arith, o, h))) a.frames in
        let y = next_less a.frames (nexts.Goes q) (rank p) h in
        omega (arith, x, y)
    by (nexts.Needs q k) m h e =
        let o = rank_above q in
        let x = load_whole (pendings.Does p) (same_top p (omega (arith, o, h))) a.frames in
        let y = next_less a.frames (nexts.Needs q k) (rank p) h in
        omega (arith, x, y)
    by (nexts.Writes i c) m h e =
        let x = load_alike (pendings.Writes i c) (pendings.Does p) (due_top p) a.frames in
        let y = mass_more (rank p) (omega (arith, h)) in
        omega (arith, x, y)

pub gives_lowers : (a b : Stack) (ks : List Frame) (k : Frame) (o : Outcome) (next : Next) (w v : World) → a.frames ≡ k ∷ ks → a.pending ≡ pendings.Gives o
    → b.frames ≡ frames_with ks next → b.pending ≡ pending_for next → Still w v → weight next < back_rank k o → load_of b v < load_of a w
gives_lowers a b ks k o next w v c e f g s h =
    rw (c, e, f, g) (rw (still_left s) (let q = next_less ks next (back_rank k o) h in omega (arith, q)))

-- behind an entry all is counted anew
pub writes_lowers : (a b : Stack) (e : Entry) (x : Continuation) (w v : World) → a.pending ≡ pendings.Writes e x → b.frames ≡ a.frames → b.pending ≡ pendings.Does (tasks.Continue x)
    → Written e w v → load_of b v < load_of a w
writes_lowers a b e x w v p f g k =
    let l = longer w.trace e in
    let r = k.room in
    rw (p, f, g, k.world)
    (let less : entries_left (with_entry e w) < entries_left w = omega (arith, l, r) in
    let m = fewer (entries_left (with_entry e w)) (entries_left w) (4 * greatest_mass) less in
    let y = load_below (pendings.Does (tasks.Continue x)) a.frames in
    let z = load_above (pendings.Writes e x) a.frames in
    let q = mass_bound (continuation_rank x) (rank_below (tasks.Continue x)) in
    let n = greatest_mass_above in
    omega (arith, m, y, z, q, n))

pub fills_lowers : (a b : Stack) (e : Entry) (x : Continuation) (w v : World) → a.pending ≡ pendings.Writes e x → b.frames ≡ a.frames → b.pending ≡ pendings.Gives (outcomes.Cut causes.Ticks)
    → Spent w v → load_of b v < load_of a w
fills_lowers a b e x w v p f g k =
    rw (p, f, g, k.world) (let y = load_alike (pendings.Gives (outcomes.Cut causes.Ticks)) (pendings.Writes e x) (λ k. omega arith) a.frames in omega (arith, y))

-- ---- entries

pub grown_none : (most : ℕ) {w v : World} → Still w v → AddsAtMost most w v
grown_none most {w} {v} s =
    let t : length v.trace ≡ length w.trace = ap length s.trace in let k = s.ticks in
    record { low = omega (arith, t); high = omega (arith, t); budget = omega (arith, t, k) }

pub grown_same : (most : ℕ) {w v : World} → v ≡ w → AddsAtMost most w v
grown_same most e = rw e (grown_none most (record { trace = refl; ticks = refl }))

pub grown_one : (e : Entry) (w v : World) → Written e w v → AddsAtMost 1 w v
grown_one e w v k =
    let l = longer w.trace e in
    let r = k.room in
    rw k.world (record { low = omega (arith, l); high = omega (arith, l); budget = omega (arith, l, r) })

module _ {most : ℕ} {w u v : World} (g : AddsAtMost most w u) where
  -- after a step that wrote nothing
  pub grown_still : Still u v → AddsAtMost most w v
  grown_still s =
      let t : length v.trace ≡ length u.trace = ap length s.trace in let k = s.ticks in
      let a = g.low in let b = g.high in let c = g.budget in
      record { low = omega (arith, t, a); high = omega (arith, t, b); budget = omega (arith, t, k, c) }

  -- after an entry for which the turn had room
  pub grown_written : (first : ℕ) (e : Entry) → first ≡ length w.trace → length u.trace < first + most → Written e u v → AddsAtMost most w v
  grown_written first e f r k =
      let s = grown_one e u v k in
      let a = g.low in let c = g.budget in let d = s.low in let i = s.high in let j = s.budget in
      record { low = omega (arith, a, d); high = omega (arith, f, r, i); budget = omega (arith, c, j) }

-- a turn that is spent has written just as many
pub spent_stops : (most first : ℕ) (a : Stack) (w u : World) → first ≡ length w.trace → AddsAtMost most w u → first + most ≤ length u.trace → IsDue a.pending → StopsAt most w a u
spent_stops most first a w u f g h due = let d = g.high in record { count = omega (arith, f, h, d); due = due }

-- and has fewer entries left, if it might write one
pub spent_less : {most : ℕ} {b : Stack} {w v : World} → 0 < most → AddsAtMost most w v → StopsAt most w b v → entries_left v < entries_left w
spent_less h g s = let a = g.budget in let b = s.count in omega (arith, h, a, b)
