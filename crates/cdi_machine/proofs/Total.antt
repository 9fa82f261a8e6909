-- Every program has a run: before its next entry a task only calls tasks of a lower rank.
use Rattle.std.proofs.Common.{ℕ, suc, ◌≡◌, ◌≤◌, ◌<◌, ◌+◌, ◌-◌, ◌++◌, length, refl, ap, arith, Bool, true, false, Option, Some, None}
use Rattle.std.specs.Prelude.{nat_lt}
use Rattle.std.proofs.lemmas.List.{length-append}
use Rattle.cdi_base.specs.declared.act.Act.{Act}
use Rattle.cdi_base.specs.declared.entry.Entry.{Entry}
use Rattle.cdi_base.specs.declared.entry.Entry.TheVariants as entries
use Rattle.cdi_base.specs.declared.reply.Cause.TheVariants as causes
use Rattle.cdi_store.specs.declared.instance.Instance.{Instance}
use Rattle.cdi_machine.specs.Words.{Name}
use Rattle.cdi_machine.specs.Tables.{Tables, written_act}
use Rattle.cdi_machine.specs.World.{World, instance_at, after_change, with_entry}
use Rattle.cdi_machine.specs.Destruction.{only_ready, destroy_ready}
use Rattle.cdi_machine.specs.Programs.{Task, Given, Completion, Gave, Threw, require_present, Prog, ret, throw, cut, miss, see, change, tick, mark, act, choose, nested, candidates, handle}
use Rattle.cdi_machine.specs.Machine.{machine}
use Rattle.cdi_machine.specs.Runs.{Legal, Outcome, Ends as Completes, Cut, Runs, rest_after}
use Rattle.cdi_machine.specs.Laws.{Goes, IsServed}
use Rattle.cdi_machine.proofs.Order.{Still, changed_still, goes, longer}

-- how many tasks may be nested before an entry is due
abbrev pub rank : Task → ℕ
rank (Task.Obtain b) = 1
rank (Task.Create b owner) = 0
rank (Task.Intercept i n) = 0
rank (Task.Rest chain) = 1
rank (Task.Body r) = 0
rank (Task.Acts r) = 0
rank (Task.Destroy n) = 0
rank (Task.Release n) = 1
rank (Task.Fire class qualifiers v) = 0
rank (Task.Notify observers v) = 2 + length observers
rank Task.Dismiss = 1
rank (Task.Clear c) = 1

-- a destruction that gives something has written an entry
abbrev pub Unless : Task → (Completion Given → Type 0) → Type 0
Unless (Task.Destroy n) X = (x : Name) → X (Threw x)
Unless _ X = (c : Completion Given) → X c

pub unless_map : (t : Task) {X Y : Completion Given → Type 0} → ((c : Completion Given) → X c → Y c) → Unless t X → Unless t Y
unless_map (Task.Obtain b) f q = λ c. f c (q c)
unless_map (Task.Create b owner) f q = λ c. f c (q c)
unless_map (Task.Intercept i n) f q = λ c. f c (q c)
unless_map (Task.Rest chain) f q = λ c. f c (q c)
unless_map (Task.Body r) f q = λ c. f c (q c)
unless_map (Task.Acts r) f q = λ c. f c (q c)
unless_map (Task.Destroy n) f q = λ x. f (Threw x) (q x)
unless_map (Task.Release n) f q = λ c. f c (q c)
unless_map (Task.Fire class qualifiers v) f q = λ c. f c (q c)
unless_map (Task.Notify observers v) f q = λ c. f c (q c)
unless_map Task.Dismiss f q = λ c. f c (q c)
unless_map (Task.Clear c) f q = λ c. f c (q c)

-- before the next entry only tasks below the rank are called
abbrev pub Ranked : {A : Type 0} → ℕ → Prog A → Type 0
Ranked r (ret a) = Unit {0}
Ranked r (throw x) = Unit {0}
Ranked r (cut cause) = Unit {0}
Ranked r (miss p) = Ranked r p
Ranked r (see k) = (t : Tables) (w : World) → Ranked r (k t w)
Ranked r (change g p) = Ranked r p
Ranked r (tick e p) = Unit {0}
Ranked r (mark n p) = Ranked r p
Ranked r (act b fields view k) = Unit {0}
Ranked r (choose n k) = Unit {0}
Ranked r (nested t k) = (rank t < r) × Unless t (λ c. Ranked r (k c))

pub handle_ranked : {A B : Type 0} (r : ℕ) (p : Prog A) (f : A → Prog B) (h : Name → Prog B) → Ranked r p → ((a : A) → Ranked r (f a)) → ((x : Name) → Ranked r (h x)) → Ranked r (handle p f h)
handle_ranked r (ret a) f h q qf qh = qf a
handle_ranked r (throw x) f h q qf qh = qh x
handle_ranked r (cut cause) f h q qf qh = tt
handle_ranked r (miss p) f h q qf qh = handle_ranked r p f h q qf qh
handle_ranked r (see k) f h q qf qh = λ t w. handle_ranked r (k t w) f h (q t w) qf qh
handle_ranked r (change g p) f h q qf qh = handle_ranked r p f h q qf qh
handle_ranked r (tick e p) f h q qf qh = tt
handle_ranked r (mark n p) f h q qf qh = handle_ranked r p f h q qf qh
handle_ranked r (act b fields view k) f h q qf qh = tt
handle_ranked r (choose n k) f h q qf qh = tt
handle_ranked r (nested t k) f h q qf qh = (q.0, unless_map t (λ c g. handle_ranked r (k c) f h g qf qh) q.1)

-- ---- from ranks to runs

abbrev pub room : World → ℕ
room w = w.ticks - length w.trace

still_room : {w v : World} → Still w v → room v ≡ room w
still_room s = rw s.trace (rw s.ticks refl)

goes_room : {w v : World} → Goes w v → room v ≤ room w
goes_room {w} {v} g =
    let a = length-append w.trace g.more in
    let t : length v.trace ≡ length (w.trace ++ g.more) = ap length g.trace in
    let k = g.ticks in
    omega arith

less_room : (e : Entry) (w : World) → length w.trace < w.ticks → room (with_entry e w) < room w
less_room e w h = let l = longer w.trace e in omega arith

module _ (tables : Tables) (legal : Legal) (served : IsServed legal) where
  abbrev pub Halts : Prog Given → World → Type 0
  Halts p w = (o : Outcome) × (v : World) × Runs tables legal ⊥ p w o v

  abbrev pub TasksHalt : ℕ → Type 0
  TasksHalt n = (t : Task) (w : World) → room w < n → Halts (machine t) w

  wrote : (e : Entry) (p : Prog Given) (w : World) → ((length w.trace < w.ticks) → Halts p (with_entry e w)) → Halts (tick e p) w
  wrote e p w f = by_test (nat_lt (length w.trace) w.ticks) refl
    where
      by_test : (b : Bool) → nat_lt (length w.trace) w.ticks ≡ b → Halts (tick e p) w
      by_test true q = let h : length w.trace < w.ticks = grind arith in let r = f h in (r.0, r.1, Runs.writes h r.2)
      by_test false q = (Cut causes.Ticks, w, Runs.is_full (grind arith))

  acted : (b : ℕ) (fields : _) (view : _) (k : Act → Prog Given) (w : World) → ((a : Act) → Halts (tick (entries.Did a) (k a)) w) → Halts (act b fields view k) w
  acted b fields view k w f = let a = served.act b (length w.trace) fields view in let r = f (written_act tables a.0) in (r.0, r.1, Runs.does a.0 a.1 r.2)

  chose : (n : ℕ) (k : ℕ → Prog Given) (w : World) → ((i : ℕ) → Halts (tick (entries.Pick (candidates n) i) (k i)) w) → Halts (choose n k) w
  chose n k w f = let i = served.pick (candidates n) (length w.trace) (omega arith) in let r = f i.0 in (r.0, r.1, Runs.picks i.0 i.1 i.2 r.2)

  -- any program, where all tasks end with so little room
  pub free : (n : ℕ) → TasksHalt n → (p : Prog Given) (w : World) → room w < n → Halts p w
  free n h (ret a) w l = (_, w, Runs.returns)
  free n h (throw x) w l = (_, w, Runs.throws)
  free n h (cut cause) w l = (_, w, Runs.cuts)
  free n h (miss p) w l = let r = free n h p w l in (r.0, r.1, Runs.misses r.2)
  free n h (see k) w l = let r = free n h (k tables w) w l in (r.0, r.1, Runs.sees r.2)
  free n h (change g p) w l = let r = free n h p (after_change g w) (rw (still_room (changed_still g w)) l) in (r.0, r.1, Runs.changes r.2)
  free n h (tick e p) w l = wrote e p w (λ q. let s = less_room e w q in free n h p (with_entry e w) (omega arith))
  free n h (mark m p) w l = let r = free n h p w l in (r.0, r.1, Runs.marks r.2)
  free n h (act b fields view k) w l = acted b fields view k w (λ a. wrote (entries.Did a) (k a) w (λ q. let s = less_room (entries.Did a) w q in free n h (k a) (with_entry (entries.Did a) w) (omega arith)))
  free n h (choose m k) w l = chose m k w (λ i. wrote (entries.Pick (candidates m) i) (k i) w (λ q. let s = less_room (entries.Pick (candidates m) i) w q in free n h (k i) (with_entry (entries.Pick (candidates m) i) w) (omega arith)))
  free n h (nested t k) w l =
      let a = h t w l in
      let s = goes_room (goes tables legal ⊥ a.2) in
      let b = went a.0 (λ c. free n h (k c) a.1 (omega arith)) in
      (b.0, b.1, Runs.calls a.2 b.2)
    where
      went : (o : Outcome) {u : World} → ((c : Completion Given) → Halts (k c) u) → Halts (rest_after o k) u
      went (Completes c) f = f c
      went (Cut cause) f = (_, _, Runs.cuts)

  tick_grows : {e : Entry} {p : Prog Given} {w u : World} {c : Completion Given} → Runs tables legal ⊥ (tick e p) w (Completes c) u → room u < room w
  tick_grows {e = e} {w = w} (Runs.writes h r) = let a = less_room e w h in let b = goes_room (goes tables legal ⊥ r) in omega arith

  destroy_grows : (m : ℕ) (o : Option Instance) {w u : World} {v : Given} → Runs tables legal ⊥ (handle (require_present o) (λ o. destroy_ready m o) throw) w (Completes (Gave v)) u → room u < room w
  destroy_grows m None (Runs.misses r) = elim r [ ]
  destroy_grows m (Some o) r = tick_grows r

  after_call : (n : ℕ) → TasksHalt n → (r : ℕ) (t : Task) (k : Completion Given → Prog Given) (w u : World) (o : Outcome) → room w < suc n → Runs tables legal ⊥ (machine t) w o u → Unless t (λ c. Ranked r (k c)) → ((c : Completion Given) → Ranked r (k c) → room u < suc n → Halts (k c) u) → Halts (rest_after o k) u
  after_call n h r t k w u (Cut cause) l a x f = (_, u, Runs.cuts)
  after_call n h r (Task.Destroy m) k w u (Completes (Gave v)) l (Runs.sees a) x f = let g = destroy_grows m (only_ready (instance_at w m)) a in free n h (k (Gave v)) u (omega arith)
  after_call n h r (Task.Destroy m) k w u (Completes (Threw e)) l a x f = let g = goes_room (goes tables legal ⊥ a) in f (Threw e) (x e) (omega arith)
  after_call n h r (Task.Obtain b) k w u (Completes c) l a x f = let g = goes_room (goes tables legal ⊥ a) in f c (x c) (omega arith)
  after_call n h r (Task.Create b owner) k w u (Completes c) l a x f = let g = goes_room (goes tables legal ⊥ a) in f c (x c) (omega arith)
  after_call n h r (Task.Intercept i j) k w u (Completes c) l a x f = let g = goes_room (goes tables legal ⊥ a) in f c (x c) (omega arith)
  after_call n h r (Task.Rest chain) k w u (Completes c) l a x f = let g = goes_room (goes tables legal ⊥ a) in f c (x c) (omega arith)
  after_call n h r (Task.Body q) k w u (Completes c) l a x f = let g = goes_room (goes tables legal ⊥ a) in f c (x c) (omega arith)
  after_call n h r (Task.Acts q) k w u (Completes c) l a x f = let g = goes_room (goes tables legal ⊥ a) in f c (x c) (omega arith)
  after_call n h r (Task.Release m) k w u (Completes c) l a x f = let g = goes_room (goes tables legal ⊥ a) in f c (x c) (omega arith)
  after_call n h r (Task.Fire class qualifiers v) k w u (Completes c) l a x f = let g = goes_room (goes tables legal ⊥ a) in f c (x c) (omega arith)
  after_call n h r (Task.Notify observers v) k w u (Completes c) l a x f = let g = goes_room (goes tables legal ⊥ a) in f c (x c) (omega arith)
  after_call n h r Task.Dismiss k w u (Completes c) l a x f = let g = goes_room (goes tables legal ⊥ a) in f c (x c) (omega arith)
  after_call n h r (Task.Clear d) k w u (Completes c) l a x f = let g = goes_room (goes tables legal ⊥ a) in f c (x c) (omega arith)

  -- a ranked program, where the tasks below its rank end
  pub ranked : (n : ℕ) → TasksHalt n → (r : ℕ) → ((t : Task) (w : World) → room w < suc n → rank t < r → Halts (machine t) w) → (p : Prog Given) → Ranked r p → (w : World) → room w < suc n → Halts p w
  ranked n h r q (ret a) x w l = (_, w, Runs.returns)
  ranked n h r q (throw e) x w l = (_, w, Runs.throws)
  ranked n h r q (cut cause) x w l = (_, w, Runs.cuts)
  ranked n h r q (miss p) x w l = let a = ranked n h r q p x w l in (a.0, a.1, Runs.misses a.2)
  ranked n h r q (see k) x w l = let a = ranked n h r q (k tables w) (x tables w) w l in (a.0, a.1, Runs.sees a.2)
  ranked n h r q (change g p) x w l = let a = ranked n h r q p x (after_change g w) (rw (still_room (changed_still g w)) l) in (a.0, a.1, Runs.changes a.2)
  ranked n h r q (tick e p) x w l = wrote e p w (λ d. let s = less_room e w d in free n h p (with_entry e w) (omega arith))
  ranked n h r q (mark m p) x w l = let a = ranked n h r q p x w l in (a.0, a.1, Runs.marks a.2)
  ranked n h r q (act b fields view k) x w l = acted b fields view k w (λ a. wrote (entries.Did a) (k a) w (λ d. let s = less_room (entries.Did a) w d in free n h (k a) (with_entry (entries.Did a) w) (omega arith)))
  ranked n h r q (choose m k) x w l = chose m k w (λ i. wrote (entries.Pick (candidates m) i) (k i) w (λ d. let s = less_room (entries.Pick (candidates m) i) w d in free n h (k i) (with_entry (entries.Pick (candidates m) i) w) (omega arith)))
  ranked n h r q (nested t k) x w l =
      let a = q t w l x.0 in
      let b = after_call n h r t k w a.1 a.0 l a.2 x.1 (λ c y d. ranked n h r q (k c) y a.1 d) in
      (b.0, b.1, Runs.calls a.2 b.2)
