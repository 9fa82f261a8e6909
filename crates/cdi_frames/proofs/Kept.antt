-- A way of a program writes nothing, and a destruction or a body that gives anything, or an event that ended, has written an entry.
use Rattle.std.proofs.Common.{ℕ, zero, suc, ◌≡◌, ◌<◌, ◌≤◌, ◌++◌, ◌∙◌, length, length-append, refl, ap, arith, Option, Some, None, Bool, true, false}
use Rattle.cdi_base.specs.declared.entry.Entry.TheVariants as entries
use Rattle.cdi_store.specs.declared.instance.Instance.{Instance}
use Rattle.cdi_machine.specs.Tables.{Tables}
use Rattle.cdi_base.specs.declared.reply.Cause.{Cause}
use Rattle.cdi_machine.specs.World.{World, after_change}
use Rattle.cdi_machine.specs.World.Change.{Start, Stop}
use Rattle.cdi_machine.specs.Programs as machine
use Rattle.cdi_machine.specs.Programs.{Given, Prog, ret, throw, cut, miss, see, change, tick, mark, act, choose, nested, handle, ◌>>=◌, ◌>>◌}
use Rattle.cdi_machine.specs.Destruction.{destroy_ready}
use Rattle.cdi_machine.specs.Machine as definition
use Rattle.cdi_machine.specs.Runs as runs
use Rattle.cdi_machine.specs.Runs.{Legal, Runs}
use Rattle.cdi_machine.specs.Laws.{Goes}
use Rattle.cdi_machine.proofs.Order.{Still, changed_still, goes, longer}
use Rattle.cdi_steps.specs.Words.{class_of, qualifiers_of, task_of}
use Rattle.cdi_steps.specs.Leads.{next_stop, after_steps, Comes}
use Rattle.cdi_steps.specs.declared.task.Call.TheVariants as calls
use Rattle.cdi_steps.specs.declared.task.ContainerEvent.{ContainerEvent}
use Rattle.cdi_frames.specs.Stacks.{entries_left}

still_self : (w : World) → Still w w
still_self w = record { trace = refl; ticks = refl }

still_trans : {w u v : World} → Still w u → Still u v → Still w v
still_trans a b = record { trace = b.trace ∙ a.trace; ticks = b.ticks ∙ a.ticks }

module _ (t : Tables) where
  stop_still : (p : Prog Given) (w : World) → Still w (next_stop t p w).1
  stop_still (miss p) w = stop_still p w
  stop_still (see k) w = stop_still (k t w) w
  stop_still (change g p) w = still_trans (changed_still g w) (stop_still p (after_change g w))
  stop_still (mark n p) w = stop_still p w
  stop_still (ret g) w = still_self w
  stop_still (throw x) w = still_self w
  stop_still (cut c) w = still_self w
  stop_still (tick e p) w = still_self w
  stop_still (act b fields view k) w = still_self w
  stop_still (choose n k) w = still_self w
  stop_still (nested c k) w = still_self w

  steps_still : (n : ℕ) (p : Prog Given) (w : World) → Still w (after_steps n t p w).1
  steps_still zero p w = still_self w
  steps_still (suc n) (miss p) w = steps_still n p w
  steps_still (suc n) (see k) w = steps_still n (k t w) w
  steps_still (suc n) (change g p) w = still_trans (changed_still g w) (steps_still n p (after_change g w))
  steps_still (suc n) (mark m p) w = steps_still n p w
  steps_still (suc n) (ret g) w = still_self w
  steps_still (suc n) (throw x) w = still_self w
  steps_still (suc n) (cut c) w = still_self w
  steps_still (suc n) (tick e p) w = still_self w
  steps_still (suc n) (act b fields view k) w = still_self w
  steps_still (suc n) (choose m k) w = still_self w
  steps_still (suc n) (nested c k) w = still_self w

  stopped : (p : Prog Given) (w : World) {q : Prog Given} {v : World} → next_stop t p w ≡ (q, v) → Still w v
  stopped p w e = rw (ap (λ x. x.1) e) at (stop_still p w)

  pub comes_still : {legal : Legal} {p q : Prog Given} {w v : World} → Comes t legal p w q v → Still w v
  comes_still {p = p} {w = w} (Comes.same e) = stopped p w e
  comes_still {p = p} {w = w} (Comes.within n e) = rw (ap (λ x. x.1) e) at (steps_still n p w)
  comes_still {p = p} {w = w} (Comes.notes e c) = stopped p w e
  comes_still {p = p} {w = w} (Comes.does a e l c) = still_trans (stopped p w e) (comes_still c)
  comes_still {p = p} {w = w} (Comes.calls {u = u} {c = c} r e d k) = still_trans (stopped p w e) (still_trans (stopped (definition.machine c) u d) (comes_still k))
  comes_still (Comes.looks c) = comes_still c
  comes_still {p = p} {w = w} (Comes.awaits e f) = stopped p w e
  comes_still {p = p} {w = w} (Comes.parts part n e q f) = rw (ap (λ x. x.1) e) at (steps_still n p w)
  comes_still {p = p} {w = w} (Comes.picks i e l h c) = still_trans (stopped p w e) (comes_still c)

pub still_left : {w v : World} → Still w v → entries_left v ≡ entries_left w
still_left s = let t = ap length s.trace in let k = s.ticks in omega arith

goes_left : {w v : World} → Goes w v → entries_left v ≤ entries_left w
goes_left {w} {v} g =
    let a = length-append w.trace g.more in
    let t : length v.trace ≡ length (w.trace ++ g.more) = ap length g.trace in
    let k = g.ticks in
    omega arith

-- a body behind the look at its instance
abbrev begin_body : machine.Running → Prog Given
begin_body r = do
  machine.note (entries.Run r.instance r.place)
  machine.alter (Start r.instance)
  machine.finally (machine.call (machine.Acts r)) (machine.alter Stop)

module _ (tables : Tables) (legal : Legal) where
  threw : {x : ℕ} {v u : World} {o : runs.Outcome} → Runs tables legal ⊥ (machine.throw x) v o u → o ≡ runs.Ends (machine.Threw x)
  threw Runs.throws = refl
  threw (Runs.starves s) = absurd s

  -- a destruction that gives something has written an entry
  destroyed : (n : ℕ) (x : Option Instance) {v u : World} {g : machine.Given}
      → Runs tables legal ⊥ (handle (machine.require_present x) (destroy_ready n) machine.throw) v (runs.Ends (machine.Gave g)) u
      → entries_left u < entries_left v
  destroyed n None (Runs.misses r) = let e = threw r in absurd (cc)
  destroyed n (Some o) {v = v} (Runs.writes room r) =
      let g = goes_left (goes tables legal ⊥ r) in
      let a = longer v.trace (entries.End n) in
      omega arith

  pub destroy_left : {n : ℕ} {v x : World} {g : machine.Given} → Runs tables legal ⊥ (definition.machine (machine.Destroy n)) v (runs.Ends (machine.Gave g)) x → entries_left x < entries_left v
  destroy_left {n = n} (Runs.sees r) = destroyed n _ r

  cut_off : {cause : Cause} {v u : World} {o : runs.Outcome} → Runs tables legal ⊥ (machine.cut cause) v o u → o ≡ runs.Cut cause
  cut_off Runs.cuts = refl
  cut_off (Runs.starves s) = absurd s

  -- so has a body
  started : (r : machine.Running) (x : Option Instance) {v u : World} {g : machine.Given}
      → Runs tables legal ⊥ (handle (machine.require_present x) (λ _. begin_body r) machine.throw) v (runs.Ends (machine.Gave g)) u
      → entries_left u < entries_left v
  started r None (Runs.misses q) = let e = threw q in absurd (cc)
  started r (Some o) {v = v} (Runs.writes room q) =
      let g = goes_left (goes tables legal ⊥ q) in
      let a = longer v.trace (entries.Run r.instance r.place) in
      omega arith

  deep_enough : (r : machine.Running) (b : Bool) {v u : World} {g : machine.Given}
      → Runs tables legal ⊥ (handle (machine.require_depth b) (λ _. handle (machine.instance r.instance) (λ _. begin_body r) machine.throw) machine.throw) v (runs.Ends (machine.Gave g)) u
      → entries_left u < entries_left v
  deep_enough r false q = let e = cut_off q in absurd (cc)
  deep_enough r true (Runs.sees q) = started r _ q

  pub body_left : (r : machine.Running) {v x : World} {g : machine.Given} → Runs tables legal ⊥ (definition.machine (machine.Body r)) v (runs.Ends (machine.Gave g)) x → entries_left x < entries_left v
  body_left r (Runs.sees q) = deep_enough r _ q

  -- so has an event that ended, whatever it came to
  pub fire_left : (event : ContainerEvent) {v x : World} {c : machine.Completion machine.Given}
      → Runs tables legal ⊥ (definition.machine (task_of (calls.Fire event))) v (runs.Ends c) x → entries_left x < entries_left v
  fire_left event {v = v} (Runs.writes room r) =
      let g = goes_left (goes tables legal ⊥ r) in
      let a = longer v.trace (entries.Event (class_of event) (qualifiers_of event)) in
      omega arith
