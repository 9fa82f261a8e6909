-- Every program has a run, and a run that memory cut short is the front of one.
use Rattle.std.proofs.Common.{ℕ, zero, suc, ◌≡◌, ◌≤◌, ◌<◌, ◌++◌, length, refl, sym, ap, subst, arith, inl, inr}
use Rattle.std.proofs.lemmas.List.{length-append}
use Rattle.cdi_base.specs.declared.reply.Cause.TheVariants as causes
use Rattle.cdi_machine.specs.Tables.{Tables}
use Rattle.cdi_machine.specs.World.{World}
use Rattle.cdi_machine.specs.Programs.{Task, Given, Completion, Prog, cut}
use Rattle.cdi_machine.specs.Machine.{machine}
use Rattle.cdi_machine.specs.Runs.{Legal, Outcome, Cut, Runs, rest_after}
use Rattle.cdi_machine.specs.Laws.{Goes, IsServed, IsWithin, Ends, OnItsWay, followed_by}
use Rattle.cdi_machine.proofs.Order.{changed_still, goes, goes_self, goes_trans, longer, widens}
use Rattle.cdi_machine.proofs.Total.{rank, room, Halts, TasksHalt, free, ranked}
use Rattle.cdi_machine.proofs.Ranks.{machine_ranked}

module _ (tables : Tables) (legal : Legal) (served : IsServed legal) where
  below : (n : ℕ) → TasksHalt tables legal served n → (r : ℕ) (t : Task) (w : World) → room w < suc n → rank t < r → Halts tables legal served (machine t) w
  below n h zero t w l q = absurd (omega arith)
  below n h (suc r) t w l q = ranked tables legal served n h (rank t) (λ t' w' l' q'. below n h r t' w' l' (omega arith)) (machine t) (machine_ranked t) w l

  tasks_halt : (n : ℕ) → TasksHalt tables legal served n
  tasks_halt zero = λ t w l. absurd (omega arith)
  tasks_halt (suc n) = λ t w l. below n (tasks_halt n) (suc (rank t)) t w l (omega arith)

  pub halts : (p : Prog Given) (w : World) → Halts tables legal served p w
  halts p w = free tables legal served (suc (room w)) (tasks_halt (suc (room w))) p w (omega arith)

module _ (tables : Tables) (legal : Legal) where
  pub ends : IsServed legal → Ends tables legal
  ends served p w = halts tables legal served p w

module _ (tables : Tables) (legal loose : Legal) where
  abbrev Loosely : ℕ → Prog Given → World → Outcome → World → Type 0
  Loosely n p w o v = Runs tables (followed_by n legal loose) ⊥ p w o v

  -- behind so many entries a loose run will do
  later : (n : ℕ) {p : Prog Given} {w v : World} {o : Outcome} → Runs tables loose ⊥ p w o v → n ≤ length w.trace → Loosely n p w o v
  later n Runs.returns l = Runs.returns
  later n Runs.throws l = Runs.throws
  later n Runs.cuts l = Runs.cuts
  later n (Runs.misses r) l = Runs.misses (later n r l)
  later n (Runs.sees r) l = Runs.sees (later n r l)
  later n {w = w} (Runs.changes {g = g} r) l = Runs.changes (later n r (rw ((changed_still g w).trace) l))
  later n {w = w} (Runs.writes {e = e} h r) l = let x = longer w.trace e in Runs.writes h (later n r (omega arith))
  later n (Runs.is_full h) l = Runs.is_full h
  later n (Runs.marks r) l = Runs.marks (later n r l)
  later n (Runs.does a h r) l = Runs.does a (inr (l, h)) (later n r l)
  later n (Runs.picks i h c r) l = Runs.picks i h (inr (l, c)) (later n r l)
  later n {w = w} (Runs.calls {u = u} r1 r) l =
      let g = goes tables loose ⊥ r1 in
      let a = length-append w.trace g.more in
      let t : length u.trace ≡ length (w.trace ++ g.more) = ap length g.trace in
      Runs.calls (later n r1 l) (later n r (omega arith))
  later n (Runs.starves s) l = absurd s

  -- the run has all its memory, or is the front of another one
  data Way (p : Prog Given) (w : World) (o : Outcome) (v : World) : Type 0 where
    whole : Runs tables legal ⊥ p w o v → Way p w o v
    short : o ≡ Cut causes.Memory → (o' : Outcome) (v' : World) → Loosely (length v.trace) p w o' v' → Goes v v' → Way p w o v

  within : (n : ℕ) → IsWithin legal (followed_by n legal loose)
  within n = record { act = λ b e f view a h. inl h; pick = λ c e i h. inl h }

  module _ (served : IsServed loose) where
    cut_stays : {u v : World} {o : Outcome} → Runs tables legal (Unit {0}) (cut causes.Memory) u o v → (o ≡ Cut causes.Memory) × (v ≡ u)
    cut_stays Runs.cuts = (refl, refl)
    cut_stays (Runs.starves s) = (refl, refl)

    called : {t : Task} {k : Completion Given → Prog Given} {w u v : World} {o1 o : Outcome} → Way (machine t) w o1 u → Runs tables legal (Unit {0}) (rest_after o1 k) u o v → Way (rest_after o1 k) u o v → Way (Prog.nested t k) w o v
    called (whole r1) r (whole r2) = whole (Runs.calls r1 r2)
    called {w = w} {u = u} {v = v} {o1 = o1} (whole r1) r (short e o' v' s g) = short e o' v' (Runs.calls (widens tables legal (followed_by (length v.trace) legal loose) (within (length v.trace)) _ w u o1 r1) s) g
    called {t = task} {k = k} {w = w} {u = u} {v = v} {o = o} (short e o1' u' s g) r x =
        let c = cut_stays (subst (λ z. Runs tables legal (Unit {0}) (rest_after z k) u o v) e r) in
        let h = halts tables loose served (rest_after o1' k) u' in
        let m = goes tables loose ⊥ h.2 in
        let a = length-append u.trace g.more in
        let t : length u'.trace ≡ length (u.trace ++ g.more) = ap length g.trace in
        let all = Runs.calls s (later (length u.trace) h.2 (omega arith)) in
        short c.0 h.0 h.1 (subst (λ z. Loosely (length z.trace) (Prog.nested task k) w h.0 h.1) (sym c.1) all) (subst (λ z. Goes z h.1) (sym c.1) (goes_trans g m))

    way : {p : Prog Given} {w v : World} {o : Outcome} → Runs tables legal (Unit {0}) p w o v → Way p w o v
    way Runs.returns = whole Runs.returns
    way Runs.throws = whole Runs.throws
    way Runs.cuts = whole Runs.cuts
    way (Runs.misses r) = elim (way r) [ whole a ↦ whole (Runs.misses a) | short e o' v' s g ↦ short e o' v' (Runs.misses s) g ]
    way (Runs.sees r) = elim (way r) [ whole a ↦ whole (Runs.sees a) | short e o' v' s g ↦ short e o' v' (Runs.sees s) g ]
    way (Runs.changes r) = elim (way r) [ whole a ↦ whole (Runs.changes a) | short e o' v' s g ↦ short e o' v' (Runs.changes s) g ]
    way (Runs.writes h r) = elim (way r) [ whole a ↦ whole (Runs.writes h a) | short e o' v' s g ↦ short e o' v' (Runs.writes h s) g ]
    way (Runs.is_full h) = whole (Runs.is_full h)
    way (Runs.marks r) = elim (way r) [ whole a ↦ whole (Runs.marks a) | short e o' v' s g ↦ short e o' v' (Runs.marks s) g ]
    way (Runs.does a h r) = elim (way r) [ whole b ↦ whole (Runs.does a h b) | short e o' v' s g ↦ short e o' v' (Runs.does a (inl h) s) g ]
    way (Runs.picks i l c r) = elim (way r) [ whole b ↦ whole (Runs.picks i l c b) | short e o' v' s g ↦ short e o' v' (Runs.picks i l (inl c) s) g ]
    way (Runs.calls r1 r) = called (way r1) r (way r)
    way {p = p} {w = w} (Runs.starves s) =
        let h = halts tables loose served p w in
        short refl h.0 h.1 (later (length w.trace) h.2 (omega arith)) (goes tables loose ⊥ h.2)

  answer : {p : Prog Given} {w v : World} {o : Outcome} → Way p w o v → (o' : Outcome) × (v' : World) × Loosely (length v.trace) p w o' v' × Goes v v'
  answer {w = w} {v = v} {o = o} (whole r) = (o, v, widens tables legal (followed_by (length v.trace) legal loose) (within (length v.trace)) _ w v o r, goes_self v)
  answer (short e o' v' s g) = (o', v', s, g)

  pub on_its_way : IsServed loose → OnItsWay tables legal loose
  on_its_way served p w v o r = let a = answer (way served r) in (a.0, a.1, a.2, a.3)
