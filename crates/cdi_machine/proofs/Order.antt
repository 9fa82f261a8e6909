-- What runs of one program from one world have in common.
use Rattle.std.proofs.Common.{ℕ, ◌≡◌, ◌<◌, ◌+◌, List, [], ◌∷◌, ◌++◌, length, append_assoc, append-nil, refl, sym, ◌∙◌, subst, arith, Option, Some, None}
use Rattle.cdi_base.specs.declared.act.Act.{Act}
use Rattle.cdi_base.specs.declared.entry.Entry.{Entry}
use Rattle.cdi_base.specs.declared.entry.Entry.TheVariants as entries
use Rattle.cdi_store.specs.declared.instance.Component.{Component}
use Rattle.cdi_store.specs.declared.instance.Owner.{Owner}
use Rattle.cdi_store.specs.declared.instance.Owner.TheVariants as owners
use Rattle.cdi_store.specs.declared.instance.Instance.{Instance}
use Rattle.cdi_machine.specs.Tables.{Tables, written_act}
use Rattle.cdi_machine.specs.World.{World, Change, after_change, with_entry, instance_at, for_instance, with_making, with_owned, without_owned, without_making}
use Rattle.cdi_machine.specs.Programs.{Given, Prog, candidates}
use Rattle.cdi_machine.specs.Runs.{Legal, Outcome, Runs, rest_after}
use Rattle.cdi_machine.specs.Laws.{SameEnd, OneRun, IsOne, OneSchedule, IsWithin, Widens, Goes, Grows}

-- ---- a change writes nothing

pub record Still (w v : World) : Type 0 where
  pub trace : v.trace ≡ w.trace
  pub ticks : v.ticks ≡ w.ticks

making_still : (component : Component) (owner : Owner) (w u : World) → Still w u → Still w (with_making component owner u)
making_still component (owners.Context c) w u s = record { trace = s.trace; ticks = s.ticks }
making_still component (owners.Instance m) w u s = s
making_still component owners.Borrower w u s = s

owned_still : (n : ℕ) (component : Component) (owner : Owner) (w u : World) → Still w u → Still w (with_owned n component owner u)
owned_still n component (owners.Context c) w u s = record { trace = s.trace; ticks = s.ticks }
owned_still n component (owners.Instance m) w u s = s
owned_still n component owners.Borrower w u s = record { trace = s.trace; ticks = s.ticks }

left_still : (n : ℕ) (component : Component) (owner : Owner) (w u : World) → Still w u → Still w (without_owned n component owner u)
left_still n component (owners.Context c) w u s = record { trace = s.trace; ticks = s.ticks }
left_still n component (owners.Instance m) w u s = s
left_still n component owners.Borrower w u s = record { trace = s.trace; ticks = s.ticks }

failed_still : (component : Component) (owner : Owner) (w u : World) → Still w u → Still w (without_making component owner u)
failed_still component (owners.Context c) w u s = record { trace = s.trace; ticks = s.ticks }
failed_still component (owners.Instance m) w u s = s
failed_still component owners.Borrower w u s = s

for_still : (w : World) (o : Option Instance) (f : Instance → World) → ((x : Instance) → Still w (f x)) → Still w (for_instance w o f)
for_still w None f h = record { trace = refl; ticks = refl }
for_still w (Some x) f h = h x

pub changed_still : (g : Change) (w : World) → Still w (after_change g w)
changed_still (Change.Make component owner fields) w = making_still component owner w _ (record { trace = refl; ticks = refl })
changed_still (Change.Settle n) w = for_still w (instance_at w n) _ λ o. owned_still n o.component o.owner w _ (record { trace = refl; ticks = refl })
changed_still (Change.Discard n) w = for_still w (instance_at w n) _ λ o. failed_still o.component o.owner w _ (record { trace = refl; ticks = refl })
changed_still (Change.Leave n) w = for_still w (instance_at w n) _ λ o. left_still n o.component o.owner w _ (record { trace = refl; ticks = refl })
changed_still (Change.Remove n) w = record { trace = refl; ticks = refl }
changed_still (Change.Assign n field v) w = record { trace = refl; ticks = refl }
changed_still (Change.Refer n field r) w = record { trace = refl; ticks = refl }
changed_still (Change.Hold n v) w = record { trace = refl; ticks = refl }
changed_still (Change.BeginRequest name session) w = record { trace = refl; ticks = refl }
changed_still (Change.BeginSession name) w = record { trace = refl; ticks = refl }
changed_still (Change.Finish c) w = record { trace = refl; ticks = refl }
changed_still (Change.Close c) w = record { trace = refl; ticks = refl }
changed_still (Change.Mark s) w = record { trace = refl; ticks = refl }
changed_still (Change.Stand e) w = record { trace = refl; ticks = refl }
changed_still (Change.Enter i) w = record { trace = refl; ticks = refl }
changed_still (Change.Provide rs) w = record { trace = refl; ticks = refl }
changed_still (Change.Replace vs) w = record { trace = refl; ticks = refl }
changed_still (Change.Keep key v) w = record { trace = refl; ticks = refl }
changed_still Change.Reach w = record { trace = refl; ticks = refl }
changed_still Change.Exit w = record { trace = refl; ticks = refl }
changed_still (Change.Start n) w = record { trace = refl; ticks = refl }
changed_still Change.Stop w = record { trace = refl; ticks = refl }
changed_still Change.Borrow w = record { trace = refl; ticks = refl }
changed_still Change.Return w = record { trace = refl; ticks = refl }
changed_still Change.Down w = record { trace = refl; ticks = refl }

-- ---- entries are only added

pub goes_self : (w : World) → Goes w w
goes_self w = record { more = []; trace = sym (append-nil w.trace); ticks = refl; budget = λ h. h }

pub goes_trans : {u v w : World} → Goes u v → Goes v w → Goes u w
goes_trans {u} {v} {w} a b =
    record { more = a.more ++ b.more; trace = b.trace ∙ (rw a.trace (append_assoc u.trace a.more b.more)); ticks = b.ticks ∙ a.ticks; budget = λ h. b.budget (a.budget h) }

pub goes_still : {u v : World} → Still u v → Goes u v
goes_still {u} {v} s = record { more = []; trace = s.trace ∙ sym (append-nil u.trace); ticks = s.ticks; budget = λ h. rw s.trace (rw s.ticks h) }

pub longer : (xs : List Entry) (e : Entry) → length (xs ++ e ∷ []) ≡ length xs + 1
longer [] e = refl
longer (x ∷ xs) e = let h = longer xs e in omega arith

pub goes_written : (e : Entry) (w : World) → length w.trace < w.ticks → Goes w (with_entry e w)
goes_written e w h = record { more = e ∷ []; trace = refl; ticks = refl; budget = λ _. let l = longer w.trace e in omega arith }

-- b goes on from a
pub record IsFront (a b : List Entry) : Type 0 where
  pub rest : List Entry
  pub is : a ++ rest ≡ b

front_self : (a : List Entry) → IsFront a a
front_self a = record { rest = []; is = append-nil a }

front_trans : {a b c : List Entry} → IsFront a b → IsFront b c → IsFront a c
front_trans {a} {b} {c} f g = record { rest = f.rest ++ g.rest; is = sym (append_assoc a f.rest g.rest) ∙ (rw f.is g.is) }

front_of : {w v : World} → Goes w v → IsFront w.trace v.trace
front_of g = record { rest = g.more; is = sym g.trace }

same_entry : (xs : List Entry) {e f : Entry} (r s zs : List Entry) → (xs ++ e ∷ []) ++ r ≡ zs → (xs ++ f ∷ []) ++ s ≡ zs → e ≡ f
same_entry [] r s zs p q = cc
same_entry (x ∷ xs) r s [] p q = absurd (cc)
same_entry (x ∷ xs) r s (z ∷ zs) p q = same_entry xs r s zs (cc) (cc)

module _ (tables : Tables) (legal : Legal) (Starved : Type 0) where
  pub goes : {p : Prog Given} {w v : World} {o : Outcome} → Runs tables legal Starved p w o v → Goes w v
  goes {w = w} Runs.returns = goes_self w
  goes {w = w} Runs.throws = goes_self w
  goes {w = w} Runs.cuts = goes_self w
  goes (Runs.misses r) = goes r
  goes (Runs.sees r) = goes r
  goes {w = w} (Runs.changes {g = g} r) = goes_trans (goes_still (changed_still g w)) (goes r)
  goes {w = w} (Runs.writes {e = e} h r) = goes_trans (goes_written e w h) (goes r)
  goes {w = w} (Runs.is_full h) = goes_self w
  goes (Runs.marks r) = goes r
  goes (Runs.does a h r) = goes r
  goes (Runs.picks i l c r) = goes r
  goes (Runs.calls r1 r) = goes_trans (goes r1) (goes r)
  goes {w = w} (Runs.starves s) = goes_self w

  pub grows : Grows tables legal Starved
  grows p w v o r = goes r

module _ (tables : Tables) (legal : Legal) where
  wrote : (w : World) {e f : Entry} {p q : Prog Given} {o o' : Outcome} {v v' : World} (zs : List Entry) → Runs tables legal ⊥ p (with_entry e w) o v → Runs tables legal ⊥ q (with_entry f w) o' v' → IsFront v.trace zs → IsFront v'.trace zs → e ≡ f
  wrote w zs r s a b = let f = front_trans (front_of (goes tables legal ⊥ r)) a in let g = front_trans (front_of (goes tables legal ⊥ s)) b in same_entry w.trace f.rest g.rest zs f.is g.is

  same : {p : Prog Given} {w v v' : World} {o o' : Outcome} (zs : List Entry) → Runs tables legal ⊥ p w o v → Runs tables legal ⊥ p w o' v' → IsFront v.trace zs → IsFront v'.trace zs → SameEnd o o' v v'
  same zs (Runs.starves s) r' a b = absurd s
  same zs r (Runs.starves s) a b = absurd s
  same zs (Runs.does x g (Runs.starves s)) r' a b = absurd s
  same zs r (Runs.does x g (Runs.starves s)) a b = absurd s
  same zs (Runs.picks i l c (Runs.starves s)) r' a b = absurd s
  same zs r (Runs.picks i l c (Runs.starves s)) a b = absurd s
  same zs Runs.returns Runs.returns a b = record { outcome = refl; world = refl }
  same zs Runs.throws Runs.throws a b = record { outcome = refl; world = refl }
  same zs Runs.cuts Runs.cuts a b = record { outcome = refl; world = refl }
  same zs (Runs.misses r) (Runs.misses r') a b = same zs r r' a b
  same zs (Runs.sees r) (Runs.sees r') a b = same zs r r' a b
  same zs (Runs.changes r) (Runs.changes r') a b = same zs r r' a b
  same zs (Runs.writes h r) (Runs.writes h' r') a b = same zs r r' a b
  same zs (Runs.writes h r) (Runs.is_full h') a b = absurd (omega arith)
  same zs (Runs.is_full h) (Runs.writes h' r') a b = absurd (omega arith)
  same zs (Runs.is_full h) (Runs.is_full h') a b = record { outcome = refl; world = refl }
  same zs (Runs.marks r) (Runs.marks r') a b = same zs r r' a b
  same {w = w} {v' = v'} {o' = o'} zs (Runs.does {k = k} x g (Runs.writes h r)) (Runs.does y g' (Runs.writes h' r')) a b =
      let q = wrote w zs r' r b a in let e : written_act tables y ≡ written_act tables x = cc in
      same zs r (subst (λ z. Runs tables legal ⊥ (k z) (with_entry (entries.Did z) w) o' v') e r') a b
  same zs (Runs.does x g (Runs.writes h r)) (Runs.does y g' (Runs.is_full h')) a b = absurd (omega arith)
  same zs (Runs.does x g (Runs.is_full h)) (Runs.does y g' (Runs.writes h' r')) a b = absurd (omega arith)
  same zs (Runs.does x g (Runs.is_full h)) (Runs.does y g' (Runs.is_full h')) a b = record { outcome = refl; world = refl }
  same {w = w} {v' = v'} {o' = o'} zs (Runs.picks {n = n} {k = k} i l c (Runs.writes h r)) (Runs.picks j l' c' (Runs.writes h' r')) a b =
      let q = wrote w zs r' r b a in let e : j ≡ i = cc in
      same zs r (subst (λ z. Runs tables legal ⊥ (k z) (with_entry (entries.Pick (candidates n) z) w) o' v') e r') a b
  same zs (Runs.picks i l c (Runs.writes h r)) (Runs.picks j l' c' (Runs.is_full h')) a b = absurd (omega arith)
  same zs (Runs.picks i l c (Runs.is_full h)) (Runs.picks j l' c' (Runs.writes h' r')) a b = absurd (omega arith)
  same zs (Runs.picks i l c (Runs.is_full h)) (Runs.picks j l' c' (Runs.is_full h')) a b = record { outcome = refl; world = refl }
  same {v' = v'} {o' = o'} zs (Runs.calls {k = k} {u = u} {o1 = o1} r1 r) (Runs.calls {u = u'} {o1 = p1} r1' r') a b =
      let s = same zs r1 r1' (front_trans (front_of (goes tables legal ⊥ r)) a) (front_trans (front_of (goes tables legal ⊥ r')) b) in
      let at_world = subst (λ z. Runs tables legal ⊥ (rest_after p1 k) z o' v') (sym s.world) r' in
      same zs r (subst (λ z. Runs tables legal ⊥ (rest_after z k) u o' v') (sym s.outcome) at_world) a b

  pub one_run : OneRun tables legal
  one_run p w v v' o o' r r' e = same v.trace r r' (front_self v.trace) (record { rest = []; is = append-nil v'.trace ∙ sym e })

  one : IsOne legal → {p : Prog Given} {w v v' : World} {o o' : Outcome} → Runs tables legal ⊥ p w o v → Runs tables legal ⊥ p w o' v' → SameEnd o o' v v'
  one i (Runs.starves s) r' = absurd s
  one i r (Runs.starves s) = absurd s
  one i Runs.returns Runs.returns = record { outcome = refl; world = refl }
  one i Runs.throws Runs.throws = record { outcome = refl; world = refl }
  one i Runs.cuts Runs.cuts = record { outcome = refl; world = refl }
  one i (Runs.misses r) (Runs.misses r') = one i r r'
  one i (Runs.sees r) (Runs.sees r') = one i r r'
  one i (Runs.changes r) (Runs.changes r') = one i r r'
  one i (Runs.writes h r) (Runs.writes h' r') = one i r r'
  one i (Runs.writes h r) (Runs.is_full h') = absurd (omega arith)
  one i (Runs.is_full h) (Runs.writes h' r') = absurd (omega arith)
  one i (Runs.is_full h) (Runs.is_full h') = record { outcome = refl; world = refl }
  one i (Runs.marks r) (Runs.marks r') = one i r r'
  one i {w = w} {v' = v'} {o' = o'} (Runs.does {b = b} {fields = fields} {view = view} {k = k} x g r) (Runs.does y g' r') =
      let e : y ≡ x = i.act b (length w.trace) fields view y x g' g in
      one i r (subst (λ (z : Act). Runs tables legal ⊥ (Prog.tick (entries.Did (written_act tables z)) (k (written_act tables z))) w o' v') e r')
  one i {w = w} {v' = v'} {o' = o'} (Runs.picks {n = n} {k = k} x l c r) (Runs.picks y l' c' r') =
      let e : y ≡ x = i.pick (candidates n) (length w.trace) y x c' c in
      one i r (subst (λ (z : ℕ). Runs tables legal ⊥ (Prog.tick (entries.Pick (candidates n) z) (k z)) w o' v') e r')
  one i {v' = v'} {o' = o'} (Runs.calls {k = k} {u = u} {o1 = o1} r1 r) (Runs.calls {u = u'} {o1 = p1} r1' r') =
      let s = one i r1 r1' in
      let at_world = subst (λ z. Runs tables legal ⊥ (rest_after p1 k) z o' v') (sym s.world) r' in
      one i r (subst (λ z. Runs tables legal ⊥ (rest_after z k) u o' v') (sym s.outcome) at_world)

  pub one_schedule : OneSchedule tables legal
  one_schedule i p w v v' o o' r r' = one i r r'

module _ (tables : Tables) (small large : Legal) where
  pub wider : {Starved : Type 0} → IsWithin small large → (p : Prog Given) (w v : World) (o : Outcome)
      → Runs tables small Starved p w o v → Runs tables large Starved p w o v
  wider i p w v o Runs.returns = Runs.returns
  wider i p w v o Runs.throws = Runs.throws
  wider i p w v o Runs.cuts = Runs.cuts
  wider i p w v o (Runs.misses r) = Runs.misses (wider i _ _ v o r)
  wider i p w v o (Runs.sees r) = Runs.sees (wider i _ _ v o r)
  wider i p w v o (Runs.changes r) = Runs.changes (wider i _ _ v o r)
  wider i p w v o (Runs.writes h r) = Runs.writes h (wider i _ _ v o r)
  wider i p w v o (Runs.is_full h) = Runs.is_full h
  wider i p w v o (Runs.marks r) = Runs.marks (wider i _ _ v o r)
  wider i p w v o (Runs.does {b = b} {fields = fields} {view = view} a h r) = Runs.does a (i.act b (length w.trace) fields view a h) (wider i _ _ v o r)
  wider i p w v o (Runs.picks {n = n} x l c r) = Runs.picks x l (i.pick (candidates n) (length w.trace) x c) (wider i _ _ v o r)
  wider i p w v o (Runs.calls {u = u} {o1 = o1} r1 r) = Runs.calls (wider i _ _ u o1 r1) (wider i _ _ v o r)
  wider i p w v o (Runs.starves s) = Runs.starves s

  pub widens : Widens tables small large
  widens = wider
