-- Each task leaves what it is to leave.
use Rattle.std.proofs.Common.{ℕ, suc, ◌≡◌, ◌<◌, ◌≤◌, List, [], ◌∷◌, ◌⊎◌, inl, inr, Option, Some, None, Bool, true, false, refl, sym, ap, ◌∙◌, subst, arith}
use Rattle.std.specs.Prelude.{nat_eq, nat_lt, length, slice_get, option_map}
use Rattle.cdi_base.specs.declared.entry.Entry.TheVariants as entries
use Rattle.cdi_base.specs.Maps.{at}
use Rattle.cdi_store.specs.declared.instance.Context.{Context}
use Rattle.cdi_contexts.specs.declared.context.Held.{Held}
use Rattle.cdi_contexts.specs.declared.context.Held.TheVariants.{Is, Making}
use Rattle.cdi_contexts.specs.Contexts.{Active, context_at}
use Rattle.cdi_store.specs.declared.instance.Component.TheVariants as components
use Rattle.cdi_store.specs.declared.instance.Instance.{Instance}
use Rattle.cdi_store.specs.declared.instance.Owner.TheVariants as owners
use Rattle.cdi_store.specs.declared.instance.Phase.{Phase}
use Rattle.cdi_store.specs.declared.instance.Phase.TheVariants as phases
use Rattle.cdi_machine.specs.Tables.{Tables}
use Rattle.cdi_machine.specs.World.{World, Change, instance_at, after_change, with_entry, below}
use Rattle.cdi_machine.specs.Programs.{Task, Given, Completion, Running, Prog, ret, throw, handle, quietly, require_present, call, complete, finish, alter, note, top, instance}
use Rattle.cdi_machine.specs.Destruction.{clean_up}
use Rattle.cdi_ledger.specs.Ledger.{Item, Wrote}
use Rattle.cdi_ledger.specs.Whose.{IsIn}
use Rattle.cdi_ledger.proofs.Lists.{IsAmong, HasTop, TopEmpty}
use Rattle.cdi_ledger.proofs.Holdings.{IsFree, AllHeld}
use Rattle.cdi_ledger.proofs.Cores.{Core, core_of, core_at, deps_at, core_same, deps_same}
use Rattle.cdi_ledger.proofs.Homes.{Inv, Rel, Grown, HeldIn, OnStack, Busy, IsFixed, targets, rel_self, rel_then, was_busy}
use Rattle.cdi_ledger.proofs.Owed.{Ok, MayRun, IsKnown, IsLeft, LeftSo, farewell_same, Pre, Post, IsTop, IsGiven, IsIdle}
use Rattle.cdi_ledger.proofs.Judge.{bind}
use Rattle.cdi_ledger.proofs.Past.{past_begun}
use Rattle.cdi_ledger.proofs.Fine as fine
use Rattle.cdi_ledger.proofs.Fine.{Stacked, stacked_inv, unstacked, targets_below, list_below}
use Rattle.cdi_ledger.proofs.Doings.{Any, f_farewell}
use Rattle.cdi_machine.specs.Programs.{require_depth, finally}
use Rattle.cdi_machine.specs.Bodies.{run_body}
use Rattle.cdi_machine.specs.Destruction.{destroy, destroy_ready, only_ready, release, release_from, dismiss, dismiss_latest, latest, clear, clear_from, greatest_in}
use Rattle.cdi_ledger.specs.Ledger.{Between}
use Rattle.cdi_ledger.proofs.Lists.{in_got, got}
use Rattle.cdi_ledger.proofs.Holdings.{NoneHeld, IsMaking}
use Rattle.cdi_ledger.proofs.Cores.{with_phase}
use Rattle.cdi_ledger.proofs.Homes.{Chain, IsStaying, chain_map, IsReadyOf}
use Rattle.cdi_ledger.proofs.Changes.{Moves, leaves, removes}
use Rattle.cdi_ledger.proofs.Spans.{rel_destroyed}
use Rattle.cdi_ledger.proofs.Owed.{IsFreeBelow}
use Rattle.std.specs.Prelude.{max, cond}
use Rattle.std.specs.List.{AllByRecursion}
use Rattle.cdi_base.specs.Maps.{Map}
use Rattle.cdi_contexts.specs.Contexts.{greatest, greater}
use Rattle.cdi_ledger.proofs.Standing.{top_then, live_below}

max_is : (k m : ℕ) → (max k m ≡ k) ⊎ (max k m ≡ m)
max_is k m = by (nat_lt k m) refl
  where
    by : (b : Bool) → nat_lt k m ≡ b → (max k m ≡ k) ⊎ (max k m ≡ m)
    by true e = inr (grind arith)
    by false e = inl (grind arith)

-- the greatest number that is held is held
greatest_is : (P : ℕ → Type 0) (most : Option ℕ) (holds : Map Held) (n : ℕ) → ((m : ℕ) → most ≡ Some m → P m) → AllByRecursion (λ p. (m : ℕ) → p.1 ≡ Is m → P m) holds → greatest most holds ≡ Some n → P n
greatest_is P most [] n f h e = f n e
greatest_is P most (p ∷ holds) n f h e = greatest_is P (greater most p.1) holds n (by most p.1 f h.0) h.1 e
  where
    by : (most : Option ℕ) (held : Held) → ((m : ℕ) → most ≡ Some m → P m) → ((m : ℕ) → held ≡ Is m → P m) → (m : ℕ) → greater most held ≡ Some m → P m
    by None Making f g m q = absurd (cc)
    by None (Is k) f g m q = let r : k ≡ m = cc in g m (ap Is r)
    by (Some j) Making f g m q = f m q
    by (Some j) (Is k) f g m q = elim (max_is j k) [
      | inl r ↦ let s : max j k ≡ m = cc in f m (ap Some (sym r ∙ s))
      | inr r ↦ let s : max j k ≡ m = cc in g m (ap Is (sym r ∙ s))
    ]

-- if no number is the greatest, none is held
some_greatest : (k : ℕ) (holds : Map Held) → greatest (Some k) holds ≡ None → ⊥
some_greatest k [] e = cc
some_greatest k (p ∷ holds) e = by p.1 (λ j h. some_greatest j holds h) e
  where
    by : (held : Held) → ((j : ℕ) → greatest (Some j) holds ≡ None → ⊥) → greatest (greater (Some k) held) holds ≡ None → ⊥
    by Making f h = f k h
    by (Is m) f h = f (max k m) h

not_there : (holds : Map Held) → greatest None holds ≡ None → (b n : ℕ) → at holds b ≡ Some (Is n) → ⊥
not_there [] e b n h = cc
not_there (p ∷ holds) e b n h = by p.1 (nat_eq b p.0) (not_there holds) e h
  where
    by : (held : Held) (same : Bool) → (greatest None holds ≡ None → (b n : ℕ) → at holds b ≡ Some (Is n) → ⊥) → greatest (greater None held) holds ≡ None → cond same (Some held) (at holds b) ≡ Some (Is n) → ⊥
    by Making true f q h = cc
    by Making false f q h = f q b n h
    by (Is m) same f q h = some_greatest m holds q

none_held : (a : Option Active) → greatest_in a ≡ None → NoneHeld a
none_held None e component m h = absurd h
none_held (Some a) e (components.Bean b) m h = not_there a.holds e b m h
none_held (Some a) e (components.Interceptor i) m h = absurd h

module _ (t : Tables) where
  abbrev Does : {A : Type 0} → Prog A → World → List Item → (Completion A → World → List Item → Type 0) → Type 0
  Does p w h Q = fine.Doing t p w h Q

  -- ---- bodies

  pub body_does : (r : Running) (w : World) (h : List Item) → Inv w → (MayRun t r.instance r.place w h × IsKnown t r.instance r.place w h) × IsLeft t r w → Does (run_body r) w h (fine.Left w Any)
  body_does r w h g ok = by (nat_lt (length w.bodies) w.depth)
    where
      n : ℕ
      n = r.instance

      runs : (x : Option Instance) → instance_at w r.instance ≡ x
          → Does (handle (require_present x) (λ _. handle (note (entries.Run r.instance r.place)) (λ _. handle (alter (Change.Start r.instance)) (λ _. finally (call (Task.Acts r)) (alter Change.Stop)) throw) throw) throw) w h (fine.Left w Any)
      runs None e = (g, (rel_self w g, tt))
      runs (Some o) e =
          let w1 : World = with_entry (entries.Run r.instance r.place) w in
          let g1 : Inv w1 = fine.inv_entry (entries.Run r.instance r.place) w g in
          let u : World = after_change (Change.Start r.instance) w1 in
          let l : r.instance < w.next = live_below w g r.instance o e in
          let gu : Inv u = stacked_inv t w1 u (record { next = refl; temporaries = refl; core = λ k. refl; deps = λ k. refl; contexts = λ c. refl; stack = λ b z. stack l b z; provided = λ n rs i. g1.provided n rs i }) g1 in
          (g, ((ok.0.0, (ok.0.1, (core_of o, ap (option_map core_of) e))), (gu, ((core_of o, ap (option_map core_of) e, inr (inr (r.instance, inl (inl refl), Chain.here))), (farewell_same t (LeftSo r.rest) w.invocations w (after_change (Change.Start r.instance) (with_entry (entries.Run r.instance r.place) w)) refl ok.1.0, ok.1.1)), after)))
        where
          stack : r.instance < w.next → (b : ℕ) → OnStack (after_change (Change.Start r.instance) (with_entry (entries.Run r.instance r.place) w)) b → b < w.next
          stack l b (inl (inl z)) = subst (λ y. y < w.next) z l
          stack l b (inl (inr z)) = g.stack b (inl z)
          stack l b (inr z) = g.stack b (inr z)

          on : (b : ℕ) → OnStack w b → OnStack (after_change (Change.Start r.instance) (with_entry (entries.Run r.instance r.place) w)) b
          on b (inl z) = inl (inr z)
          on b (inr z) = inr z

          fewer : (vs bs : List ℕ) (b : ℕ) → IsIn b (below bs) ⊎ IsIn b vs → IsIn b bs ⊎ IsIn b vs
          fewer vs [] b (inl z) = inl z
          fewer vs (c ∷ bs) b (inl z) = inl (inr z)
          fewer vs bs b (inr z) = inr z

          stopped : (w2 : World) → Inv w2 → Rel (after_change (Change.Start r.instance) (with_entry (entries.Run r.instance r.place) w)) w2 → Inv (after_change Change.Stop w2) × Rel w (after_change Change.Stop w2)
          stopped w2 g2 q = (
            stacked_inv t w2 (after_change Change.Stop w2) (record { next = refl; temporaries = refl; core = λ k. refl; deps = λ k. refl; contexts = λ c. refl; stack = λ b z. g2.stack b (fewer (targets w2.invocations) w2.bodies b z); provided = λ n rs i. g2.provided n rs i }) g2,
            unstacked t w (after_change (Change.Start r.instance) (with_entry (entries.Run r.instance r.place) w)) w2 (after_change Change.Stop w2) refl refl refl refl on q refl refl refl refl (list_below t w2.bodies r.instance w.bodies q.bodies) q.targets q.members q.provisions,
          )

          after : (c : Completion Given) (w2 : World) (h2 : List Item) → Inv w2 → Rel (after_change (Change.Start r.instance) (with_entry (entries.Run r.instance r.place) w)) w2 × Unit {0}
              → Does (handle (complete c) (λ a. handle (alter Change.Stop) (λ _. ret a) throw) (λ x. handle (alter Change.Stop) (λ _. throw x) throw)) w2 h2 (fine.Left w Any)
          after (Completion.Gave a) w2 h2 g2 p = let s = stopped w2 g2 p.0 in (s.0, (s.1, tt))
          after (Completion.Threw x) w2 h2 g2 p = let s = stopped w2 g2 p.0 in (s.0, (s.1, tt))

      by : (c : Bool)
          → Does (handle (require_depth c) (λ _. handle (instance r.instance) (λ _. handle (note (entries.Run r.instance r.place)) (λ _. handle (alter (Change.Start r.instance)) (λ _. finally (call (Task.Acts r)) (alter Change.Stop)) throw) throw) throw) throw) w h (fine.Left w Any)
      by false = g
      by true = runs (instance_at w r.instance) refl

  -- ---- destruction

  abbrev Destroyed : World → ℕ → Completion Given → World → List Item → Type 0
  Destroyed w n c v k = Rel w v × IsGiven c

  -- dependents of n stay free, since what is busy was
  free_then : (w v : World) (n : ℕ) → Inv w → Rel w v → IsFreeBelow w n → IsFreeBelow v n
  free_then w v n g r f d x e s o b = let q = was_busy w v d g r b in f d x (r.old d x q.1 e) s o q.0

  -- what comes behind the end of an instance
  module _ (n : ℕ) (o : Instance) (w : World) (h : List Item) (g : Inv w) (c : Core) (e : core_at n w.instances ≡ Some c) (ready : c.phase ≡ phases.Ready) (idle : Busy w n → ⊥) (same : c.component ≡ o.component) where
    abbrev w0 : World
    w0 = with_entry (entries.End n) w

    abbrev g0 : Inv w0
    g0 = fine.inv_entry (entries.End n) w g

    abbrev w1 : World
    w1 = after_change (Change.Leave n) w0

    abbrev left : Core
    left = with_phase phases.Leaving c

    left_world : Inv w1 × Moves (λ c b. ⊥) (λ k. Unit {0}) n (Some left) w0 w1 × (w1.next ≡ w0.next)
    left_world = leaves w0 n g0 c e ready

    -- what stays in it was in the world before
    was_there : (d : ℕ) (x : Core) → core_at d w1.instances ≡ Some x → IsStaying x.phase → core_at d w0.instances ≡ Some x
    was_there d x f s = elim (Rattle.cdi_store.proofs.Numbers.equal_or_not d n) [
      | inl q ↦ absurd (let y : Some left ≡ Some x = sym left_world.1.own ∙ subst (λ z. core_at z w1.instances ≡ Some x) q.1 f in let z : left ≡ x = cc in subst IsStaying (ap (λ (v : Core). v.phase) (sym z)) s)
      | inr q ↦ sym (left_world.1.other d q.1) ∙ f
    ]

    free : IsFreeBelow w1 n
    free d x f s own b = idle (b.0, on_w b.1, Chain.up (chain_map w1.instances w0.instances b.0 d (λ j y p q z. was_there j y p q) b.2) (was_there d x f s) s own)
      where
        on_w : OnStack w1 b.0 → OnStack w b.0
        on_w (inl z) = inl (subst (IsIn b.0) left_world.1.bodies z)
        on_w (inr z) = inr (subst (IsIn b.0) left_world.1.targets z)

    -- it is still leaving
    leaving_at : (v : World) → Rel w1 v → core_at n v.instances ≡ Some left
    leaving_at v r = r.stay n left left_world.1.own (inr (inl refl))

    gone_after : (w3 : World) (h3 : List Item) → Inv w3 → Rel w1 w3 → ((j : ℕ) → IsIn j (deps_at n w3.instances) → ⊥)
        → Does (handle (note (entries.Gone n)) (λ _. handle (alter (Change.Remove n)) (λ _. finish) throw) throw) w3 h3 (Destroyed w n)
    gone_after w3 h3 g3 r alone =
        let v : World = with_entry (entries.Gone n) w3 in
        let gv : Inv v = fine.inv_entry (entries.Gone n) w3 g3 in
        let m = removes v n gv left (leaving_at w3 r) refl alone in
        let q = rel_destroyed w0 w1 v (after_change (Change.Remove n) v) n c (Some left) e ready idle g0 left_world.1 left_world.2 (fine.rel_entry (entries.Gone n) w1 w3 g3 r) m.1 refl in
        (g3, (m.0, (rel_then w w0 (after_change (Change.Remove n) v) (fine.rel_entry (entries.End n) w w g (rel_self w g)) q, tt)))

    released : (w2 : World) (h2 : List Item) → Inv w2 → Rel w1 w2 → Pre t (Task.Release n) w2 h2
    released w2 h2 g2 r = (left, leaving_at w2 r, inr refl, free_then w1 w2 n left_world.0 r free)

    after : (w2 : World) → Rel w1 w2 → (d : Completion Given) (w3 : World) (h3 : List Item) → Inv w3 → Rel w2 w3 × IsGiven d × ((j : ℕ) → IsIn j (deps_at n w3.instances) → ⊥)
        → Does (handle (complete d) (λ _. handle (note (entries.Gone n)) (λ _. handle (alter (Change.Remove n)) (λ _. finish) throw) throw) throw) w3 h3 (Destroyed w n)
    after w2 r (Completion.Gave v) w3 h3 g3 p = gone_after w3 h3 g3 (rel_then w1 w2 w3 r p.0) p.2
    after w2 r (Completion.Threw x) w3 h3 g3 p = absurd p.1

    n_below : n < w1.next
    n_below = left_world.0.below n left left_world.1.own

    pub destroying : Does (destroy_ready n o) w h (Destroyed w n)
    destroying = (
      g,
      (
        (λ z. idle (n, z, Chain.here)),
        bind t (Ok t) fine.G (Pre t) Post (quietly (clean_up n o.value o.component)) (λ _. handle (call (Task.Release n)) (λ _. handle (note (entries.Gone n)) (λ _. handle (alter (Change.Remove n)) (λ _. finish) throw) throw) throw) throw w1 (Between n ∷ Wrote (entries.End n) ∷ h) (fine.Silent w1) (Destroyed w n)
            (fine.f_silent t w1 (clean_up n o.value o.component) w1 (Between n ∷ Wrote (entries.End n) ∷ h) (f_farewell t w1 n o.value o.component left (Between n ∷ Wrote (entries.End n) ∷ h) left_world.0 n_below left_world.1.own refl same (past_begun n h) refl))
            (λ a w2 h2 g2 q. (g2, released w2 h2 g2 q.0, after w2 q.0))
            (λ x w2 h2 g2 q. absurd q),
      ),
    )

  pub destroy_does : (n : ℕ) (w : World) (h : List Item) → Inv w → IsIdle w n → Does (destroy n) w h (Destroyed w n)
  destroy_does n w h g idle = by (instance_at w n) refl
    where
      over : (o : Instance) → instance_at w n ≡ Some o → idle.0.component ≡ o.component → (p : Phase) → o.phase ≡ p → p ≡ phases.Ready → Does (handle (require_present (elim p as (λ _. Option Instance) [ phases.New ↦ None | phases.Ready ↦ Some o | phases.Leaving ↦ None ])) (λ o. destroy_ready n o) throw) w h (Destroyed w n)
      over o e s phases.Ready p q = destroying n o w h g idle.0 idle.1 idle.2 idle.3 s
      over o e s phases.New p q = absurd (cc)
      over o e s phases.Leaving p q = absurd (cc)

      by : (x : Option Instance) → instance_at w n ≡ x → Does (handle (require_present (only_ready x)) (λ o. destroy_ready n o) throw) w h (Destroyed w n)
      by None p = absurd (let z : ◌≡◌ {A = Option Core} None (Some idle.0) = sym (ap (option_map core_of) p) ∙ idle.1 in cc)
      by (Some o) p =
          let z : Some (core_of o) ≡ Some idle.0 = sym (ap (option_map core_of) p) ∙ idle.1 in
          let y : core_of o ≡ idle.0 = cc in
          over o p (ap (λ (c : Core). c.component) (sym y)) o.phase refl (ap (λ (c : Core). c.phase) y ∙ idle.2)

  -- ---- what depends

  abbrev Released : World → ℕ → Completion Given → World → List Item → Type 0
  Released w n c v k = Rel w v × IsGiven c × ((j : ℕ) → IsIn j (deps_at n v.instances) → ⊥)

  module _ (n : ℕ) where
    -- one of the dependents, and then the others
    one_of : (w0 w : World) (h : List Item) → Inv w → Rel w0 w → Pre t (Task.Release n) w h → (x : ℕ) → IsIn x (deps_at n w.instances) → Does (handle (call (Task.Destroy x)) (λ _. call (Task.Release n)) throw) w h (Released w0 n)
    one_of w0 w h g r pre x i = (g, idle, after)
      where
        ready : IsReadyOf w x (owners.Instance n)
        ready = g.depends n x i

        idle : IsIdle w x
        idle = (_, ready.1, refl, pre.3 x _ ready.1 tt refl)

        again : (u : World) → Rel w u → (d : Completion Given) (v : World) (k : List Item) → Inv v → Rel u v × IsGiven d × ((j : ℕ) → IsIn j (deps_at n v.instances) → ⊥) → Does (complete d) v k (Released w0 n)
        again u q (Completion.Gave a) v k gv p = (gv, (rel_then w0 w v r (rel_then w u v q p.0), tt, p.2))
        again u q (Completion.Threw a) v k gv p = absurd p.1

        after : (d : Completion Given) (u : World) (k : List Item) → Inv u → Rel w u × IsGiven d → Does (handle (complete d) (λ _. call (Task.Release n)) throw) u k (Released w0 n)
        after (Completion.Gave a) u k gu p = (gu, (pre.0, p.0.stay n pre.0 pre.1 (fixed pre.2), pre.2, free_then w u n g p.0 pre.3), again u p.0)
          where
            fixed : (pre.0.phase ≡ phases.New) ⊎ (pre.0.phase ≡ phases.Leaving) → IsFixed w n pre.0
            fixed (inl e) = inl e
            fixed (inr e) = inr (inl e)
        after (Completion.Threw a) u k gu p = absurd p.1

    chosen : (w0 w : World) (h : List Item) → Inv w → Rel w0 w → Pre t (Task.Release n) w h → (ds : List ℕ) → deps_at n w.instances ≡ ds → (i : ℕ) → i < length ds
        → Does (handle (require_present (slice_get ds i)) (λ x. handle (call (Task.Destroy x)) (λ _. call (Task.Release n)) throw) throw) w h (Released w0 n)
    chosen w0 w h g r pre ds e i l =
        let x = got ds i l in
        subst (λ z. Does (handle (require_present z) (λ x. handle (call (Task.Destroy x)) (λ _. call (Task.Release n)) throw) throw) w h (Released w0 n)) (sym x.1) (one_of w0 w h g r pre x.0 (subst (IsIn x.0) (sym e) (in_got ds i x.0 x.1)))

    release_by : (w : World) (h : List Item) → Inv w → Pre t (Task.Release n) w h → (ds : List ℕ) → deps_at n w.instances ≡ ds → Does (release_from n ds) w h (Released w n)
    release_by w h g pre [] e = (g, (rel_self w g, tt, λ j i. subst (IsIn j) e i))
    release_by w h g pre (d ∷ []) e = chosen w w h g (rel_self w g) pre (d ∷ []) e 0 (omega arith)
    release_by w h g pre (d ∷ c ∷ ds) e = (g, λ i l. (let q = entries.Pick (suc (suc (length ds))) i in chosen w (with_entry q w) (Wrote q ∷ h) (fine.inv_entry q w g) (fine.rel_entry q w w g (rel_self w g)) pre (d ∷ c ∷ ds) e i l))

    pub release_does : (w : World) (h : List Item) → Inv w → Pre t (Task.Release n) w h → Does (release n) w h (Released w n)
    release_does w h g pre = by (instance_at w n) refl
      where
        by : (x : Option Instance) → instance_at w n ≡ x → Does (handle (require_present x) (λ o. release_from n o.dependents) throw) w h (Released w n)
        by None p = absurd (let z : ◌≡◌ {A = Option Core} None (Some pre.0) = sym (ap (option_map core_of) p) ∙ pre.1 in cc)
        by (Some o) p = release_by w h g pre o.dependents (ap Rattle.cdi_ledger.proofs.Cores.list_of p)

  -- ---- temporaries

  latest_in : (ns : List ℕ) (n : ℕ) → latest ns ≡ Some n → IsIn n ns
  latest_in [] n e = absurd (cc)
  latest_in (m ∷ []) n e = inl (let q : m ≡ n = cc in q)
  latest_in (m ∷ k ∷ ns) n e = inr (latest_in (k ∷ ns) n e)

  latest_none : (ns : List ℕ) → latest ns ≡ None → ns ≡ []
  latest_none [] e = refl
  latest_none (m ∷ []) e = absurd (cc)
  latest_none (m ∷ k ∷ ns) e = absurd (let q : k ∷ ns ≡ [] = latest_none (k ∷ ns) e in cc)

  abbrev Dismissed : World → Completion Given → World → List Item → Type 0
  Dismissed w c v k = Rel w v × IsGiven c × TopEmpty v.temporaries

  top_was : (k d : ℕ) (ts us : List (List ℕ)) → Grown k ts us → IsTop d us → IsTop d ts ⊎ (k ≤ d)
  top_was k d [] [] q h = absurd h
  top_was k d [] (u ∷ us) q h = absurd q
  top_was k d (x ∷ ts) [] q h = absurd q
  top_was k d (x ∷ ts) (u ∷ us) q h = q.0 d h

  top_among : (d : ℕ) (ts : List (List ℕ)) → IsTop d ts → IsAmong d ts
  top_among d [] h = absurd h
  top_among d (x ∷ ts) h = inl h

  pub dismiss_does : (w : World) (h : List Item) → Inv w → Pre t Task.Dismiss w h → Does dismiss w h (Dismissed w)
  dismiss_does w h g pre = by w.temporaries refl
    where
      again : (u : World) → Rel w u → (d : Completion Given) (v : World) (k : List Item) → Inv v → Rel u v × IsGiven d × TopEmpty v.temporaries → Does (complete d) v k (Dismissed w)
      again u q (Completion.Gave a) v k gv p = (gv, (rel_then w u v q p.0, tt, p.2))
      again u q (Completion.Threw a) v k gv p = absurd p.1

      idle_then : (u : World) → Rel w u → (d : ℕ) → IsTop d u.temporaries → Busy u d → ⊥
      idle_then u r d i b =
          let q = was_busy w u d g r b in
          elim (top_was w.next d w.temporaries u.temporaries r.lists i) [ inl z ↦ pre.1 d z q.0 | inr z ↦ (let l = q.1 in omega arith) ]

      after : (d : Completion Given) (u : World) (k : List Item) → Inv u → Rel w u × IsGiven d → Does (handle (complete d) (λ _. call Task.Dismiss) throw) u k (Dismissed w)
      after (Completion.Gave a) u k gu p = (gu, (top_then w.next w.temporaries u.temporaries p.0.lists pre.0, idle_then u p.0), again u p.0)
      after (Completion.Threw a) u k gu p = absurd p.1

      over : (ns : List ℕ) (more : List (List ℕ)) → w.temporaries ≡ ns ∷ more → (o : Option ℕ) → latest ns ≡ o → Does (dismiss_latest o) w h (Dismissed w)
      over ns more e None f = (g, (rel_self w g, tt, subst TopEmpty (sym e) (subst (λ z. TopEmpty (z ∷ more)) (sym (latest_none ns f)) tt)))
      over ns more e (Some n) f =
          let i : IsTop n w.temporaries = subst (IsTop n) (sym e) (latest_in ns n f) in
          let ready = g.borrowed n (top_among n w.temporaries i) in
          (g, (_, ready.1, refl, pre.1 n i), after)

      by : (ts : List (List ℕ)) → w.temporaries ≡ ts → Does (handle (top ts) (λ ns. dismiss_latest (latest ns)) throw) w h (Dismissed w)
      by [] e = absurd (subst HasTop e pre.0)
      by (ns ∷ more) e = over ns more e (latest ns) refl

  -- ---- contexts

  module _ (x : Context) where
    abbrev Cleared : World → Completion Given → World → List Item → Type 0
    Cleared w c v k = Rel w v × IsGiven c × NoneHeld (context_at v.contexts x)

    -- what it has is ready
    held_ready : (w : World) (g : Inv w) (n : ℕ) → greatest_in (context_at w.contexts x) ≡ Some n → (c : Core) × (core_at n w.instances ≡ Some c) × (c.phase ≡ phases.Ready)
    held_ready w g n e = by (context_at w.contexts x) (g.held x) e
      where
        P : ℕ → Type 0
        P n = (c : Core) × (core_at n w.instances ≡ Some c) × (c.phase ≡ phases.Ready)

        each_one : (p : ℕ × Held) → Rattle.cdi_ledger.proofs.Holdings.EachHeld (HeldIn w x) p.0 p.1 → (m : ℕ) → p.1 ≡ Is m → (c : Core) × (core_at m w.instances ≡ Some c) × (c.phase ≡ phases.Ready)
        each_one p h m e = let q : HeldIn w x p.0 m = subst (Rattle.cdi_ledger.proofs.Holdings.EachHeld (HeldIn w x) p.0) e h in (_, q, refl)

        by : (a : Option Active) → AllHeld (HeldIn w x) a → greatest_in a ≡ Some n → (c : Core) × (core_at n w.instances ≡ Some c) × (c.phase ≡ phases.Ready)
        by None h e = absurd (cc)
        by (Some a) h e = greatest_is (λ m. (c : Core) × (core_at m w.instances ≡ Some c) × (c.phase ≡ phases.Ready)) None a.holds n (λ m q. absurd (cc))
            (Rattle.cdi_ledger.proofs.Maps.all_weaker (λ p. Rattle.cdi_ledger.proofs.Holdings.EachHeld (HeldIn w x) p.0 p.1) (λ p. (m : ℕ) → p.1 ≡ Is m → (c : Core) × (core_at m w.instances ≡ Some c) × (c.phase ≡ phases.Ready)) a.holds each_one h) e

    pub clear_does : (w : World) (h : List Item) → Inv w → Pre t (Task.Clear x) w h → Does (clear x) w h (Cleared w)
    clear_does w h g pre = by (greatest_in (context_at w.contexts x)) refl
      where
        again : (u : World) → Rel w u → (d : Completion Given) (v : World) (k : List Item) → Inv v → Rel u v × IsGiven d × NoneHeld (context_at v.contexts x) → Does (complete d) v k (Cleared w)
        again u q (Completion.Gave a) v k gv p = (gv, (rel_then w u v q p.0, tt, p.2))
        again u q (Completion.Threw a) v k gv p = absurd p.1

        empty_then : (u : World) → Rel w u → (b : ℕ) → OnStack u b → ⊥
        empty_then u r b (inl z) = pre b (inl (subst (IsIn b) r.bodies z))
        empty_then u r b (inr z) = pre b (inr (subst (IsIn b) r.targets z))

        after : (d : Completion Given) (u : World) (k : List Item) → Inv u → Rel w u × IsGiven d → Does (handle (complete d) (λ _. call (Task.Clear x)) throw) u k (Cleared w)
        after (Completion.Gave a) u k gu p = (gu, empty_then u p.0, again u p.0)
        after (Completion.Threw a) u k gu p = absurd p.1

        by : (o : Option ℕ) → greatest_in (context_at w.contexts x) ≡ o → Does (clear_from x o) w h (Cleared w)
        by None e = (g, (rel_self w g, tt, none_held (context_at w.contexts x) e))
        by (Some n) e = let c = held_ready w g n e in (g, (c.0, c.1, c.2, λ b. pre b.0 b.1), after)
