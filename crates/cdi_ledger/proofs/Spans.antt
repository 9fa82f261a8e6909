-- What the spans of a life leave: a whole creation, a whole destruction, and each invocation, body and list of temporaries from begin to end.
use Rattle.std.proofs.Common.{ℕ, ◌+◌, ◌≡◌, ◌≢◌, ◌<◌, ◌≤◌, List, [], ◌∷◌, inl, inr, Option, Some, None, refl, sym, ap, ◌∙◌, subst, arith}
use Rattle.std.specs.Prelude.{option_map}
use Rattle.cdi_store.specs.declared.instance.Component.{Component}
use Rattle.cdi_store.specs.declared.instance.Component.TheVariants as components
use Rattle.cdi_store.specs.declared.instance.Context.{Context}
use Rattle.cdi_store.specs.declared.instance.Owner.{Owner}
use Rattle.cdi_store.specs.declared.instance.Owner.TheVariants as owners
use Rattle.cdi_store.specs.declared.instance.Phase.TheVariants as phases
use Rattle.cdi_store.specs.Live.{newborn, with_newborn}
use Rattle.cdi_store.proofs.Numbers.{equal_or_not}
use Rattle.cdi_contexts.specs.declared.context.Held.TheVariants.{Making}
use Rattle.cdi_contexts.specs.Contexts.{context_at, active_with}
use Rattle.cdi_machine.specs.Words.{Fields}
use Rattle.cdi_machine.specs.World.{World, Change, after_change}
use Rattle.cdi_ledger.specs.Whose.{IsIn, IsHeld}
use Rattle.cdi_ledger.proofs.Lists.{IsAmong}
use Rattle.cdi_ledger.proofs.Holdings.{IsMaking, IsFree, AllHeld, all_held_map, all_held_put, held_put, put_making, making_put, free_none, free_apart}
use Rattle.cdi_ledger.proofs.Cores.{Core, core_of, core_at, deps_at, with_phase, core_born, core_before, deps_born, deps_before}
use Rattle.cdi_ledger.proofs.Places.{context_or, context_own, context_other}
use Rattle.cdi_ledger.proofs.Homes.{codes, provisions, parameters_same, being, Grown, grown_self, grown_then, Inv, HeldIn, IsReadyOf, Placed, OnStack, Busy, IsFixed, IsStaying, Chain, Rel, rel_self, rel_then, targets, lt_or, chain_map, fixed_then, was_busy}
use Rattle.cdi_ledger.proofs.Changes.{Moves, inv_kept, one_core}
use Rattle.cdi_ledger.proofs.Makings.{For}

-- ---- worlds that differ in nothing that is looked at here

pub record Still (w v : World) : Type 0 where
  pub next : v.next ≡ w.next
  pub bodies : v.bodies ≡ w.bodies
  pub targets : targets v.invocations ≡ targets w.invocations
  pub members : codes v.invocations ≡ codes w.invocations
  pub provisions : provisions v.invocations ≡ provisions w.invocations
  pub temporaries : v.temporaries ≡ w.temporaries
  pub core : (k : ℕ) → core_at k v.instances ≡ core_at k w.instances
  pub deps : (k : ℕ) → deps_at k v.instances ≡ deps_at k w.instances
  pub contexts : (c : Context) → context_at v.contexts c ≡ context_at w.contexts c

ready_still : (w v : World) (k : ℕ) (o : Owner) → Still w v → IsReadyOf w k o → IsReadyOf v k o
ready_still w v k o s q = (q.0, s.core k ∙ q.1)

stack_still : (w v : World) (b : ℕ) → Still w v → OnStack v b → OnStack w b
stack_still w v b s (inl h) = inl (subst (IsIn b) s.bodies h)
stack_still w v b s (inr h) = inr (subst (IsIn b) s.targets h)

pub inv_still : (w v : World) → Still w v → Inv w → Inv v
inv_still w v s g = record {
  below = λ k c e. subst (λ z. k < z) (sym s.next) (g.below k c (sym (s.core k) ∙ e));
  smaller = λ k m c e o. g.smaller k m c (sym (s.core k) ∙ e) o;
  stack = λ b h. subst (λ z. b < z) (sym s.next) (g.stack b (stack_still w v b s h));
  depends = λ m k h. ready_still w v k (owners.Instance m) s (g.depends m k (subst (IsIn k) (s.deps m) h));
  borrowed = λ k h. ready_still w v k owners.Borrower s (g.borrowed k (subst (IsAmong k) s.temporaries h));
  held = λ c. subst (AllHeld (HeldIn v c)) (sym (s.contexts c)) (all_held_map (HeldIn w c) (HeldIn v c) (context_at w.contexts c) (λ b n h. s.core n ∙ h) (g.held c));
  placed = λ k c e r. by k c.component c.owner (g.placed k c (sym (s.core k) ∙ e) r);
  made = λ k x b e. subst (λ z. IsMaking z b) (sym (s.contexts x)) (g.made k x b (sym (s.core k) ∙ e));
  one = λ j k x b e f. g.one j k x b (sym (s.core j) ∙ e) (sym (s.core k) ∙ f);
  provided = λ n rs i. parameters_same w v n rs s.next s.core (g.provided n rs (subst (IsIn (n, rs)) s.provisions i));
}
  where
    by : (k : ℕ) (component : Component) (owner : Owner) → Placed w k component owner → Placed v k component owner
    by k component (owners.Context x) h = subst (λ z. IsHeld z component k) (sym (s.contexts x)) h
    by k component (owners.Instance m) h = subst (IsIn k) (sym (s.deps m)) h
    by k component owners.Borrower h = subst (IsAmong k) (sym s.temporaries) h

pub rel_still : (w v : World) → Still w v → Inv w → Rel w v
rel_still w v s g = record {
  next = (let q = s.next in omega arith);
  bodies = s.bodies;
  targets = s.targets;
  members = s.members;
  provisions = s.provisions;
  lists = subst (Grown w.next w.temporaries) (sym s.temporaries) (grown_self w.next w.temporaries);
  old = λ k c l e. sym (s.core k) ∙ e;
  new = λ k c l e. (let b = g.below k c (sym (s.core k) ∙ e) in absurd (omega arith));
  stay = λ k c e f. s.core k ∙ e;
  making = λ c b h. subst (λ z. IsMaking z b) (sym (s.contexts c)) h;
  absent = λ c h. s.contexts c ∙ h;
}

-- ---- busy is what was, across a change of one that isn't

busy_across : (w v : World) (n k : ℕ) → ((b : ℕ) → OnStack w b → OnStack v b) → ((j : ℕ) → j ≢ n → core_at j v.instances ≡ core_at j w.instances) → (Busy w n → ⊥) → Busy w k → Busy v k
busy_across w v n k f other idle q = (q.0, f q.0 q.1, along k q.2)
  where
    along : (j : ℕ) → Chain w.instances q.0 j → Chain v.instances q.0 j
    along j Chain.here = Chain.here
    along j (Chain.up {d = d} {c = c} p e s o) = Chain.up (along d p) (other d (λ z. idle (q.0, q.1, subst (Chain w.instances q.0) z p)) ∙ e) s o

stack_moved : (w v : World) (b : ℕ) → v.bodies ≡ w.bodies → targets v.invocations ≡ targets w.invocations → OnStack w b → OnStack v b
stack_moved w v b p q (inl h) = inl (subst (IsIn b) (sym p) h)
stack_moved w v b p q (inr h) = inr (subst (IsIn b) (sym q) h)

pub fixed_across : {M : Context → ℕ → Type 0} {T : ℕ → Type 0} {x : Option Core} (w v : World) (n k : ℕ) (c : Core) → Moves M T n x w v → (Busy w n → ⊥) → IsFixed w k c → IsFixed v k c
fixed_across w v n k c m idle (inl e) = inl e
fixed_across w v n k c m idle (inr (inl e)) = inr (inl e)
fixed_across w v n k c m idle (inr (inr b)) = inr (inr (busy_across w v n k (λ j. stack_moved w v j m.bodies m.targets) m.other idle b))

-- ---- a destruction, from its begin to its end

pub rel_destroyed : (w w1 w3 w4 : World) (n : ℕ) (c : Core) (x : Option Core) → core_at n w.instances ≡ Some c → c.phase ≡ phases.Ready → (Busy w n → ⊥) → Inv w
    → Moves (λ c b. ⊥) (λ k. Unit {0}) n x w w1 → w1.next ≡ w.next → Rel w1 w3 → Moves (λ c b. ⊥) (λ k. Unit {0}) n None w3 w4 → w4.next ≡ w3.next → Rel w w4
rel_destroyed w w1 w3 w4 n c x e ready idle g a i r b j = record {
  next = (let y = r.next in omega arith);
  bodies = b.bodies ∙ (r.bodies ∙ a.bodies);
  targets = b.targets ∙ (r.targets ∙ a.targets);
  members = b.members ∙ (r.members ∙ a.members);
  provisions = b.provisions ∙ (r.provisions ∙ a.provisions);
  lists = grown_then w.next w.next w.temporaries w1.temporaries w4.temporaries (omega arith) (a.lists w.next tt)
      (grown_then w.next w.next w1.temporaries w3.temporaries w4.temporaries (omega arith) (subst (λ z. Grown z w1.temporaries w3.temporaries) i r.lists) (b.lists w.next tt));
  old = λ k d l f. elim (equal_or_not k n) [
    | inl s ↦ absurd (gone k d s.1 f)
    | inr s ↦ sym (a.other k s.1) ∙ r.old k d (omega arith) (sym (b.other k s.1) ∙ f)
  ];
  new = λ k d l f. elim (equal_or_not k n) [
    | inl s ↦ absurd (gone k d s.1 f)
    | inr s ↦ r.new k d (omega arith) (sym (b.other k s.1) ∙ f)
  ];
  stay = λ k d f q. elim (equal_or_not k n) [
    | inl s ↦ absurd (mine k d s.1 f q)
    | inr s ↦ b.other k s.1 ∙ r.stay k d (a.other k s.1 ∙ f) (fixed_across w w1 n k d a idle q)
  ];
  making = λ y m h. b.making y m (λ z. z) (r.making y m (a.making y m (λ z. z) h));
  absent = λ y h. b.absent y (r.absent y (a.absent y h));
}
  where
    gone : (k : ℕ) (d : Core) → k ≡ n → core_at k w4.instances ≡ Some d → ⊥
    gone k d s f = let q : ◌≡◌ {A = Option Core} None (Some d) = sym b.own ∙ subst (λ z. core_at z w4.instances ≡ Some d) s f in cc

    mine : (k : ℕ) (d : Core) → k ≡ n → core_at k w.instances ≡ Some d → IsFixed w k d → ⊥
    mine k d s f (inl p) = let q = ap (λ (z : Core). z.phase) (one_core e (subst (λ z. core_at z w.instances ≡ Some d) s f)) in let t : phases.New ≡ phases.Ready = sym p ∙ (q ∙ ready) in cc
    mine k d s f (inr (inl p)) = let q = ap (λ (z : Core). z.phase) (one_core e (subst (λ z. core_at z w.instances ≡ Some d) s f)) in let t : phases.Leaving ≡ phases.Ready = sym p ∙ (q ∙ ready) in cc
    mine k d s f (inr (inr p)) = idle (subst (Busy w) s p)

-- ---- the begin of a creation

abbrev pub CanBegin : World → Component → Owner → Type 0
CanBegin w component (owners.Context x) = (b : ℕ) × (component ≡ components.Bean b) × IsFree (context_at w.contexts x) b
CanBegin w component (owners.Instance m) = m < w.next
CanBegin w component owners.Borrower = Unit {0}

abbrev pub MakingIn : World → Component → Owner → Type 0
MakingIn w component (owners.Context x) = (b : ℕ) × (component ≡ components.Bean b) × IsMaking (context_at w.contexts x) b
MakingIn w component _ = Unit {0}

pub record Begun (w v : World) (component : Component) (owner : Owner) : Type 0 where
  pub inv : Inv v
  pub moves : Moves (λ c b. ⊥) (λ k. Unit {0}) w.next (Some (record { component = component; owner = owner; phase = phases.New })) w v
  pub next : v.next ≡ w.next + 1
  pub making : MakingIn v component owner

module _ (w : World) (g : Inv w) (component : Component) (fields : Fields) where
  unborn : core_at w.next w.instances ≡ None
  unborn = by (core_at w.next w.instances) refl
    where
      by : (o : Option Core) → core_at w.next w.instances ≡ o → core_at w.next w.instances ≡ None
      by None e = e
      by (Some c) e = let l = g.below w.next c e in absurd (omega arith)

  module _ (owner : Owner) (v : World) (i : v.instances ≡ with_newborn w.next component owner fields w.instances) (x : v.next ≡ w.next + 1) (small : (m : ℕ) → owner ≡ owners.Instance m → m < w.next) where
    born : core_at w.next v.instances ≡ Some (record { component = component; owner = owner; phase = phases.New })
    born = ap (core_at w.next) i ∙ core_born w.instances w.next (newborn component owner fields) unborn

    others : (k : ℕ) → k ≢ w.next → core_at k v.instances ≡ core_at k w.instances
    others k d = ap (core_at k) i ∙ core_before w.instances w.next k (newborn component owner fields) d

    not_born : (c : Core) → core_at w.next w.instances ≡ Some c → ⊥
    not_born c e = let l = g.below w.next c e in omega arith

    held_on : (d : Context) (b k : ℕ) → HeldIn w d b k → HeldIn v d b k
    held_on d b k h = elim (equal_or_not k w.next) [
      | inl s ↦ absurd (not_born _ (subst (λ z. HeldIn w d b z) s.1 h))
      | inr s ↦ others k s.1 ∙ h
    ]

    dep_was : (k m : ℕ) → IsIn k (deps_at m v.instances) → IsIn k (deps_at m w.instances)
    dep_was k m h = elim (equal_or_not m w.next) [
      | inl s ↦ absurd (subst (IsIn k) (deps_born w.instances w.next (newborn component owner fields) unborn) (subst (λ z. IsIn k (deps_at z (with_newborn w.next component owner fields w.instances))) s.1 (subst (λ z. IsIn k (deps_at m z)) i h)))
      | inr s ↦ subst (IsIn k) (deps_before w.instances w.next m (newborn component owner fields) s.1) (subst (λ z. IsIn k (deps_at m z)) i h)
    ]

    dep_is : (k m : ℕ) → IsIn k (deps_at m w.instances) → IsIn k (deps_at m v.instances)
    dep_is k m h = elim (equal_or_not m w.next) [
      | inl s ↦ absurd (Rattle.cdi_ledger.proofs.Cores.no_deps w.instances w.next k unborn (subst (λ z. IsIn k (deps_at z w.instances)) s.1 h))
      | inr s ↦ subst (λ z. IsIn k (deps_at m z)) (sym i) (subst (IsIn k) (sym (deps_before w.instances w.next m (newborn component owner fields) s.1)) h)
    ]

    begun_inv : v.bodies ≡ w.bodies → v.invocations ≡ w.invocations → v.temporaries ≡ w.temporaries
        → ((d : Context) → AllHeld (HeldIn v d) (context_at v.contexts d))
        → ((k : ℕ) (component : Component) (x : Context) → IsHeld (context_at w.contexts x) component k → IsHeld (context_at v.contexts x) component k)
        → ((k : ℕ) (x : Context) (b : ℕ) → k ≢ w.next → core_at k w.instances ≡ Some (being b x) → IsMaking (context_at w.contexts x) b → IsMaking (context_at v.contexts x) b)
        → ((x : Context) (b : ℕ) → owner ≡ owners.Context x → component ≡ components.Bean b → IsMaking (context_at v.contexts x) b)
        → ((x : Context) (b : ℕ) → owner ≡ owners.Context x → component ≡ components.Bean b → IsFree (context_at w.contexts x) b) → Inv v
    begun_inv b t f h p m mo fr = inv_kept w.next w v g (record {
      next = omega arith;
      below = λ d q. omega arith;
      smaller = λ m d q o. small m (ap (λ (z : Core). z.owner) (one_core q born) ∙ o);
      other = others;
      stack = λ k. (λ z. elim z [ inl q ↦ inl (subst (IsIn k) b q) | inr q ↦ inr (subst (λ y. IsIn k (targets y)) t q) ]);
      depends = λ m k d h. dep_was k m h;
      depends_own = λ m h. absurd (let q = g.depends m w.next (dep_was w.next m h) in not_born _ q.1);
      borrowed = λ k d h. subst (IsAmong k) f h;
      borrowed_own = λ h. absurd (let q = g.borrowed w.next (subst (IsAmong w.next) f h) in not_born _ q.1);
      held = h;
      placed = λ k d s e r q. placing k d.component d.owner q;
      placed_own = λ d q r. absurd (let z = ap (λ (y : Core). y.phase) (one_core q born) in let y : phases.New ≡ phases.Ready = z ∙ r in cc);
      made = m;
      made_own = λ x b q. mo x b (ap (λ (z : Core). z.owner) (one_core q born)) (ap (λ (z : Core). z.component) (one_core q born));
      one_own = λ k x b d q f. free_apart (context_at w.contexts x) b b (fr x b (ap (λ (z : Core). z.owner) (one_core q born)) (ap (λ (z : Core). z.component) (one_core q born))) (g.made k x b f) refl;
      invocations = t;
      owner_own = λ d q l. absurd (omega arith);
      older = λ a m q. absurd (not_born a.0 a.1);
    })
      where
        placing : (k : ℕ) (component : Component) (owner : Owner) → Placed w k component owner → Placed v k component owner
        placing k component (owners.Context y) h = p k component y h
        placing k component owners.Borrower h = subst (IsAmong k) (sym f) h
        placing k component (owners.Instance m) h = dep_is k m h

  begin_plain : (owner : Owner) → ((m : ℕ) → owner ≡ owners.Instance m → m < w.next) → MakingIn w component owner → (v : World) → v ≡ record w { instances = with_newborn w.next component owner fields w.instances; next = w.next + 1 } → ((u : World) → u.contexts ≡ w.contexts → MakingIn u component owner) → ((x : Context) → owner ≡ owners.Context x → ⊥) → Begun w v component owner
  begin_plain owner small can v p mk nc = subst (λ z. Begun w z component owner) (sym p) (record {
    inv = begun_inv owner u refl refl small refl refl refl (λ d. all_held_map (HeldIn w d) (HeldIn u d) (context_at w.contexts d) (held_on owner u refl refl small d) (g.held d)) (λ k component x h. h) (λ k x b d e h. h) (λ x b e q. absurd (nc x e)) (λ x b e q. absurd (nc x e));
    moves = record { bodies = refl; targets = refl; members = refl; provisions = refl; lists = λ k t. grown_self k w.temporaries; own = born owner u refl refl small; other = others owner u refl refl small; making = λ c b f h. h; absent = λ c h. h };
    next = refl;
    making = mk u refl;
  })
    where
      u : World
      u = record w { instances = with_newborn w.next component owner fields w.instances; next = w.next + 1 }

module _ (w : World) (g : Inv w) (b : ℕ) (x : Context) (fields : Fields) (free : IsFree (context_at w.contexts x) b) where
  bean_world : World
  bean_world = after_change (Change.Make (components.Bean b) (owners.Context x) fields) w

  bean_begins : Begun w bean_world (components.Bean b) (owners.Context x)
  unfolding bean_world
  bean_begins = record {
    inv = begun_inv w g (components.Bean b) fields (owners.Context x) bean_world refl refl small refl refl refl held kept (λ k y a d f h. still y a h) making_it free_it;
    moves = record {
      bodies = refl;
      targets = refl;
      members = refl;
      provisions = refl;
      lists = λ k t. grown_self k w.temporaries;
      own = born w g (components.Bean b) fields (owners.Context x) bean_world refl refl small;
      other = others w g (components.Bean b) fields (owners.Context x) bean_world refl refl small;
      making = λ c a f h. still c a h;
      absent = away;
    };
    next = refl;
    making = (b, refl, subst (λ z. IsMaking z b) (sym own_context) (put_making (context_at w.contexts x) b free));
  }
    where
      small : (m : ℕ) → owners.Context x ≡ owners.Instance m → m < w.next
      small m e = absurd (cc)

      own_context : context_at bean_world.contexts x ≡ option_map (active_with b Making) (context_at w.contexts x)
      own_context = context_own x (active_with b Making) w.contexts

      other_context : (d : Context) → d ≢ x → context_at bean_world.contexts d ≡ context_at w.contexts d
      other_context d s = context_other x d (active_with b Making) w.contexts s

      making_it : (y : Context) (a : ℕ) → owners.Context x ≡ owners.Context y → components.Bean b ≡ components.Bean a → IsMaking (context_at bean_world.contexts y) a
      making_it y a p q =
          let e : x ≡ y = cc in
          let f : b ≡ a = cc in
          subst (λ z. IsMaking (context_at bean_world.contexts z) a) e (subst (IsMaking (context_at bean_world.contexts x)) f (subst (λ z. IsMaking z b) (sym own_context) (put_making (context_at w.contexts x) b free)))

      free_it : (y : Context) (a : ℕ) → owners.Context x ≡ owners.Context y → components.Bean b ≡ components.Bean a → IsFree (context_at w.contexts y) a
      free_it y a p q =
          let e : x ≡ y = cc in
          let f : b ≡ a = cc in
          subst (λ z. IsFree (context_at w.contexts z) a) e (subst (IsFree (context_at w.contexts x)) f free)

      on : (d : Context) (a k : ℕ) → HeldIn w d a k → HeldIn bean_world d a k
      on = held_on w g (components.Bean b) fields (owners.Context x) bean_world refl refl small

      held : (d : Context) → AllHeld (HeldIn bean_world d) (context_at bean_world.contexts d)
      held d = elim (context_or d x) [
        | inl s ↦ subst (λ z. AllHeld (HeldIn bean_world z) (context_at bean_world.contexts z)) (sym s) (subst (AllHeld (HeldIn bean_world x)) (sym own_context)
            (all_held_put (HeldIn bean_world x) (context_at w.contexts x) b Making tt (all_held_map (HeldIn w x) (HeldIn bean_world x) (context_at w.contexts x) (on x) (g.held x))))
        | inr s ↦ subst (AllHeld (HeldIn bean_world d)) (sym (other_context d s)) (all_held_map (HeldIn w d) (HeldIn bean_world d) (context_at w.contexts d) (on d) (g.held d))
      ]

      kept : (k : ℕ) (component : Component) (y : Context) → IsHeld (context_at w.contexts y) component k → IsHeld (context_at bean_world.contexts y) component k
      kept k component y h = elim (context_or y x) [
        | inl s ↦ subst (λ z. IsHeld (context_at bean_world.contexts z) component k) (sym s) (subst (λ z. IsHeld z component k) (sym own_context)
            (held_put (context_at w.contexts x) b Making component k (free_none (context_at w.contexts x) b free) (subst (λ z. IsHeld (context_at w.contexts z) component k) s h)))
        | inr s ↦ subst (λ z. IsHeld z component k) (sym (other_context y s)) h
      ]

      still : (y : Context) (a : ℕ) → IsMaking (context_at w.contexts y) a → IsMaking (context_at bean_world.contexts y) a
      still y a h = elim (context_or y x) [
        | inl s ↦ let h1 = subst (λ z. IsMaking (context_at w.contexts z) a) s h in subst (λ z. IsMaking (context_at bean_world.contexts z) a) (sym s) (subst (λ z. IsMaking z a) (sym own_context)
            (making_put (context_at w.contexts x) b Making a (free_apart (context_at w.contexts x) b a free h1) h1))
        | inr s ↦ subst (λ z. IsMaking z a) (sym (other_context y s)) h
      ]

      away : (y : Context) → context_at w.contexts y ≡ None → context_at bean_world.contexts y ≡ None
      away y h = elim (context_or y x) [
        | inl s ↦ subst (λ z. context_at bean_world.contexts z ≡ None) (sym s) (own_context ∙ ap (option_map (active_with b Making)) (subst (λ z. context_at w.contexts z ≡ None) s h))
        | inr s ↦ other_context y s ∙ h
      ]

pub begins : (w : World) (g : Inv w) (component : Component) (fields : Fields) (owner : Owner) → CanBegin w component owner → Begun w (after_change (Change.Make component owner fields) w) component owner
unfolding bean_world
begins w g component fields (owners.Instance m) can = begin_plain w g component fields (owners.Instance m) (λ k e. subst (λ z. z < w.next) (let q : m ≡ k = cc in q) can) tt _ refl (λ u e. tt) (λ x e. absurd (cc))
begins w g component fields owners.Borrower can = begin_plain w g component fields owners.Borrower (λ k e. absurd (cc)) tt _ refl (λ u e. tt) (λ x e. absurd (cc))
begins w g component fields (owners.Context x) can = subst (λ z. Begun w (after_change (Change.Make z (owners.Context x) fields) w) z (owners.Context x)) (sym can.1) (bean_begins w g can.0 x fields can.2)

-- ---- a creation, from its begin to its end

pub rel_created : {T : ℕ → Type 0} (w w1 w2 w3 : World) (component : Component) (owner : Owner) (x : Option Core) → Inv w → CanBegin w component owner → Begun w w1 component owner
    → Rel w1 w2 → Moves (For component owner) T w.next x w2 w3 → T w.next → w3.next ≡ w2.next → ((c : Core) → x ≡ Some c → c.phase ≡ phases.Ready) → Rel w w3
rel_created w w1 w2 w3 component owner x g can a r b t j ready = record {
  next = (let y = r.next in let z = a.next in omega arith);
  bodies = b.bodies ∙ (r.bodies ∙ a.moves.bodies);
  targets = b.targets ∙ (r.targets ∙ a.moves.targets);
  members = b.members ∙ (r.members ∙ a.moves.members);
  provisions = b.provisions ∙ (r.provisions ∙ a.moves.provisions);
  lists = grown_then w.next w.next w.temporaries w1.temporaries w3.temporaries (omega arith) (a.moves.lists w.next tt)
      (grown_then w.next w.next w1.temporaries w2.temporaries w3.temporaries (omega arith) (less w.next w1.next w1.temporaries w2.temporaries (let z = a.next in omega arith) r.lists) (b.lists w.next t));
  old = λ k d l f. elim (equal_or_not k w.next) [
    | inl s ↦ absurd (omega (arith, s.1))
    | inr s ↦ sym (a.moves.other k s.1) ∙ r.old k d (let z = a.next in omega arith) (sym (b.other k s.1) ∙ f)
  ];
  new = λ k d l f. elim (equal_or_not k w.next) [
    | inl s ↦ ready d (sym b.own ∙ subst (λ z. core_at z w3.instances ≡ Some d) s.1 f)
    | inr s ↦ r.new k d (let z = a.next in let y = s.1 in above w.next k w1.next l y z) (sym (b.other k s.1) ∙ f)
  ];
  stay = λ k d f q. elim (equal_or_not k w.next) [
    | inl s ↦ absurd (let y = g.below k d f in omega (arith, s.1))
    | inr s ↦ b.other k s.1 ∙ r.stay k d (a.moves.other k s.1 ∙ f) (fixed_across w w1 w.next k d a.moves idle q)
  ];
  making = λ y m h. b.making y m (λ z. apart owner can y m h z) (r.making y m (a.moves.making y m (λ z. z) h));
  absent = λ y h. b.absent y (r.absent y (a.moves.absent y h));
}
  where
    less : (k j : ℕ) (ts us : List (List ℕ)) → k ≤ j → Grown j ts us → Grown k ts us
    less k j [] [] l q = tt
    less k j [] (u ∷ us) l q = q
    less k j (t ∷ ts) [] l q = q
    less k j (t ∷ ts) (u ∷ us) l q = (λ n h. elim (q.0 n h) [ inl y ↦ inl y | inr y ↦ inr (omega (arith, y)) ], less k j ts us l q.1)

    above : (n k m : ℕ) → n ≤ k → k ≢ n → m ≡ n + 1 → m ≤ k
    above n k m l d e = elim (lt_or k m) [ inl y ↦ absurd (d (omega (arith, y))) | inr y ↦ y ]

    idle : Busy w w.next → ⊥
    idle q = let l = Rattle.cdi_ledger.proofs.Homes.chain_small w.instances q.0 w.next (λ d k c e o. g.smaller d k c e o) q.2 in let s = g.stack q.0 q.1 in omega arith

    apart : (o : Owner) → CanBegin w component o → (y : Context) (m : ℕ) → IsMaking (context_at w.contexts y) m → For component o y m → ⊥
    apart (owners.Context z) can y m h f =
        let e : z ≡ y = (let q = f.0 in let p : z ≡ y = cc in p) in
        let i : components.Bean m ≡ components.Bean can.0 = sym f.1 ∙ can.1 in
        let n : m ≡ can.0 = cc in
        free_apart (context_at w.contexts z) can.0 m can.2 (subst (λ c. IsMaking (context_at w.contexts c) m) (sym e) h) n
    apart (owners.Instance k) can y m h f = let q = f.0 in cc
    apart owners.Borrower can y m h f = let q = f.0 in cc
