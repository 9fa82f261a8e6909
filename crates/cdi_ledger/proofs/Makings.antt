-- What the begin of an instance, and its two ends, leave of where all stand.
use Rattle.std.proofs.Common.{ℕ, ◌≡◌, ◌≢◌, ◌<◌, ◌≤◌, List, [], ◌∷◌, ◌++◌, inl, inr, Option, Some, None, refl, sym, ap, ◌∙◌, subst, arith, nat_eq}
use Rattle.std.specs.Prelude.{option_map}
use Rattle.cdi_base.specs.Maps.{without}
use Rattle.cdi_store.specs.declared.instance.Component.{Component}
use Rattle.cdi_store.specs.declared.instance.Component.TheVariants as components
use Rattle.cdi_store.specs.declared.instance.Context.{Context}
use Rattle.cdi_store.specs.declared.instance.Owner.{Owner}
use Rattle.cdi_store.specs.declared.instance.Owner.TheVariants as owners
use Rattle.cdi_store.specs.declared.instance.Phase.TheVariants as phases
use Rattle.cdi_store.specs.declared.instance.Instance.{Instance}
use Rattle.cdi_store.specs.Live.{with_ready}
use Rattle.cdi_store.proofs.Numbers.{equal_or_not}
use Rattle.cdi_contexts.specs.declared.context.Held.TheVariants.{Is}
use Rattle.cdi_contexts.specs.Contexts.{context_at, active_with, active_without}
use Rattle.cdi_machine.specs.World.{World, Change, after_change, instance_at, for_instance, with_owned, without_making, with_instances, on_top}
use Rattle.cdi_ledger.specs.Whose.{IsIn, IsHeld}
use Rattle.cdi_ledger.proofs.Lists.{IsAmong, HasTop, in_either, among_new, among_old, among_either}
use Rattle.cdi_ledger.proofs.Holdings.{IsMaking, AllHeld, all_held_map, all_held_put, all_held_left, held_left, making_left, held_put, put_held, making_put, making_none}
use Rattle.cdi_ledger.proofs.Cores.{Core, core_at, deps_at, with_phase, when, is_there, when_own, when_other, core_ready, ready_was, ready_stays, ready_own, ready_only, core_gone, core_left, deps_gone, deps_left}
use Rattle.cdi_ledger.proofs.Places.{context_or, context_own, context_other}
use Rattle.cdi_ledger.proofs.Homes.{provisions, IsReferred, being, Grown, grown_self, Inv, HeldIn, IsReadyOf, Placed, targets}
use Rattle.cdi_ledger.proofs.Changes.{Moves, Kept, inv_kept, one_core, leave_phase, leave_owner, leave_component}

-- the pair that isn't told to be still making
abbrev pub For : Component → Owner → Context → ℕ → Type 0
For component owner c b = (owner ≡ owners.Context c) × (component ≡ components.Bean b)

-- where an instance that is being made will stand
abbrev pub CanStand : World → Component → Owner → Type 0
CanStand w component (owners.Context x) = (b : ℕ) × (component ≡ components.Bean b) × IsMaking (context_at w.contexts x) b
CanStand w component (owners.Instance m) = (d : Core) × (core_at m w.instances ≡ Some d)
CanStand w component owners.Borrower = HasTop w.temporaries

grown_top : (n k : ℕ) (ts : List (List ℕ)) → k ≤ n → Grown k ts (on_top (λ ns. ns ++ n ∷ []) ts)
grown_top n k [] l = tt
grown_top n k (xs ∷ ts) l = (λ m h. elim (in_either m n xs h) [ inl q ↦ inl q | inr q ↦ inr (subst (λ z. k ≤ z) q l) ], grown_self k ts)

settled_is : (w : World) (n : ℕ) (x : Instance) → instance_at w n ≡ Some x → after_change (Change.Settle n) w ≡ with_owned n x.component x.owner (with_instances (with_ready n) w)
settled_is w n x e = subst (λ z. for_instance w z (λ o. with_owned n o.component o.owner (with_instances (with_ready n) w)) ≡ with_owned n x.component x.owner (with_instances (with_ready n) w)) (sym e) refl

discarded_is : (w : World) (n : ℕ) (x : Instance) → instance_at w n ≡ Some x → after_change (Change.Discard n) w ≡ without_making x.component x.owner (with_instances (without n) w)
discarded_is w n x e = subst (λ z. for_instance w z (λ o. without_making o.component o.owner (with_instances (without n) w)) ≡ without_making x.component x.owner (with_instances (without n) w)) (sym e) refl

-- no invocation has a direct reference to what is younger
module _ (w : World) (n : ℕ) (g : Inv w) (c : Core) (e : core_at n w.instances ≡ Some c) (new : c.phase ≡ phases.New) (older : (m : ℕ) → IsReferred m (provisions w.invocations) → m < n) where
  not_ready : (component : Component) (owner : Owner) → core_at n w.instances ≡ Some (record { component = component; owner = owner; phase = phases.Ready }) → ⊥
  not_ready component owner f = let q = ap (λ (z : Core). z.phase) (one_core e f) in let r : phases.Ready ≡ phases.New = q ∙ new in cc

  -- ---- it is ready

  own_ready : core_at n (with_ready n w.instances) ≡ Some (with_phase phases.Ready c)
  own_ready = core_ready n w.instances n ∙ (ap (when (nat_eq n n) (with_phase phases.Ready)) e ∙ when_own n (with_phase phases.Ready) c)

  other_ready : (k : ℕ) → k ≢ n → core_at k (with_ready n w.instances) ≡ core_at k w.instances
  other_ready k d = core_ready n w.instances k ∙ when_other n k (with_phase phases.Ready) (core_at k w.instances) d

  stands : {component : Component} {o : Owner} → c.owner ≡ o → c.component ≡ component → core_at n (with_ready n w.instances) ≡ Some (record { component = component; owner = o; phase = phases.Ready })
  stands {component} {o} p q = own_ready ∙ ap (λ z. Some z) (ap (λ x. record { component = x; owner = c.owner; phase = phases.Ready }) q ∙ ap (λ x. record { component = component; owner = x; phase = phases.Ready }) p)

  held_on : (v : World) → v.instances ≡ with_ready n w.instances → (d : Context) → (b k : ℕ) → HeldIn w d b k → HeldIn v d b k
  held_on v i d b k h = elim (equal_or_not k n) [
    | inl s ↦ absurd (not_ready (components.Bean b) (owners.Context d) (subst (λ z. HeldIn w d b z) s.1 h))
    | inr s ↦ ap (core_at k) i ∙ (other_ready k s.1 ∙ h)
  ]

  ready_kept : (v : World) → v.instances ≡ with_ready n w.instances → v.next ≡ w.next → v.bodies ≡ w.bodies → v.invocations ≡ w.invocations
      → ((k : ℕ) → k ≢ n → IsAmong k v.temporaries → IsAmong k w.temporaries) → (IsAmong n v.temporaries → IsReadyOf v n owners.Borrower)
      → ((d : Context) → AllHeld (HeldIn v d) (context_at v.contexts d))
      → ((k : ℕ) (d : Core) → k ≢ n → core_at k w.instances ≡ Some d → d.phase ≡ phases.Ready → Placed w k d.component d.owner → Placed v k d.component d.owner)
      → Placed v n c.component c.owner → ((k : ℕ) (x : Context) (b : ℕ) → k ≢ n → core_at k w.instances ≡ Some (being b x) → IsMaking (context_at w.contexts x) b → IsMaking (context_at v.contexts x) b) → Kept n w v
  ready_kept v i x b t f fn h p own mk = record {
    next = (let q = x in omega arith);
    below = λ d q. subst (λ z. n < z) (sym x) (g.below n c e);
    smaller = λ m d q o. g.smaller n m c e (sym (leave_owner phases.Ready c d (sym own_ready ∙ (sym (ap (core_at n) i) ∙ q))) ∙ o);
    other = λ k d. ap (core_at k) i ∙ other_ready k d;
    stack = λ k. (λ z. elim z [ inl q ↦ inl (subst (IsIn k) b q) | inr q ↦ inr (subst (λ y. IsIn k (targets y)) t q) ]);
    depends = λ m k d q. ready_was n w.instances c e k m d (subst (λ z. IsIn k (deps_at m z)) i q);
    depends_own = λ m q. elim (ready_only n w.instances c e m (subst (λ z. IsIn n (deps_at m z)) i q)) [
      | inl r ↦ absurd (let y = g.depends m n r in not_ready y.0 (owners.Instance m) y.1)
      | inr r ↦ (c.component, ap (core_at n) i ∙ stands r refl)
    ];
    borrowed = f;
    borrowed_own = fn;
    held = h;
    placed = p;
    placed_own = λ d q r. (let z = sym own_ready ∙ (sym (ap (core_at n) i) ∙ q) in subst (λ y. Placed v n d.component y) (sym (leave_owner phases.Ready c d z)) (subst (λ y. Placed v n y c.owner) (sym (leave_component phases.Ready c d z)) own));
    made = mk;
    made_own = λ y a q. absurd (never y a q);
    one_own = λ k y a d q r. never y a q;
    invocations = t;
    owner_own = λ d q l. (c, e, sym (leave_owner phases.Ready c d (sym own_ready ∙ (sym (ap (core_at n) i) ∙ q))));
    older = λ a. older;
  }
    where
      never : (y : Context) (a : ℕ) → core_at n v.instances ≡ Some (being a y) → ⊥
      never y a q = let z = leave_phase phases.Ready c (being a y) (sym own_ready ∙ (sym (ap (core_at n) i) ∙ q)) in let r : phases.New ≡ phases.Ready = z in cc

  -- what it is, if it is made for this pair
  own_being : (y : Context) (a : ℕ) → For c.component c.owner y a → core_at n w.instances ≡ Some (being a y)
  own_being y a z = e ∙ ap (λ t. Some t) (ap (λ t. record { component = t; owner = c.owner; phase = c.phase }) z.1 ∙ (ap (λ t. record { component = components.Bean a; owner = t; phase = c.phase }) z.0 ∙ ap (λ t. record { component = components.Bean a; owner = owners.Context y; phase = t }) new))

  dep_on : (v : World) → v.instances ≡ with_ready n w.instances → (k m : ℕ) → k ≢ n → IsIn k (deps_at m w.instances) → IsIn k (deps_at m v.instances)
  dep_on v i k m d h = subst (λ z. IsIn k (deps_at m z)) (sym i) (ready_stays n w.instances c e k m d h)

  not_among : IsAmong n w.temporaries → ⊥
  not_among h = let q = g.borrowed n h in not_ready q.0 owners.Borrower q.1

  abbrev pub SettledTo : World → Type 0
  SettledTo v = Inv v × Moves (For c.component c.owner) (λ k. k ≤ n) n (Some (with_phase phases.Ready c)) w v × (v.next ≡ w.next)

  settle_by : (o : Owner) (component : Component) → c.owner ≡ o → c.component ≡ component → CanStand w component o → SettledTo (with_owned n component o (with_instances (with_ready n) w))
  settle_by (owners.Instance m) component o q can =
      let v : World = with_instances (with_ready n) w in (
        inv_kept n w v g (ready_kept v refl refl refl refl (λ k d h. h) (λ h. absurd (not_among h))
            (λ d. all_held_map (HeldIn w d) (HeldIn v d) (context_at w.contexts d) (held_on v refl d) (g.held d))
            (λ k d. placing k d.component d.owner) (subst (λ z. Placed v n c.component z) (sym o) (ready_own n w.instances c e m can.0 o can.1)) (λ k y a d f h. h)),
        record { bodies = refl; targets = refl; members = refl; provisions = refl; lists = λ k t. grown_self k w.temporaries; own = own_ready; other = other_ready; making = λ c b f h. h; absent = λ c h. h },
        refl,
      )
    where
      placing : (k : ℕ) (component : Component) (owner : Owner) {d : Core} → k ≢ n → core_at k w.instances ≡ Some d → d.phase ≡ phases.Ready → Placed w k component owner → Placed (with_instances (with_ready n) w) k component owner
      placing k component (owners.Context x) d e r h = h
      placing k component (owners.Instance x) d e r h = dep_on (with_instances (with_ready n) w) refl k x d h
      placing k component owners.Borrower d e r h = h
  settle_by owners.Borrower component o q can =
      let v : World = with_owned n component owners.Borrower (with_instances (with_ready n) w) in (
        inv_kept n w v g (ready_kept v refl refl refl refl (λ k d h. elim (among_either k n w.temporaries h) [ inl r ↦ r | inr r ↦ absurd (d (sym r)) ]) (λ h. (component, stands o q))
            (λ d. all_held_map (HeldIn w d) (HeldIn v d) (context_at w.contexts d) (held_on v refl d) (g.held d))
            (λ k d. placing k d.component d.owner) (subst (λ z. Placed v n c.component z) (sym o) (among_new n w.temporaries can)) (λ k y a d f h. h)),
        record { bodies = refl; targets = refl; members = refl; provisions = refl; lists = λ k t. grown_top n k w.temporaries t; own = own_ready; other = other_ready; making = λ c b f h. h; absent = λ c h. h },
        refl,
      )
    where
      placing : (k : ℕ) (x : Component) (owner : Owner) {d : Core} → k ≢ n → core_at k w.instances ≡ Some d → d.phase ≡ phases.Ready → Placed w k x owner → Placed (with_owned n component owners.Borrower (with_instances (with_ready n) w)) k x owner
      placing k y (owners.Context x) d e r h = h
      placing k y (owners.Instance x) d e r h = dep_on (with_owned n component owners.Borrower (with_instances (with_ready n) w)) refl k x d h
      placing k y owners.Borrower d e r h = among_old k n w.temporaries h
  settle_by (owners.Context x) (components.Interceptor i) o q can = absurd (let z = can.1 in cc)
  settle_by (owners.Context x) (components.Bean b) o q can = (
    inv_kept n w v g (ready_kept v refl refl refl refl (λ k d h. h) (λ h. absurd (not_among h)) held (λ k d. placing k d.component d.owner) home (λ k y a d f h. still y a (λ z. d (g.one k n y a f (own_being y a z))) h)),
    record { bodies = refl; targets = refl; members = refl; provisions = refl; lists = λ k t. grown_self k w.temporaries; own = own_ready; other = other_ready; making = still; absent = away },
    refl,
  )
    where
      v : World
      v = with_owned n (components.Bean b) (owners.Context x) (with_instances (with_ready n) w)

      made : IsMaking (context_at w.contexts x) b
      made = subst (IsMaking (context_at w.contexts x)) (let z : components.Bean b ≡ components.Bean can.0 = can.1 in let y : can.0 ≡ b = cc in y) can.2

      own_context : context_at v.contexts x ≡ option_map (active_with b (Is n)) (context_at w.contexts x)
      own_context = context_own x (active_with b (Is n)) w.contexts

      other_context : (d : Context) → d ≢ x → context_at v.contexts d ≡ context_at w.contexts d
      other_context d s = context_other x d (active_with b (Is n)) w.contexts s

      home : Placed v n c.component c.owner
      home = subst (λ z. Placed v n c.component z) (sym o) (subst (λ z. IsHeld (context_at v.contexts x) z n) (sym q) (subst (λ z. IsHeld z (components.Bean b) n) (sym own_context) (put_held (context_at w.contexts x) b n made)))

      held : (d : Context) → AllHeld (HeldIn v d) (context_at v.contexts d)
      held d = elim (context_or d x) [
        | inl s ↦ subst (λ z. AllHeld (HeldIn v z) (context_at v.contexts z)) (sym s) (subst (AllHeld (HeldIn v x)) (sym own_context)
            (all_held_put (HeldIn v x) (context_at w.contexts x) b (Is n) (stands o q) (all_held_map (HeldIn w x) (HeldIn v x) (context_at w.contexts x) (held_on v refl x) (g.held x))))
        | inr s ↦ subst (AllHeld (HeldIn v d)) (sym (other_context d s)) (all_held_map (HeldIn w d) (HeldIn v d) (context_at w.contexts d) (held_on v refl d) (g.held d))
      ]

      placing : (k : ℕ) (component : Component) (owner : Owner) {d : Core} → k ≢ n → core_at k w.instances ≡ Some d → d.phase ≡ phases.Ready → Placed w k component owner → Placed v k component owner
      placing k component (owners.Context y) d f r h = elim (context_or y x) [
        | inl s ↦ subst (λ z. IsHeld (context_at v.contexts z) component k) (sym s) (subst (λ z. IsHeld z component k) (sym own_context)
            (held_put (context_at w.contexts x) b (Is n) component k (making_none (context_at w.contexts x) b made) (subst (λ z. IsHeld (context_at w.contexts z) component k) s h)))
        | inr s ↦ subst (λ z. IsHeld z component k) (sym (other_context y s)) h
      ]
      placing k component (owners.Instance m) d f r h = dep_on v refl k m d h
      placing k component owners.Borrower d f r h = h

      still : (y : Context) (a : ℕ) → (For c.component c.owner y a → ⊥) → IsMaking (context_at w.contexts y) a → IsMaking (context_at v.contexts y) a
      still y a f h = elim (context_or y x) [
        | inl s ↦ subst (λ z. IsMaking (context_at v.contexts z) a) (sym s) (subst (λ z. IsMaking z a) (sym own_context)
            (making_put (context_at w.contexts x) b (Is n) a (λ t. f (o ∙ ap owners.Context (sym s), q ∙ ap components.Bean (sym t))) (subst (λ z. IsMaking (context_at w.contexts z) a) s h)))
        | inr s ↦ subst (λ z. IsMaking z a) (sym (other_context y s)) h
      ]

      away : (y : Context) → context_at w.contexts y ≡ None → context_at v.contexts y ≡ None
      away y h = elim (context_or y x) [
        | inl s ↦ subst (λ z. context_at v.contexts z ≡ None) (sym s) (own_context ∙ ap (option_map (active_with b (Is n))) (subst (λ z. context_at w.contexts z ≡ None) s h))
        | inr s ↦ other_context y s ∙ h
      ]

  pub settles : CanStand w c.component c.owner → SettledTo (after_change (Change.Settle n) w)
  settles can =
      let x = is_there n w.instances c e in
      let o = ap (λ (z : Core). z.owner) x.2 in
      let q = ap (λ (z : Core). z.component) x.2 in
      subst SettledTo (sym (settled_is w n x.0 x.1)) (settle_by x.0.owner x.0.component (sym o) (sym q) (subst (λ z. CanStand w x.0.component z) (sym o) (subst (λ z. CanStand w z c.owner) (sym q) can)))

  -- ---- its creation failed

  module _ (alone : (j : ℕ) → IsIn j (deps_at n w.instances) → ⊥) where
    abbrev pub DroppedTo : World → Type 0
    DroppedTo v = Inv v × Moves (For c.component c.owner) (λ k. Unit {0}) n None w v × (v.next ≡ w.next)

    drop_kept : (v : World) → v.instances ≡ without n w.instances → v.next ≡ w.next → v.bodies ≡ w.bodies → v.invocations ≡ w.invocations → v.temporaries ≡ w.temporaries
        → ((d : Context) → AllHeld (HeldIn v d) (context_at v.contexts d))
        → ((k : ℕ) (component : Component) (x : Context) → k ≢ n → IsHeld (context_at w.contexts x) component k → IsHeld (context_at v.contexts x) component k)
        → ((k : ℕ) (x : Context) (b : ℕ) → k ≢ n → core_at k w.instances ≡ Some (being b x) → IsMaking (context_at w.contexts x) b → IsMaking (context_at v.contexts x) b) → Kept n w v
    drop_kept v i x b t f h p mk = record {
      next = (let q = x in omega arith);
      below = λ d q. absurd (gone d q);
      smaller = λ m d q o. absurd (gone d q);
      other = λ k d. ap (core_at k) i ∙ core_left w.instances n k d;
      stack = λ k. (λ z. elim z [ inl q ↦ inl (subst (IsIn k) b q) | inr q ↦ inr (subst (λ y. IsIn k (targets y)) t q) ]);
      depends = λ m k d h. was m k (subst (λ z. IsIn k (deps_at m z)) i h);
      depends_own = λ m h. absurd (let q = g.depends m n (was m n (subst (λ z. IsIn n (deps_at m z)) i h)) in not_ready q.0 (owners.Instance m) q.1);
      borrowed = λ k d h. subst (IsAmong k) f h;
      borrowed_own = λ q. absurd (not_among (subst (IsAmong n) f q));
      held = h;
      placed = λ k d s e r q. placing k d.component d.owner s q;
      placed_own = λ d q r. absurd (gone d q);
      made = mk;
      made_own = λ y a q. absurd (gone _ q);
      one_own = λ k y a d q r. gone _ q;
      invocations = t;
      owner_own = λ d q l. absurd (gone d q);
      older = λ a. older;
    }
      where
        gone : (d : Core) → core_at n v.instances ≡ Some d → ⊥
        gone d q = let z : ◌≡◌ {A = Option Core} None (Some d) = sym (core_gone w.instances n) ∙ (sym (ap (core_at n) i) ∙ q) in cc

        was : (m k : ℕ) → IsIn k (deps_at m (without n w.instances)) → IsIn k (deps_at m w.instances)
        was m k h = elim (equal_or_not m n) [
          | inl s ↦ absurd (subst (IsIn k) (deps_gone w.instances n) (subst (λ z. IsIn k (deps_at z (without n w.instances))) s.1 h))
          | inr s ↦ subst (IsIn k) (deps_left w.instances n m s.1) h
        ]

        placing : (k : ℕ) (component : Component) (owner : Owner) → k ≢ n → Placed w k component owner → Placed v k component owner
        placing k component (owners.Context y) d h = p k component y d h
        placing k component owners.Borrower d h = subst (IsAmong k) (sym f) h
        placing k component (owners.Instance m) d h = elim (equal_or_not m n) [
          | inl s ↦ absurd (alone k (subst (λ z. IsIn k (deps_at z w.instances)) s.1 h))
          | inr s ↦ subst (λ z. IsIn k (deps_at m z)) (sym i) (subst (IsIn k) (sym (deps_left w.instances n m s.1)) h)
        ]

    lost_on : (v : World) → v.instances ≡ without n w.instances → (d : Context) (b k : ℕ) → HeldIn w d b k → HeldIn v d b k
    lost_on v i d b k h = elim (equal_or_not k n) [
      | inl s ↦ absurd (not_ready (components.Bean b) (owners.Context d) (subst (λ z. HeldIn w d b z) s.1 h))
      | inr s ↦ ap (core_at k) i ∙ (core_left w.instances n k s.1 ∙ h)
    ]

    -- no context changes
    drop_plain : (v : World) → v ≡ with_instances (without n) w → DroppedTo v
    drop_plain v p = subst DroppedTo (sym p) (
      inv_kept n w u g (drop_kept u refl refl refl refl refl (λ d. all_held_map (HeldIn w d) (HeldIn u d) (context_at w.contexts d) (lost_on u refl d) (g.held d)) (λ k component x d h. h) (λ k y a d f h. h)),
      record { bodies = refl; targets = refl; members = refl; provisions = refl; lists = λ k t. grown_self k w.temporaries; own = core_gone w.instances n; other = core_left w.instances n; making = λ c b f h. h; absent = λ c h. h },
      refl,
    )
      where
        u : World
        u = with_instances (without n) w

    drop_by : (o : Owner) (component : Component) → c.owner ≡ o → c.component ≡ component → CanStand w component o → DroppedTo (without_making component o (with_instances (without n) w))
    drop_by (owners.Instance m) component o q can = drop_plain _ refl
    drop_by owners.Borrower component o q can = drop_plain _ refl
    drop_by (owners.Context x) (components.Interceptor i) o q can = absurd (let z = can.1 in cc)
    drop_by (owners.Context x) (components.Bean b) o q can = (
      inv_kept n w v g (drop_kept v refl refl refl refl refl held kept (λ k y a d f h. still y a (λ z. d (g.one k n y a f (own_being y a z))) h)),
      record { bodies = refl; targets = refl; members = refl; provisions = refl; lists = λ k t. grown_self k w.temporaries; own = core_gone w.instances n; other = core_left w.instances n; making = still; absent = away },
      refl,
    )
      where
        v : World
        v = without_making (components.Bean b) (owners.Context x) (with_instances (without n) w)

        own_context : context_at v.contexts x ≡ option_map (active_without b) (context_at w.contexts x)
        own_context = context_own x (active_without b) w.contexts

        other_context : (d : Context) → d ≢ x → context_at v.contexts d ≡ context_at w.contexts d
        other_context d s = context_other x d (active_without b) w.contexts s

        made : IsMaking (context_at w.contexts x) b
        made = subst (IsMaking (context_at w.contexts x)) (let z : components.Bean b ≡ components.Bean can.0 = can.1 in let y : can.0 ≡ b = cc in y) can.2

        held : (d : Context) → AllHeld (HeldIn v d) (context_at v.contexts d)
        held d = elim (context_or d x) [
          | inl s ↦ subst (λ z. AllHeld (HeldIn v z) (context_at v.contexts z)) (sym s) (subst (AllHeld (HeldIn v x)) (sym own_context) (all_held_left (HeldIn w x) (HeldIn v x) (context_at w.contexts x) b (λ other k d h. lost_on v refl x other k h) (g.held x)))
          | inr s ↦ subst (AllHeld (HeldIn v d)) (sym (other_context d s)) (all_held_map (HeldIn w d) (HeldIn v d) (context_at w.contexts d) (lost_on v refl d) (g.held d))
        ]

        kept : (k : ℕ) (component : Component) (y : Context) → k ≢ n → IsHeld (context_at w.contexts y) component k → IsHeld (context_at v.contexts y) component k
        kept k component y d h = elim (context_or y x) [
          | inl s ↦ subst (λ z. IsHeld (context_at v.contexts z) component k) (sym s) (subst (λ z. IsHeld z component k) (sym own_context)
              (let h1 = subst (λ z. IsHeld (context_at w.contexts z) component k) s h in
              held_left (context_at w.contexts x) b component k (λ t. making_none (context_at w.contexts x) b made k (subst (λ z. IsHeld (context_at w.contexts x) z k) t h1)) h1))
          | inr s ↦ subst (λ z. IsHeld z component k) (sym (other_context y s)) h
        ]

        still : (y : Context) (a : ℕ) → (For c.component c.owner y a → ⊥) → IsMaking (context_at w.contexts y) a → IsMaking (context_at v.contexts y) a
        still y a f h = elim (context_or y x) [
          | inl s ↦ subst (λ z. IsMaking (context_at v.contexts z) a) (sym s) (subst (λ z. IsMaking z a) (sym own_context)
              (making_left (context_at w.contexts x) b a (λ t. f (o ∙ ap owners.Context (sym s), q ∙ ap components.Bean (sym t))) (subst (λ z. IsMaking (context_at w.contexts z) a) s h)))
          | inr s ↦ subst (λ z. IsMaking z a) (sym (other_context y s)) h
        ]

        away : (y : Context) → context_at w.contexts y ≡ None → context_at v.contexts y ≡ None
        away y h = elim (context_or y x) [
          | inl s ↦ subst (λ z. context_at v.contexts z ≡ None) (sym s) (own_context ∙ ap (option_map (active_without b)) (subst (λ z. context_at w.contexts z ≡ None) s h))
          | inr s ↦ other_context y s ∙ h
        ]

    pub drops : CanStand w c.component c.owner → DroppedTo (after_change (Change.Discard n) w)
    drops can =
        let x = is_there n w.instances c e in
        let o = ap (λ (z : Core). z.owner) x.2 in
        let q = ap (λ (z : Core). z.component) x.2 in
        subst DroppedTo (sym (discarded_is w n x.0 x.1)) (drop_by x.0.owner x.0.component (sym o) (sym q) (subst (λ z. CanStand w x.0.component z) (sym o) (subst (λ z. CanStand w z c.owner) (sym q) can)))
