-- What each change of one instance leaves of where all stand.
use Rattle.std.proofs.Common.{ℕ, ◌≡◌, ◌≢◌, ◌<◌, ◌≤◌, List, [], ◌∷◌, inl, inr, Option, Some, None, refl, sym, ap, ◌∙◌, subst, arith, nat_eq}
use Rattle.std.specs.Prelude.{map, option_map}
use Rattle.cdi_store.specs.declared.instance.Component.{Component}
use Rattle.cdi_store.specs.declared.instance.Component.TheVariants as components
use Rattle.cdi_store.specs.declared.instance.Context.{Context}
use Rattle.cdi_store.specs.declared.instance.Owner.{Owner}
use Rattle.cdi_store.specs.declared.instance.Owner.TheVariants as owners
use Rattle.cdi_store.specs.declared.instance.Phase.{Phase}
use Rattle.cdi_store.specs.declared.instance.Phase.TheVariants as phases
use Rattle.cdi_store.specs.declared.instance.Instance.{Instance}
use Rattle.cdi_store.specs.Live.{all_but, with_leaving}
use Rattle.cdi_store.proofs.Numbers.{equal_or_not}
use Rattle.cdi_contexts.specs.Contexts.{Active, context_at, active_without}
use Rattle.cdi_machine.specs.World.{World, Change, after_change, instance_at, for_instance, without_owned, with_instances}
use Rattle.cdi_ledger.specs.Whose.{IsIn, IsHeld}
use Rattle.cdi_ledger.proofs.Lists.{IsAmong, in_left, among_others, among_left}
use Rattle.cdi_ledger.proofs.Holdings.{IsMaking, AllHeld, all_held_map, all_held_left, held_left, held_once, held_apart, making_left}
use Rattle.cdi_ledger.proofs.Cores.{Core, core_of, core_at, deps_at, with_phase, is_there, when_own, when_other, core_ready, core_leaving, ready_was, ready_stays, ready_own, ready_only, leaving_was, leaving_stays, leaving_only, core_gone, core_left, deps_gone, deps_left, core_born, core_before, deps_born, deps_before, no_deps}
use Rattle.cdi_ledger.proofs.Places.{context_or, context_own, context_other}
use Rattle.cdi_store.specs.declared.references.Reference.{Reference}
use Rattle.cdi_ledger.proofs.Homes.{codes, provisions, AreParameters, MayOwn, IsNewAt, IsReferred, being, Grown, grown_self, Inv, HeldIn, IsReadyOf, Placed, OnStack, targets}

-- ---- one instance moves, and the others stay

-- x is what n stands for afterwards, and of what M says it isn't said that it is still being made
pub record Moves (M : Context → ℕ → Type 0) (T : ℕ → Type 0) (n : ℕ) (x : Option Core) (w v : World) : Type 0 where
  pub bodies : v.bodies ≡ w.bodies
  pub targets : targets v.invocations ≡ targets w.invocations
  pub members : codes v.invocations ≡ codes w.invocations
  pub provisions : provisions v.invocations ≡ provisions w.invocations
  pub lists : (k : ℕ) → T k → Grown k w.temporaries v.temporaries
  pub own : core_at n v.instances ≡ x
  pub other : (k : ℕ) → k ≢ n → core_at k v.instances ≡ core_at k w.instances
  pub making : (c : Context) (b : ℕ) → (M c b → ⊥) → IsMaking (context_at w.contexts c) b → IsMaking (context_at v.contexts c) b
  pub absent : (c : Context) → context_at w.contexts c ≡ None → context_at v.contexts c ≡ None

pub record Kept (n : ℕ) (w v : World) : Type 0 where
  pub next : w.next ≤ v.next
  pub below : (c : Core) → core_at n v.instances ≡ Some c → n < v.next
  pub smaller : (m : ℕ) (c : Core) → core_at n v.instances ≡ Some c → c.owner ≡ owners.Instance m → m < n
  pub other : (k : ℕ) → k ≢ n → core_at k v.instances ≡ core_at k w.instances
  pub stack : (b : ℕ) → OnStack v b → OnStack w b
  pub depends : (m k : ℕ) → k ≢ n → IsIn k (deps_at m v.instances) → IsIn k (deps_at m w.instances)
  pub depends_own : (m : ℕ) → IsIn n (deps_at m v.instances) → IsReadyOf v n (owners.Instance m)
  pub borrowed : (k : ℕ) → k ≢ n → IsAmong k v.temporaries → IsAmong k w.temporaries
  pub borrowed_own : IsAmong n v.temporaries → IsReadyOf v n owners.Borrower
  pub held : (c : Context) → AllHeld (HeldIn v c) (context_at v.contexts c)
  pub placed : (k : ℕ) (c : Core) → k ≢ n → core_at k w.instances ≡ Some c → c.phase ≡ phases.Ready → Placed w k c.component c.owner → Placed v k c.component c.owner
  pub placed_own : (c : Core) → core_at n v.instances ≡ Some c → c.phase ≡ phases.Ready → Placed v n c.component c.owner
  pub made : (k : ℕ) (x : Context) (b : ℕ) → k ≢ n → core_at k w.instances ≡ Some (being b x) → IsMaking (context_at w.contexts x) b → IsMaking (context_at v.contexts x) b
  pub made_own : (x : Context) (b : ℕ) → core_at n v.instances ≡ Some (being b x) → IsMaking (context_at v.contexts x) b
  pub one_own : (k : ℕ) (x : Context) (b : ℕ) → k ≢ n → core_at n v.instances ≡ Some (being b x) → core_at k w.instances ≡ Some (being b x) → ⊥
  pub invocations : v.invocations ≡ w.invocations
  pub owner_own : (c : Core) → core_at n v.instances ≡ Some c → n < w.next → (d : Core) × (core_at n w.instances ≡ Some d) × (d.owner ≡ c.owner)
  -- no invocation has what is younger than one that is no longer being made
  pub older : IsNewAt n w → (m : ℕ) → IsReferred m (provisions w.invocations) → m < n

ready_of : (w v : World) (k : ℕ) (o : Owner) → core_at k v.instances ≡ core_at k w.instances → IsReadyOf w k o → IsReadyOf v k o
ready_of w v k o e q = (q.0, e ∙ q.1)

pub inv_kept : (n : ℕ) (w v : World) → Inv w → Kept n w v → Inv v
inv_kept n w v g q = record {
  below = λ k c e. elim (equal_or_not k n) [
    | inl s ↦ subst (λ z. z < v.next) (sym s.1) (q.below c (subst (λ z. core_at z v.instances ≡ Some c) s.1 e))
    | inr s ↦ let l = g.below k c (sym (q.other k s.1) ∙ e) in let m = q.next in omega arith
  ];
  smaller = λ k m c e o. elim (equal_or_not k n) [
    | inl s ↦ subst (λ z. m < z) (sym s.1) (q.smaller m c (subst (λ z. core_at z v.instances ≡ Some c) s.1 e) o)
    | inr s ↦ g.smaller k m c (sym (q.other k s.1) ∙ e) o
  ];
  stack = λ b h. (let l = g.stack b (q.stack b h) in let m = q.next in omega arith);
  depends = λ m k h. elim (equal_or_not k n) [
    | inl s ↦ subst (λ z. IsReadyOf v z (owners.Instance m)) (sym s.1) (q.depends_own m (subst (λ z. IsIn z (deps_at m v.instances)) s.1 h))
    | inr s ↦ ready_of w v k (owners.Instance m) (q.other k s.1) (g.depends m k (q.depends m k s.1 h))
  ];
  borrowed = λ k h. elim (equal_or_not k n) [
    | inl s ↦ subst (λ z. IsReadyOf v z owners.Borrower) (sym s.1) (q.borrowed_own (subst (λ z. IsAmong z v.temporaries) s.1 h))
    | inr s ↦ ready_of w v k owners.Borrower (q.other k s.1) (g.borrowed k (q.borrowed k s.1 h))
  ];
  held = q.held;
  placed = λ k c e r. elim (equal_or_not k n) [
    | inl s ↦ subst (λ z. Placed v z c.component c.owner) (sym s.1) (q.placed_own c (subst (λ z. core_at z v.instances ≡ Some c) s.1 e) r)
    | inr s ↦ let f = sym (q.other k s.1) ∙ e in q.placed k c s.1 f r (g.placed k c f r)
  ];
  made = λ k x b e. elim (equal_or_not k n) [
    | inl s ↦ q.made_own x b (subst (λ z. core_at z v.instances ≡ Some (being b x)) s.1 e)
    | inr s ↦ let f = sym (q.other k s.1) ∙ e in q.made k x b s.1 f (g.made k x b f)
  ];
  one = λ j k x b e f. elim (equal_or_not j n) [
    | inl s ↦ elim (equal_or_not k n) [
      | inl t ↦ s.1 ∙ sym t.1
      | inr t ↦ absurd (q.one_own k x b t.1 (subst (λ z. core_at z v.instances ≡ Some (being b x)) s.1 e) (sym (q.other k t.1) ∙ f))
    ]
    | inr s ↦ elim (equal_or_not k n) [
      | inl t ↦ absurd (q.one_own j x b s.1 (subst (λ z. core_at z v.instances ≡ Some (being b x)) t.1 f) (sym (q.other j s.1) ∙ e))
      | inr t ↦ g.one j k x b (sym (q.other j s.1) ∙ e) (sym (q.other k t.1) ∙ f)
    ]
  ];
  provided = λ t rs i. params t rs (subst (IsIn (t, rs)) (ap provisions q.invocations) i);
}
  where
    params : (t : ℕ) (rs : List Reference) → IsIn (t, rs) (provisions w.invocations) → AreParameters t rs v
    params t rs i k m e =
        let p = g.provided t rs i k m e in (
          (let l = p.0 in let y = q.next in omega arith),
          λ c f. elim (equal_or_not m n) [
            | inl s ↦
                let d = q.owner_own c (subst (λ z. core_at z v.instances ≡ Some c) s.1 f) (subst (λ z. z < w.next) s.1 p.0) in
                let x : core_at m w.instances ≡ Some d.0 = subst (λ z. core_at z w.instances ≡ Some d.0) (sym s.1) d.1 in
                moved c.owner d.0 x d.2 (subst (λ z. MayOwn t z w) d.2 (p.1 d.0 x))
            | inr s ↦ let x = sym (q.other m s.1) ∙ f in moved c.owner c x refl (p.1 c x)
          ],
        )
      where
        moved : (owner : Owner) (d : Core) → core_at m w.instances ≡ Some d → d.owner ≡ owner → MayOwn t owner w → MayOwn t owner v
        moved owner d x o (inl z) = inl z
        moved owner d x o (inr (inl a)) = inr (inl (
          a.0,
          a.1,
          elim (equal_or_not a.0 n) [
            | inl s ↦ absurd (
                let l = q.older (subst (λ z. IsNewAt z w) s.1 a.2) m (record { target = t; references = rs; among = i; place = k; direct = e }) in
                let b = g.smaller m a.0 d x (o ∙ a.1) in
                omega (arith, s.1))
            | inr s ↦ (a.2.0, q.other a.0 s.1 ∙ a.2.1, a.2.2)
          ],
        ))
        moved owner d x o (inr (inr z)) = inr (inr z)

-- ---- the destruction of an instance that is ready begins

left_is : (w : World) (n : ℕ) (x : Instance) → instance_at w n ≡ Some x → after_change (Change.Leave n) w ≡ without_owned n x.component x.owner (with_instances (with_leaving n) w)
left_is w n x e = subst (λ z. for_instance w z (λ o. without_owned n o.component o.owner (with_instances (with_leaving n) w)) ≡ without_owned n x.component x.owner (with_instances (with_leaving n) w)) (sym e) refl

grown_less : (n k : ℕ) (ts : List (List ℕ)) → Grown k ts (map (all_but n) ts)
grown_less n k [] = tt
grown_less n k (xs ∷ ts) = (λ m h. inl (in_left m n xs h).1, grown_less n k ts)

pub leave_phase : (p : Phase) (c d : Core) → Some (with_phase p c) ≡ Some d → d.phase ≡ p
leave_phase p c d e = let q : with_phase p c ≡ d = cc in ap (λ (z : Core). z.phase) (sym q)

pub leave_owner : (p : Phase) (c d : Core) → Some (with_phase p c) ≡ Some d → d.owner ≡ c.owner
leave_owner p c d e = let q : with_phase p c ≡ d = cc in ap (λ (z : Core). z.owner) (sym q)

pub leave_component : (p : Phase) (c d : Core) → Some (with_phase p c) ≡ Some d → d.component ≡ c.component
leave_component p c d e = let q : with_phase p c ≡ d = cc in ap (λ (z : Core). z.component) (sym q)

-- two that stand for one number
pub one_core : {c d : Core} {x : Option Core} → x ≡ Some c → x ≡ Some d → d ≡ c
one_core {c} {d} {x} e f = let q : Some d ≡ Some c = sym f ∙ e in cc

module _ (w : World) (n : ℕ) (g : Inv w) where
  -- what is made of w
  module _ (c : Core) (e : core_at n w.instances ≡ Some c) (ready : c.phase ≡ phases.Ready) where
    leave_own : core_at n (with_leaving n w.instances) ≡ Some (with_phase phases.Leaving c)
    leave_own = core_leaving n w.instances n ∙ (ap (Rattle.cdi_ledger.proofs.Cores.when (nat_eq n n) (with_phase phases.Leaving)) e ∙ when_own n (with_phase phases.Leaving) c)

    leave_other : (k : ℕ) → k ≢ n → core_at k (with_leaving n w.instances) ≡ core_at k w.instances
    leave_other k d = core_leaving n w.instances k ∙ when_other n k (with_phase phases.Leaving) (core_at k w.instances) d

    no_leaving : (d : Core) → core_at n (with_leaving n w.instances) ≡ Some d → d.phase ≡ phases.Ready → ⊥
    no_leaving d f r = let p = leave_phase phases.Leaving c d (sym leave_own ∙ f) in let q : phases.Ready ≡ phases.Leaving = sym r ∙ p in cc

    dep_owner : (m : ℕ) → IsIn n (deps_at m w.instances) → c.owner ≡ owners.Instance m
    dep_owner m h = let q = g.depends m n h in ap (λ (z : Core). z.owner) (one_core q.1 e)

    held_not : (d : Context) (b : ℕ) → (c.owner ≡ owners.Context d → ⊥) → HeldIn w d b n → ⊥
    held_not d b f h = f (sym (ap (λ (z : Core). z.owner) (one_core e h)))

    held_on : (v : World) → v.instances ≡ with_leaving n w.instances → (d : Context) → (c.owner ≡ owners.Context d → ⊥) → (b k : ℕ) → HeldIn w d b k → HeldIn v d b k
    held_on v i d f b k h = elim (equal_or_not k n) [
      | inl s ↦ absurd (held_not d b f (subst (λ z. HeldIn w d b z) s.1 h))
      | inr s ↦ ap (core_at k) i ∙ (leave_other k s.1 ∙ h)
    ]

    -- the parts that are the same for all owners
    leave_kept : (v : World) → v.instances ≡ with_leaving n w.instances → v.next ≡ w.next → v.bodies ≡ w.bodies → v.invocations ≡ w.invocations
        → ((k : ℕ) → k ≢ n → IsAmong k v.temporaries → IsAmong k w.temporaries) → (IsAmong n v.temporaries → ⊥)
        → ((d : Context) → AllHeld (HeldIn v d) (context_at v.contexts d))
        → ((k : ℕ) (d : Core) → k ≢ n → core_at k w.instances ≡ Some d → d.phase ≡ phases.Ready → Placed w k d.component d.owner → Placed v k d.component d.owner)
        → ((k : ℕ) (x : Context) (b : ℕ) → k ≢ n → core_at k w.instances ≡ Some (being b x) → IsMaking (context_at w.contexts x) b → IsMaking (context_at v.contexts x) b)
        → Kept n w v
    leave_kept v i x b t f fn h p mk = record {
      next = (let q = x in omega arith);
      below = λ d q. subst (λ z. n < z) (sym x) (g.below n c e);
      smaller = λ m d q o. g.smaller n m c e (sym (leave_owner phases.Leaving c d (sym leave_own ∙ (sym (ap (core_at n) i) ∙ q))) ∙ o);
      other = λ k d. ap (core_at k) i ∙ leave_other k d;
      stack = λ k. (λ z. elim z [ inl q ↦ inl (subst (IsIn k) b q) | inr q ↦ inr (subst (λ y. IsIn k (targets y)) t q) ]);
      depends = λ m k d q. leaving_was n w.instances c e k m (subst (λ z. IsIn k (deps_at m z)) i q);
      depends_own = λ m q. absurd (leaving_only n w.instances c e m (dep_owner m) (subst (λ z. IsIn n (deps_at m z)) i q));
      borrowed = f;
      borrowed_own = λ q. absurd (fn q);
      held = h;
      placed = p;
      placed_own = λ d q r. absurd (no_leaving d (sym (ap (core_at n) i) ∙ q) r);
      made = mk;
      made_own = λ y a q. absurd (never y a q);
      one_own = λ k y a d q r. never y a q;
      invocations = t;
      owner_own = λ d q l. (c, e, sym (leave_owner phases.Leaving c d (sym leave_own ∙ (sym (ap (core_at n) i) ∙ q))));
      older = λ a m q. absurd (let z = ap (λ (z : Core). z.phase) (one_core e a.1) in let y : phases.New ≡ phases.Ready = sym a.2 ∙ (z ∙ ready) in cc);
    }
      where
        never : (y : Context) (a : ℕ) → core_at n v.instances ≡ Some (being a y) → ⊥
        never y a q = let z = leave_phase phases.Leaving c (being a y) (sym leave_own ∙ (sym (ap (core_at n) i) ∙ q)) in let r : phases.New ≡ phases.Leaving = z in cc

    dep_on : (v : World) → v.instances ≡ with_leaving n w.instances → (k m : ℕ) → k ≢ n → IsIn k (deps_at m w.instances) → IsIn k (deps_at m v.instances)
    dep_on v i k m d h = subst (λ z. IsIn k (deps_at m z)) (sym i) (leaving_stays n w.instances c e k m d h)

    among_owner : IsAmong n w.temporaries → c.owner ≡ owners.Borrower
    among_owner h = let q = g.borrowed n h in ap (λ (z : Core). z.owner) (one_core q.1 e)

    stood : Placed w n c.component c.owner
    stood = g.placed n c e ready

    abbrev pub LeftTo : World → Type 0
    LeftTo v = Inv v × Moves (λ c b. ⊥) (λ k. Unit {0}) n (Some (with_phase phases.Leaving c)) w v × (v.next ≡ w.next)

    leave_by : (o : Owner) (component : Component) → c.owner ≡ o → c.component ≡ component → LeftTo (without_owned n component o (with_instances (with_leaving n) w))
    leave_by (owners.Instance m) component o q =
        let v : World = with_instances (with_leaving n) w in (
          inv_kept n w v g (leave_kept v refl refl refl refl (λ k d h. h) (λ h. let z : owners.Instance m ≡ owners.Borrower = sym o ∙ among_owner h in cc)
              (λ d. all_held_map (HeldIn w d) (HeldIn v d) (context_at w.contexts d) (held_on v refl d (λ z. let y : owners.Instance m ≡ owners.Context d = sym o ∙ z in cc)) (g.held d))
              (λ k d. placing k d.component d.owner) (λ k y a d f h. h)),
          record { bodies = refl; targets = refl; members = refl; provisions = refl; lists = λ k t. grown_self k w.temporaries; own = leave_own; other = leave_other; making = λ c b f h. h; absent = λ c h. h },
          refl,
        )
      where
        placing : (k : ℕ) (component : Component) (owner : Owner) {d : Core} → k ≢ n → core_at k w.instances ≡ Some d → d.phase ≡ phases.Ready → Placed w k component owner → Placed (with_instances (with_leaving n) w) k component owner
        placing k component (owners.Context x) d e r h = h
        placing k component (owners.Instance x) d e r h = dep_on (with_instances (with_leaving n) w) refl k x d h
        placing k component owners.Borrower d e r h = h
    leave_by owners.Borrower component o q =
        let v : World = without_owned n component owners.Borrower (with_instances (with_leaving n) w) in (
          inv_kept n w v g (leave_kept v refl refl refl refl (λ k d h. (among_left k n w.temporaries h).1) (λ h. (among_left n n w.temporaries h).0 refl)
              (λ d. all_held_map (HeldIn w d) (HeldIn v d) (context_at w.contexts d) (held_on v refl d (λ z. let y : owners.Borrower ≡ owners.Context d = sym o ∙ z in cc)) (g.held d))
              (λ k d. placing k d.component d.owner) (λ k y a d f h. h)),
          record { bodies = refl; targets = refl; members = refl; provisions = refl; lists = λ k t. grown_less n k w.temporaries; own = leave_own; other = leave_other; making = λ c b f h. h; absent = λ c h. h },
          refl,
        )
      where
        placing : (k : ℕ) (component : Component) (owner : Owner) {d : Core} → k ≢ n → core_at k w.instances ≡ Some d → d.phase ≡ phases.Ready → Placed w k component owner → Placed (without_owned n c.component owners.Borrower (with_instances (with_leaving n) w)) k component owner
        placing k component (owners.Context x) d e r h = h
        placing k component (owners.Instance x) d e r h = dep_on (with_instances (with_leaving n) w) refl k x d h
        placing k component owners.Borrower d e r h = among_others k n w.temporaries d h
    leave_by (owners.Context x) (components.Interceptor i) o q = absurd (no_home (subst (λ z. Placed w n c.component z) o stood))
      where
        no_home : IsHeld (context_at w.contexts x) c.component n → ⊥
        no_home h = by (context_at w.contexts x) (subst (λ z. IsHeld (context_at w.contexts x) z n) q h)
          where
            by : (a : Option Active) → IsHeld a (components.Interceptor i) n → ⊥
            by None h = h
            by (Some a) h = h
    leave_by (owners.Context x) (components.Bean b) o q = (
      inv_kept n w v g (leave_kept v refl refl refl refl (λ k d h. h) (λ h. let z : owners.Context x ≡ owners.Borrower = sym o ∙ among_owner h in cc) held (λ k d. placing k d.component d.owner) (λ k y a d f h. still y a h)),
      record { bodies = refl; targets = refl; members = refl; provisions = refl; lists = λ k t. grown_self k w.temporaries; own = leave_own; other = leave_other; making = λ c b f h. still c b h; absent = away },
      refl,
    )
      where
        v : World
        v = without_owned n (components.Bean b) (owners.Context x) (with_instances (with_leaving n) w)

        home : IsHeld (context_at w.contexts x) (components.Bean b) n
        home = subst (λ z. IsHeld (context_at w.contexts x) z n) q (subst (λ z. Placed w n c.component z) o stood)

        apart : (d : Context) → d ≢ x → c.owner ≡ owners.Context d → ⊥
        apart d f z = let y : owners.Context x ≡ owners.Context d = sym o ∙ z in f (let t : d ≡ x = cc in t)

        held : (d : Context) → AllHeld (HeldIn v d) (context_at v.contexts d)
        held d = elim (context_or d x) [
          | inl s ↦ subst (λ z. AllHeld (HeldIn v z) (context_at v.contexts z)) (sym s) (subst (AllHeld (HeldIn v x)) (sym (context_own x (active_without b) w.contexts))
              (all_held_left (HeldIn w x) (HeldIn v x) (context_at w.contexts x) b on (g.held x)))
          | inr s ↦ subst (AllHeld (HeldIn v d)) (sym (context_other x d (active_without b) w.contexts s)) (all_held_map (HeldIn w d) (HeldIn v d) (context_at w.contexts d) (held_on v refl d (apart d s)) (g.held d))
        ]
          where
            on : (other k : ℕ) → b ≢ other → HeldIn w x other k → HeldIn v x other k
            on other k f h = elim (equal_or_not k n) [
              | inl s ↦ absurd (f (let r = ap (λ (z : Core). z.component) (one_core e (subst (λ z. HeldIn w x other z) s.1 h)) in let t : components.Bean other ≡ components.Bean b = r ∙ q in let u : b ≡ other = cc in u))
              | inr s ↦ leave_other k s.1 ∙ h
            ]

        placing : (k : ℕ) (component : Component) (owner : Owner) {d : Core} → k ≢ n → core_at k w.instances ≡ Some d → d.phase ≡ phases.Ready → Placed w k component owner → Placed v k component owner
        placing k component (owners.Context y) d f r h = elim (context_or y x) [
          | inl s ↦ subst (λ z. IsHeld (context_at v.contexts z) component k) (sym s) (subst (λ z. IsHeld z component k) (sym (context_own x (active_without b) w.contexts))
              (let h1 = subst (λ z. IsHeld (context_at w.contexts z) component k) s h in
              held_left (context_at w.contexts x) b component k (held_once (context_at w.contexts x) b n k component home h1 d) h1))
          | inr s ↦ subst (λ z. IsHeld z component k) (sym (context_other x y (active_without b) w.contexts s)) h
        ]
        placing k component (owners.Instance m) d f r h = dep_on v refl k m d h
        placing k component owners.Borrower d f r h = h

        still : (y : Context) (a : ℕ) → IsMaking (context_at w.contexts y) a → IsMaking (context_at v.contexts y) a
        still y a h = elim (context_or y x) [
          | inl s ↦ subst (λ z. IsMaking (context_at v.contexts z) a) (sym s) (subst (λ z. IsMaking z a) (sym (context_own x (active_without b) w.contexts))
              (let h1 = subst (λ z. IsMaking (context_at w.contexts z) a) s h in
              making_left (context_at w.contexts x) b a (held_apart (context_at w.contexts x) b n a home h1) h1))
          | inr s ↦ subst (λ z. IsMaking z a) (sym (context_other x y (active_without b) w.contexts s)) h
        ]

        away : (y : Context) → context_at w.contexts y ≡ None → context_at v.contexts y ≡ None
        away y h = elim (context_or y x) [
          | inl s ↦ subst (λ z. context_at v.contexts z ≡ None) (sym s) (context_own x (active_without b) w.contexts ∙ ap (option_map (active_without b)) (subst (λ z. context_at w.contexts z ≡ None) s h))
          | inr s ↦ context_other x y (active_without b) w.contexts s ∙ h
        ]

    pub leaves : LeftTo (after_change (Change.Leave n) w)
    leaves =
        let x = is_there n w.instances c e in
        subst LeftTo (sym (left_is w n x.0 x.1)) (leave_by x.0.owner x.0.component (ap (λ (z : Core). z.owner) (sym x.2)) (ap (λ (z : Core). z.component) (sym x.2)))

  -- ---- an instance is gone

  module _ (c : Core) (e : core_at n w.instances ≡ Some c) (leaving : c.phase ≡ phases.Leaving) (alone : (j : ℕ) → IsIn j (deps_at n w.instances) → ⊥) where
    not_ready : (component : Component) (owner : Owner) → core_at n w.instances ≡ Some (record { component = component; owner = owner; phase = phases.Ready }) → ⊥
    not_ready component owner f = let q = ap (λ (z : Core). z.phase) (one_core e f) in let r : phases.Ready ≡ phases.Leaving = q ∙ leaving in cc

    pub removes : Inv (after_change (Change.Remove n) w) × Moves (λ c b. ⊥) (λ k. Unit {0}) n None w (after_change (Change.Remove n) w)
    removes = (
      inv_kept n w v g (record {
        next = omega arith;
        below = λ d f. absurd (gone d f);
        smaller = λ m d f o. absurd (gone d f);
        other = core_left w.instances n;
        stack = λ b h. h;
        depends = λ m k d h. elim (equal_or_not m n) [
          | inl s ↦ absurd (none k (subst (λ z. IsIn k (deps_at z v.instances)) s.1 h))
          | inr s ↦ subst (IsIn k) (deps_left w.instances n m s.1) h
        ];
        depends_own = λ m h. absurd (elim (equal_or_not m n) [
          | inl s ↦ none n (subst (λ z. IsIn n (deps_at z v.instances)) s.1 h)
          | inr s ↦ let q = g.depends m n (subst (IsIn n) (deps_left w.instances n m s.1) h) in not_ready q.0 (owners.Instance m) q.1
        ]);
        borrowed = λ k d h. h;
        borrowed_own = λ h. absurd (let q = g.borrowed n h in not_ready q.0 owners.Borrower q.1);
        held = λ d. all_held_map (HeldIn w d) (HeldIn v d) (context_at w.contexts d) (λ b k h. elim (equal_or_not k n) [
          | inl s ↦ absurd (not_ready (components.Bean b) (owners.Context d) (subst (λ z. HeldIn w d b z) s.1 h))
          | inr s ↦ core_left w.instances n k s.1 ∙ h
        ]) (g.held d);
        placed = λ k d. placing k d.component d.owner;
        placed_own = λ d f r. absurd (gone d f);
        made = λ k x b d f h. h;
        made_own = λ x b f. absurd (gone _ f);
        one_own = λ k x b d f q. gone _ f;
        invocations = refl;
        owner_own = λ d f l. absurd (gone d f);
        older = λ a m q. absurd (let z = ap (λ (z : Core). z.phase) (one_core e a.1) in let y : phases.New ≡ phases.Leaving = sym a.2 ∙ (z ∙ leaving) in cc);
      }),
      record { bodies = refl; targets = refl; members = refl; provisions = refl; lists = λ k t. grown_self k w.temporaries; own = core_gone w.instances n; other = core_left w.instances n; making = λ c b f h. h; absent = λ c h. h },
    )
      where
        v : World
        v = after_change (Change.Remove n) w

        gone : (d : Core) → core_at n v.instances ≡ Some d → ⊥
        gone d f = let q : ◌≡◌ {A = Option Core} None (Some d) = sym (core_gone w.instances n) ∙ f in cc

        none : (k : ℕ) → IsIn k (deps_at n v.instances) → ⊥
        none k h = subst (IsIn k) (deps_gone w.instances n) h

        placing : (k : ℕ) (component : Component) (owner : Owner) {d : Core} → k ≢ n → core_at k w.instances ≡ Some d → d.phase ≡ phases.Ready → Placed w k component owner → Placed v k component owner
        placing k component (owners.Context y) d f r h = h
        placing k component owners.Borrower d f r h = h
        placing k component (owners.Instance m) d f r h = elim (equal_or_not m n) [
          | inl s ↦ absurd (alone k (subst (λ z. IsIn k (deps_at z w.instances)) s.1 h))
          | inr s ↦ subst (IsIn k) (sym (deps_left w.instances n m s.1)) h
        ]
