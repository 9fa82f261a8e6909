-- What commands leave: between them nothing is under way, and all stand with their owners.
use Rattle.std.proofs.Common.{ℕ, ◌≡◌, ◌<◌, List, [], ◌∷◌, inl, inr, Option, Some, None, Bool, true, false, refl, sym, ap, ◌∙◌, subst}
use Rattle.std.specs.Prelude.{option_map}
use Rattle.cdi_base.specs.declared.built_in.BuiltIn.{BuiltIn}
use Rattle.cdi_base.specs.declared.built_in.BuiltIn.TheVariants as built_in
use Rattle.cdi_store.specs.declared.instance.Component.{Component}
use Rattle.cdi_store.specs.declared.instance.Context.{Context}
use Rattle.cdi_store.specs.declared.instance.Context.TheVariants.{Application, Request, Session}
use Rattle.cdi_store.specs.declared.instance.Owner.{Owner}
use Rattle.cdi_store.specs.declared.instance.Owner.TheVariants as owners
use Rattle.cdi_store.specs.declared.instance.Phase.TheVariants as phases
use Rattle.cdi_contexts.specs.Contexts.{Active, OpenRequest, OpenSession, context_at, ending_active, is_due}
use Rattle.cdi_contexts.specs.Refusals.{is_new}
use Rattle.cdi_machine.specs.Words.{Asked}
use Rattle.cdi_machine.specs.Tables.{Tables}
use Rattle.cdi_store.specs.declared.references.Reference.{Reference}
use Rattle.cdi_machine.specs.World.{World, Change, Invocation, after_change}
use Rattle.cdi_machine.specs.Programs.{Task, Given, Completion, Gave, Threw, Prog, ret, throw, handle, see, alter, call, complete, quietly, each, finish, do_nothing, resolve, world, instance}
use Rattle.cdi_machine.specs.Contexts.{refer_to, reach_instance}
use Rattle.cdi_machine.specs.Bodies.{invoke_method}
use Rattle.cdi_machine.specs.Events.{fire_context_event, fire_container_event, qualifier}
use Rattle.cdi_base.specs.BuiltIn.{number_of}
use Rattle.cdi_base.specs.declared.value.Value.TheVariants as values
use Rattle.cdi_machine.specs.Commands.{Command, task, close, begin, begin_session, end, end_session, invalidate, end_alone, shut_down, boot, use_bean, stand_alone_in, requests_of, sessions_of, is_used}
use Rattle.cdi_ledger.specs.Ledger.{Item}
use Rattle.cdi_ledger.specs.Whose.{IsIn, IsHeld}
use Rattle.cdi_ledger.proofs.Lists.{IsAmong}
use Rattle.cdi_ledger.proofs.Holdings.{AllHeld, NoneHeld, all_held_map, all_held_ending, held_ending}
use Rattle.cdi_ledger.proofs.Cores.{Core, core_at, deps_at}
use Rattle.cdi_ledger.proofs.Places.{Opens, context_or, context_own, context_other, closed_own, closed_other, named_or, request_comes, session_comes, marked_same}
use Rattle.cdi_ledger.proofs.Homes.{provisions, being, Inv, Rel, Grown, Placed, HeldIn, IsReadyOf, OnStack, targets, rel_self, lt_or}
use Rattle.cdi_ledger.proofs.Spans.{Still, inv_still, rel_still}
use Rattle.cdi_ledger.proofs.Judge.{bind}
use Rattle.cdi_ledger.proofs.Owed.{Ok, IsUsable, Pre, Post, IsGiven}
use Rattle.cdi_ledger.proofs.Fine as fine
use Rattle.cdi_ledger.proofs.Standing.{f_resolved, f_reference, f_use, f_instance}
use Rattle.cdi_ledger.proofs.Doings.{Any, IsBelow, f_borrowing, f_method}

-- nothing is under way, and all stand
pub record Tidy (w : World) : Type 0 where
  pub inv : Inv w
  pub bodies : w.bodies ≡ []
  pub targets : targets w.invocations ≡ []
  pub temporaries : w.temporaries ≡ []
  pub ready : (k : ℕ) (c : Core) → core_at k w.instances ≡ Some c → c.phase ≡ phases.Ready

none_grown : (k : ℕ) (ts : List (List ℕ)) → Grown k [] ts → ts ≡ []
none_grown k [] q = refl
none_grown k (t ∷ ts) q = absurd q

pub tidy_then : (w v : World) → Tidy w → Inv v → Rel w v → Tidy v
tidy_then w v g gv r = record {
  inv = gv;
  bodies = r.bodies ∙ g.bodies;
  targets = r.targets ∙ g.targets;
  temporaries = none_grown w.next v.temporaries (subst (λ z. Grown w.next z v.temporaries) g.temporaries r.lists);
  ready = λ k c e. elim (lt_or k w.next) [ inl l ↦ g.ready k c (r.old k c l e) | inr l ↦ r.new k c l e ];
}

-- one that differs in its contexts alone
record Context_only (w v : World) : Type 0 where
  instances : v.instances ≡ w.instances
  next : v.next ≡ w.next
  bodies : v.bodies ≡ w.bodies
  invocations : v.invocations ≡ w.invocations
  temporaries : v.temporaries ≡ w.temporaries
  held : (c : Context) → AllHeld (HeldIn w c) (context_at v.contexts c)
  placed : (k : ℕ) (component : Component) (c : Context) → IsHeld (context_at w.contexts c) component k → IsHeld (context_at v.contexts c) component k

tidy_contexts : (w v : World) → Context_only w v → Tidy w → Tidy v
tidy_contexts w v s g = record {
  inv = record {
    below = λ k c e. subst (λ z. k < z) (sym s.next) (g.inv.below k c (was k c e));
    smaller = λ k m c e o. g.inv.smaller k m c (was k c e) o;
    stack = λ b h. subst (λ z. b < z) (sym s.next) (g.inv.stack b (on b h));
    depends = λ m k h. ready k (owners.Instance m) (g.inv.depends m k (subst (λ z. IsIn k (deps_at m z)) s.instances h));
    borrowed = λ k h. ready k owners.Borrower (g.inv.borrowed k (subst (IsAmong k) s.temporaries h));
    held = λ c. all_held_map (HeldIn w c) (HeldIn v c) (context_at v.contexts c) (λ b n h. is n _ h) (s.held c);
    placed = λ k c e r. by k c.component c.owner (g.inv.placed k c (was k c e) r);
    made = λ k x b e. absurd (never k x b e);
    one = λ j k x b e f. absurd (never j x b e);
    provided = λ n rs i. absurd (none (n, rs) (ap targets s.invocations ∙ g.targets) i);
  };
  bodies = s.bodies ∙ g.bodies;
  targets = ap targets s.invocations ∙ g.targets;
  temporaries = s.temporaries ∙ g.temporaries;
  ready = λ k c e. g.ready k c (was k c e);
}
  where
    was : (k : ℕ) (c : Core) → core_at k v.instances ≡ Some c → core_at k w.instances ≡ Some c
    was k c e = subst (λ z. core_at k z ≡ Some c) s.instances e

    none : (p : ℕ × List Reference) → targets v.invocations ≡ [] → IsIn p (provisions v.invocations) → ⊥
    none p e i = by v.invocations e i
      where
        by : (vs : List Invocation) → targets vs ≡ [] → IsIn p (provisions vs) → ⊥
        by [] e i = i
        by (x ∷ vs) e i = cc

    never : (k : ℕ) (x : Context) (b : ℕ) → core_at k v.instances ≡ Some (being b x) → ⊥
    never k x b e = let z = g.ready k (being b x) (was k (being b x) e) in let r : phases.New ≡ phases.Ready = z in cc

    is : (k : ℕ) (c : Core) → core_at k w.instances ≡ Some c → core_at k v.instances ≡ Some c
    is k c e = subst (λ z. core_at k z ≡ Some c) (sym s.instances) e

    on : (b : ℕ) → OnStack v b → OnStack w b
    on b (inl z) = inl (subst (IsIn b) s.bodies z)
    on b (inr z) = inr (subst (λ y. IsIn b (targets y)) s.invocations z)

    ready : (k : ℕ) (o : Owner) → IsReadyOf w k o → IsReadyOf v k o
    ready k o q = (q.0, is k _ q.1)

    by : (k : ℕ) (component : Component) (owner : Owner) → Placed w k component owner → Placed v k component owner
    by k component (owners.Context x) h = s.placed k component x h
    by k component (owners.Instance m) h = subst (λ z. IsIn k (deps_at m z)) (sym s.instances) h
    by k component owners.Borrower h = subst (IsAmong k) (sym s.temporaries) h

comes_only : (w v : World) → v.instances ≡ w.instances → v.next ≡ w.next → v.bodies ≡ w.bodies → v.invocations ≡ w.invocations → v.temporaries ≡ w.temporaries → Inv w → Opens w.contexts v.contexts → Context_only w v
comes_only w v i n b s t g q = record {
  instances = i;
  next = n;
  bodies = b;
  invocations = s;
  temporaries = t;
  held = λ c. elim (q c) [ inl e ↦ subst (AllHeld (HeldIn w c)) (sym e) (g.held c) | inr e ↦ subst (AllHeld (HeldIn w c)) (sym e.1) tt ];
  placed = λ k component c h. elim (q c) [ inl e ↦ subst (λ z. IsHeld z component k) (sym e) h | inr e ↦ absurd (subst (λ z. IsHeld z component k) e.0 h) ];
}

-- an ending context, and a closed one
finish_only : (w : World) (x : Context) → Inv w → Context_only w (after_change (Change.Finish x) w)
finish_only w x g = record {
  instances = refl;
  next = refl;
  bodies = refl;
  invocations = refl;
  temporaries = refl;
  held = λ c. elim (context_or c x) [
    | inl e ↦ subst (λ z. AllHeld (HeldIn w z) (context_at (after_change (Change.Finish x) w).contexts z)) (sym e) (subst (AllHeld (HeldIn w x)) (sym (context_own x ending_active w.contexts)) (all_held_ending (HeldIn w x) (context_at w.contexts x) (g.held x)))
    | inr e ↦ subst (AllHeld (HeldIn w c)) (sym (context_other x c ending_active w.contexts e)) (g.held c)
  ];
  placed = λ k component c h. elim (context_or c x) [
    | inl e ↦ subst (λ z. IsHeld (context_at (after_change (Change.Finish x) w).contexts z) component k) (sym e) (subst (λ z. IsHeld z component k) (sym (context_own x ending_active w.contexts)) (held_ending (context_at w.contexts x) component k (subst (λ z. IsHeld (context_at w.contexts z) component k) e h)))
    | inr e ↦ subst (λ z. IsHeld z component k) (sym (context_other x c ending_active w.contexts e)) h
  ];
}

finish_absent : (w : World) (x c : Context) → context_at w.contexts c ≡ None → context_at (after_change (Change.Finish x) w).contexts c ≡ None
finish_absent w x c h = elim (context_or c x) [
  | inl e ↦ subst (λ z. context_at (after_change (Change.Finish x) w).contexts z ≡ None) (sym e) (context_own x ending_active w.contexts ∙ ap (option_map ending_active) (subst (λ z. context_at w.contexts z ≡ None) e h))
  | inr e ↦ context_other x c ending_active w.contexts e ∙ h
]

close_only : (w : World) (x : Context) → Inv w → NoneHeld (context_at w.contexts x) → Context_only w (after_change (Change.Close x) w)
close_only w x g none = record {
  instances = refl;
  next = refl;
  bodies = refl;
  invocations = refl;
  temporaries = refl;
  held = λ c. elim (context_or c x) [
    | inl e ↦ subst (λ z. AllHeld (HeldIn w z) (context_at (after_change (Change.Close x) w).contexts z)) (sym e) (subst (AllHeld (HeldIn w x)) (sym (closed_own x w.contexts)) tt)
    | inr e ↦ subst (AllHeld (HeldIn w c)) (sym (closed_other x c w.contexts e)) (g.held c)
  ];
  placed = λ k component c h. elim (context_or c x) [
    | inl e ↦ absurd (none component k (subst (λ z. IsHeld (context_at w.contexts z) component k) e h))
    | inr e ↦ subst (λ z. IsHeld z component k) (sym (closed_other x c w.contexts e)) h
  ];
}

close_absent : (w : World) (x c : Context) → context_at w.contexts c ≡ None → context_at (after_change (Change.Close x) w).contexts c ≡ None
close_absent w x c h = elim (context_or c x) [
  | inl e ↦ subst (λ z. context_at (after_change (Change.Close x) w).contexts z ≡ None) (sym e) (closed_own x w.contexts)
  | inr e ↦ closed_other x c w.contexts e ∙ h
]

-- ---- programs between which nothing is under way

abbrev pub AllAbsent : World → World → Type 0
AllAbsent w v = (c : Context) → context_at w.contexts c ≡ None → context_at v.contexts c ≡ None

-- it leaves all tidy, throws nothing, and no context comes
abbrev pub Ends : {A : Type 0} → World → Completion A → World → List Item → Type 0
Ends w (Gave a) v k = Tidy v × AllAbsent w v
Ends w (Threw x) v k = ⊥

module _ (t : Tables) where
  abbrev Does : {A : Type 0} → Prog A → World → List Item → (Completion A → World → List Item → Type 0) → Type 0
  Does p w h Q = fine.Doing t p w h Q

  abbrev pub Tops : {A : Type 0} → Prog A → Type 0
  Tops p = (w0 w : World) (h : List Item) → Tidy w → AllAbsent w0 w → Does p w h (Ends w0)

  t_then : {A B : Type 0} (p : Prog A) (f : A → Prog B) → Tops p → ((a : A) → Tops (f a)) → Tops (handle p f throw)
  t_then p f d k w0 w h g q = bind t (Ok t) fine.G (Pre t) Post p f throw w h (Ends w0) (Ends w0) (d w0 w h g q) (λ a v j gv r. k a w0 v j r.0 r.1) (λ x v j gv r. absurd r)

  t_ret : {A : Type 0} (a : A) → Tops (ret a)
  t_ret a w0 w h g q = (g.inv, (g, q))

  -- what keeps where all stand, and throws nothing
  t_silent : (p : Prog Given) → ((w : World) → fine.Fine t w p Any) → Tops (quietly p)
  t_silent p f w0 w h g q = fine.loosen t (quietly p) w h (fine.Silent w) (Ends w0) (fine.f_silent t w p w h (f w w h g.inv (rel_self w g.inv))) by
    where
      by : (c : Completion (Unit {0})) (v : World) (k : List Item) → Inv v → fine.Silent w c v k → Ends w0 c v k
      by (Gave a) v k gv r = (tidy_then w v g gv r.0, λ c e. r.0.absent c (q c e))
      by (Threw x) v k gv r = absurd r

  t_event : (what : BuiltIn) (c : Context) → Tops (fire_context_event what c)
  t_event what c = let y = Task.Fire (number_of built_in.Object) (qualifier what c ∷ []) values.Null in t_silent (call y) (λ w. fine.f_call t w y (λ w h g r. tt))

  t_container : (class : BuiltIn) → Tops (fire_container_event class)
  t_container class = let y = Task.Fire (number_of class) [] values.Null in t_silent (call y) (λ w. fine.f_call t w y (λ w h g r. tt))

  no_stack : (w : World) → Tidy w → (b : ℕ) → OnStack w b → ⊥
  no_stack w g b (inl z) = subst (IsIn b) g.bodies z
  no_stack w g b (inr z) = subst (IsIn b) g.targets z

  -- a context ends, and is there no more
  abbrev Without : Context → World → Completion Given → World → List Item → Type 0
  Without x w (Gave a) v k = Tidy v × AllAbsent w v × (context_at v.contexts x ≡ None)
  Without x w (Threw y) v k = ⊥

  closing : (x : Context) (w0 w : World) (h : List Item) → Tidy w → AllAbsent w0 w → Does (close x) w h (Without x w0)
  closing x w0 w h g q =
      bind t (Ok t) fine.G (Pre t) Post (fire_context_event built_in.BeforeDestroyed x) _ throw w h (Ends w0) (Without x w0) (t_event built_in.BeforeDestroyed x w0 w h g q) finishing (λ y v j gv r. absurd r)
    where
      last : (w3 : World) (h3 : List Item) → Tidy w3 → AllAbsent w0 w3 → context_at w3.contexts x ≡ None → Does (handle (fire_context_event built_in.Destroyed x) (λ _. finish) throw) w3 h3 (Without x w0)
      last w3 h3 g3 q3 e = bind t (Ok t) fine.G (Pre t) Post (fire_context_event built_in.Destroyed x) (λ _. finish) throw w3 h3 (Ends w3) (Without x w0) (t_event built_in.Destroyed x w3 w3 h3 g3 (λ c z. z))
          (λ a v j gv r. (gv, (r.0, λ c z. r.1 c (q3 c z), r.1 x e))) (λ y v j gv r. absurd r)

      closed : (w2 : World) → Tidy w2 → AllAbsent w0 w2 → (c : Completion Given) (w3 : World) (h3 : List Item) → Inv w3 → Rel w2 w3 × IsGiven c × NoneHeld (context_at w3.contexts x)
          → Does (handle (complete c) (λ _. handle (alter (Change.Close x)) (λ _. handle (fire_context_event built_in.Destroyed x) (λ _. finish) throw) throw) throw) w3 h3 (Without x w0)
      closed w2 g2 q2 (Gave a) w3 h3 g3 p =
          let t3 : Tidy w3 = tidy_then w2 w3 g2 g3 p.0 in
          let t4 : Tidy (after_change (Change.Close x) w3) = tidy_contexts w3 (after_change (Change.Close x) w3) (close_only w3 x g3 p.2) t3 in
          last (after_change (Change.Close x) w3) h3 t4 (λ c z. close_absent w3 x c (p.0.absent c (q2 c z))) (closed_own x w3.contexts)
      closed w2 g2 q2 (Threw y) w3 h3 g3 p = absurd p.1

      finishing : (a : Unit {0}) (w1 : World) (h1 : List Item) → Inv w1 → Tidy w1 × AllAbsent w0 w1
          → Does (handle (alter (Change.Finish x)) (λ _. handle (call (Task.Clear x)) (λ _. handle (alter (Change.Close x)) (λ _. handle (fire_context_event built_in.Destroyed x) (λ _. finish) throw) throw) throw) throw) w1 h1 (Without x w0)
      finishing a w1 h1 g1 r =
          let w2 : World = after_change (Change.Finish x) w1 in
          let g2 : Tidy w2 = tidy_contexts w1 w2 (finish_only w1 x r.0.inv) r.0 in
          (g2.inv, no_stack w2 g2, closed w2 g2 (λ c z. finish_absent w1 x c (r.1 c z)))

  t_close : (x : Context) → Tops (close x)
  t_close x w0 w h g q = fine.loosen t (close x) w h (Without x w0) (Ends w0) (closing x w0 w h g q) by
    where
      by : (c : Completion Given) (v : World) (k : List Item) → Inv v → Without x w0 c v k → Ends w0 c v k
      by (Gave a) v k gv r = (r.0, r.1)
      by (Threw y) v k gv r = absurd r

  still_in : (e : _) (w : World) → Still w (after_change (Change.Stand e) w)
  still_in e w = record { next = refl; bodies = refl; targets = refl; members = refl; provisions = refl; temporaries = refl; core = λ k. refl; deps = λ k. refl; contexts = λ c. refl }

  -- ---- a request ends, and a session

  ended : (r : List ℕ) (w0 w : World) (h : List Item) → Tidy w → AllAbsent w0 w → Does (end r) w h (Without (Request r) w0)
  ended r w0 w h g q =
      let w1 : World = after_change (Change.Stand (Rattle.cdi_machine.specs.Commands.environment_of w.contexts (Some r))) w in
      let g1 : Tidy w1 = tidy_then w w1 g (inv_still w w1 (still_in _ w) g.inv) (rel_still w w1 (still_in _ w) g.inv) in
      bind t (Ok t) fine.G (Pre t) Post (close (Request r)) _ throw w1 h (Without (Request r) w0) (Without (Request r) w0) (closing (Request r) w0 w1 h g1 q) after (λ y v j gv z. absurd z)
    where
      with_session : (u : World) (o : Option (List ℕ)) (v : World) (k : List Item) → Tidy v → AllAbsent w0 v → context_at v.contexts (Request r) ≡ None → Does (end_session u o) v k (Without (Request r) w0)
      with_session u None v k gv qv e = (gv.inv, (gv, qv, e))
      with_session u (Some s) v k gv qv e = by (is_due u.contexts s)
        where
          both : (c : Completion Given) (x : World) (j : List Item) → Inv x → Without (Session s) v c x j → Without (Request r) w0 c x j
          both (Gave a) x j gx z = (z.0, λ c y. z.1 c (qv c y), z.1 (Request r) e)
          both (Threw y) x j gx z = absurd z

          by : (b : Bool) → Does (elim b as (λ _. Prog Given) [ true ↦ close (Session s) | false ↦ finish ]) v k (Without (Request r) w0)
          by true = fine.loosen t (close (Session s)) v k (Without (Session s) v) (Without (Request r) w0) (closing (Session s) v v k gv (λ c z. z)) both
          by false = (gv.inv, (gv, qv, e))

      after : (a : Given) (v : World) (j : List Item) → Inv v → Without (Request r) w0 (Gave a) v j → Does (handle Rattle.cdi_machine.specs.Programs.world (λ w. end_session w w.environment.session) throw) v j (Without (Request r) w0)
      after a v j gv z = with_session v v.environment.session v j z.0 z.1 z.2

  -- each of some contexts ends
  abbrev AllWithout : {X : Type 0} → (X → Context) → List X → World → Completion Given → World → List Item → Type 0
  AllWithout f xs w (Gave a) v k = Tidy v × AllAbsent w v × ((x : _) → IsIn x xs → context_at v.contexts (f x) ≡ None)
  AllWithout f xs w (Threw y) v k = ⊥

  each_ends : (f : List ℕ → Context) (p : List ℕ → Prog Given) → ((x : List ℕ) (w0 w : World) (h : List Item) → Tidy w → AllAbsent w0 w → Does (p x) w h (Without (f x) w0))
      → (xs : List (List ℕ)) (w0 w : World) (h : List Item) → Tidy w → AllAbsent w0 w → Does (each xs p) w h (AllWithout f xs w0)
  each_ends f p d [] w0 w h g q = (g.inv, (g, q, λ x i. absurd i))
  each_ends f p d (x ∷ []) w0 w h g q = fine.loosen t (p x) w h (Without (f x) w0) (AllWithout f (x ∷ []) w0) (d x w0 w h g q) by
    where
      by : (c : Completion Given) (v : World) (k : List Item) → Inv v → Without (f x) w0 c v k → AllWithout f (x ∷ []) w0 c v k
      by (Gave a) v k gv r = (r.0, r.1, λ y i. elim i [ inl e ↦ subst (λ z. context_at v.contexts (f z) ≡ None) e r.2 | inr e ↦ absurd e ])
      by (Threw y) v k gv r = absurd r
  each_ends f p d (x ∷ y ∷ xs) w0 w h g q =
      bind t (Ok t) fine.G (Pre t) Post (p x) (λ _. each (y ∷ xs) p) throw w h (Without (f x) w0) (AllWithout f (x ∷ y ∷ xs) w0) (d x w0 w h g q)
      (λ a v j gv r. fine.loosen t (each (y ∷ xs) p) v j (AllWithout f (y ∷ xs) v) (AllWithout f (x ∷ y ∷ xs) w0) (each_ends f p d (y ∷ xs) v v j r.0 (λ c z. z)) (λ c u k. by v r.1 r.2 c u k))
      (λ z v j gv r. absurd r)
    where
      by : (v : World) → AllAbsent w0 v → context_at v.contexts (f x) ≡ None → (c : Completion Given) (u : World) (k : List Item) → Inv u → AllWithout f (y ∷ xs) v c u k → AllWithout f (x ∷ y ∷ xs) w0 c u k
      by v qv e (Gave a) u k gu r = (r.0, λ c z. r.1 c (qv c z), λ z i. elim i [ inl s ↦ subst (λ m. context_at u.contexts (f m) ≡ None) s (r.1 (f x) e) | inr s ↦ r.2 z s ])
      by v qv e (Threw m) u k gu r = absurd r

  alone_ended : (s : List ℕ) (w0 w : World) (h : List Item) → Tidy w → AllAbsent w0 w → Does (end_alone s) w h (Without (Session s) w0)
  alone_ended s w0 w h g q =
      let e : Rattle.cdi_contexts.specs.Contexts.Environment = record { request = None; session = Some s } in
      let w1 : World = after_change (Change.Stand e) w in
      let g1 : Tidy w1 = tidy_then w w1 g (inv_still w w1 (still_in _ w) g.inv) (rel_still w w1 (still_in _ w) g.inv) in
      closing (Session s) w0 w1 h g1 q

  -- ---- a shutdown

  pub record Nothing (v : World) : Type 0 where
    pub tidy : Tidy v
    pub none : (c : Context) → context_at v.contexts c ≡ None

  abbrev pub ShutDown : Completion Given → World → List Item → Type 0
  ShutDown (Gave a) v k = Nothing v
  ShutDown (Threw y) v k = ⊥

  requests_gone : (w v : World) → AllAbsent w v → ((x : List ℕ) → IsIn x (requests_of w.contexts) → context_at v.contexts (Request x) ≡ None) → (r : List ℕ) → context_at v.contexts (Request r) ≡ None
  requests_gone w v q f r = elim (named_or (λ (x : OpenRequest). x.name) w.contexts.requests r) [
    | inl e ↦ q (Request r) (ap (option_map (λ x. x.active)) e)
    | inr i ↦ f r i
  ]

  sessions_gone : (w v : World) → AllAbsent w v → ((x : List ℕ) → IsIn x (sessions_of w.contexts) → context_at v.contexts (Session x) ≡ None) → (r : List ℕ) → context_at v.contexts (Session r) ≡ None
  sessions_gone w v q f r = elim (named_or (λ (x : OpenSession). x.name) w.contexts.sessions r) [
    | inl e ↦ q (Session r) (ap (option_map (λ x. x.active)) e)
    | inr i ↦ f r i
  ]

  pub shut_does : (w : World) (h : List Item) → Tidy w → Does shut_down w h ShutDown
  shut_does w h g =
      bind t (Ok t) fine.G (Pre t) Post (each (requests_of w.contexts) end) _ throw w h (AllWithout Request (requests_of w.contexts) w) ShutDown (each_ends Request end ended (requests_of w.contexts) w w h g (λ c z. z)) sessions (λ y v j gv r. absurd r)
    where
      behind : (w2 : World) (h2 : List Item) → Tidy w2 → ((r : List ℕ) → context_at w2.contexts (Request r) ≡ None) → ((s : List ℕ) → context_at w2.contexts (Session s) ≡ None)
          → Does (handle (alter (Change.Stand (Rattle.cdi_machine.specs.Commands.environment_of w2.contexts None))) (λ _. handle (fire_container_event built_in.Shutdown) (λ _. handle (close Application) (λ _. handle (alter Change.Down) (λ _. finish) throw) throw) throw) throw) w2 h2 ShutDown
      behind w2 h2 g2 r s =
          let w3 : World = after_change (Change.Stand (Rattle.cdi_machine.specs.Commands.environment_of w2.contexts None)) w2 in
          let g3 : Tidy w3 = tidy_then w2 w3 g2 (inv_still w2 w3 (still_in _ w2) g2.inv) (rel_still w2 w3 (still_in _ w2) g2.inv) in
          bind t (Ok t) fine.G (Pre t) Post (fire_container_event built_in.Shutdown) _ throw w3 h2 (Ends w3) ShutDown (t_container built_in.Shutdown w3 w3 h2 g3 (λ c z. z)) closing_last (λ y v j gv z. absurd z)
        where
          downed : (v : World) → Still v (after_change Change.Down v)
          downed v = record { next = refl; bodies = refl; targets = refl; members = refl; provisions = refl; temporaries = refl; core = λ k. refl; deps = λ k. refl; contexts = λ c. refl }

          closing_last : (a : Unit {0}) (w4 : World) (h4 : List Item) → Inv w4 → Tidy w4 × AllAbsent (after_change (Change.Stand (Rattle.cdi_machine.specs.Commands.environment_of w2.contexts None)) w2) w4
              → Does (handle (close Application) (λ _. handle (alter Change.Down) (λ _. finish) throw) throw) w4 h4 ShutDown
          closing_last a w4 h4 g4 z4 =
              bind t (Ok t) fine.G (Pre t) Post (close Application) _ throw w4 h4 (Without Application w4) ShutDown (closing Application w4 w4 h4 z4.0 (λ c z. z))
              (λ b v j gv z. (let u : World = after_change Change.Down v in let gu = inv_still v u (downed v) gv in (gu, record { tidy = tidy_then v u z.0 gu (rel_still v u (downed v) gv); none = none v z.1 z.2 })))
              (λ y v j gv z. absurd z)
            where
              none : (v : World) → AllAbsent w4 v → context_at v.contexts Application ≡ None → (c : Context) → context_at v.contexts c ≡ None
              none v q e Application = e
              none v q e (Request n) = q (Request n) (z4.1 (Request n) (r n))
              none v q e (Session n) = q (Session n) (z4.1 (Session n) (s n))

      sessions : (a : Given) (v : World) (j : List Item) → Inv v → AllWithout Request (requests_of w.contexts) w (Gave a) v j
          → Does (see (λ t w. handle (each (sessions_of w.contexts) end_alone) (λ _. handle (see (λ t w. alter (Change.Stand (Rattle.cdi_machine.specs.Commands.environment_of w.contexts None)))) (λ _. handle (fire_container_event built_in.Shutdown) (λ _. handle (close Application) (λ _. handle (alter Change.Down) (λ _. finish) throw) throw) throw) throw) throw)) v j ShutDown
      sessions a v j gv z =
          bind t (Ok t) fine.G (Pre t) Post (each (sessions_of v.contexts) end_alone) _ throw v j (AllWithout Session (sessions_of v.contexts) v) ShutDown (each_ends Session end_alone alone_ended (sessions_of v.contexts) v v j z.0 (λ c y. y))
          (λ b u k gu y. behind u k y.0 (λ r. y.1 (Request r) (requests_gone w v z.1 z.2 r)) (sessions_gone v u y.1 y.2))
          (λ x u k gu y. absurd y)

  -- ---- each command

  abbrev pub LeftTidy : {A : Type 0} → Completion A → World → List Item → Type 0
  LeftTidy c v k = Tidy v

  of_tops : {A : Type 0} (p : Prog A) (w : World) (h : List Item) → Tidy w → Tops p → Does p w h LeftTidy
  of_tops {A} p w h g d = fine.loosen t p w h (Ends w) LeftTidy (d w w h g (λ c z. z)) by
    where
      by : (c : Completion A) (v : World) (k : List Item) → Inv v → Ends w c v k → Tidy v
      by (Gave a) v k gv r = r.0
      by (Threw x) v k gv r = absurd r

  of_fine : (p : Prog Given) (w : World) (h : List Item) → Tidy w → fine.Fine t w p Any → Does p w h LeftTidy
  of_fine p w h g f = fine.loosen t p w h (fine.Left w Any) LeftTidy (f w h g.inv (rel_self w g.inv)) (λ c v k gv r. tidy_then w v g gv r.0)

  -- in another environment
  stood : (e : _) (w : World) → Tidy w → Tidy (after_change (Change.Stand e) w)
  stood e w g = tidy_then w (after_change (Change.Stand e) w) g (inv_still w (after_change (Change.Stand e) w) (still_in e w) g.inv) (rel_still w (after_change (Change.Stand e) w) (still_in e w) g.inv)

  with_bean : (asked : Asked) (f : ℕ → Prog Given) → ((w : World) (h : List Item) (n : ℕ) → Inv w → IsUsable n w → fine.Doing t (f n) w h (fine.Left w Any)) → (w : World) → fine.Fine t w (use_bean asked f) Any
  with_bean asked f d w = f_borrowing t w (handle (resolve asked) (λ b. handle (refer_to b owners.Borrower) (λ r. handle (reach_instance r) f throw) throw) throw) λ v g r.
      let u : World = after_change Change.Borrow v in
      fine.then t u (resolve asked) (λ b. handle (refer_to b owners.Borrower) (λ r. handle (reach_instance r) f throw) throw) Any (f_resolved t u asked) λ b.
      fine.then t u (refer_to b owners.Borrower) (λ r. handle (reach_instance r) f throw) Any (f_reference t u b owners.Borrower tt) λ x.
      fine.then_with t u (reach_instance x) f IsBelow Any (f_use t u x) (λ n v2 h g2 r2 l. fine.rebased t u v2 (f n) h Any r2 (d v2 h n g2 l))

  t_if : (b : Bool) (p q : Prog (Unit {0})) → Tops p → Tops q → Tops (elim b as (λ _. Prog (Unit {0})) [ true ↦ p | false ↦ q ])
  t_if true p q d e = d
  t_if false p q d e = e

  t_nothing : Tops do_nothing
  t_nothing w0 w h g q = (g.inv, (g, q))

  requested : (r : List ℕ) (s : Option (List ℕ)) (w : World) → Tidy w → Tidy (after_change (Change.BeginRequest r s) w)
  requested r s w g = tidy_contexts w (after_change (Change.BeginRequest r s) w) (comes_only w (after_change (Change.BeginRequest r s) w) refl refl refl refl refl g.inv (request_comes r s w.contexts)) g

  sessioned : (s : List ℕ) (w : World) → Tidy w → Tidy (after_change (Change.BeginSession s) w)
  sessioned s w g = tidy_contexts w (after_change (Change.BeginSession s) w) (comes_only w (after_change (Change.BeginSession s) w) refl refl refl refl refl g.inv (session_comes s w.contexts)) g

  marked : (s : List ℕ) (w : World) → Still w (after_change (Change.Mark s) w)
  marked s w = record { next = refl; bodies = refl; targets = refl; members = refl; provisions = refl; temporaries = refl; core = λ k. refl; deps = λ k. refl; contexts = marked_same s w.contexts }

  pub command_does : (c : Command) (w : World) (h : List Item) → Tidy w → Does (task c) w h LeftTidy
  command_does Command.Boot w h g = of_tops boot w h g (t_then (fire_context_event built_in.Initialized Application) _ (t_event built_in.Initialized Application) λ _. t_then (fire_container_event built_in.Startup) (λ _. finish) (t_container built_in.Startup) (λ _. t_ret (Given.Result values.Null)))
  command_does (Command.Begin r None) w h g =
      let w1 = stood _ (after_change (Change.BeginRequest r None) w) (requested r None w g) in
      of_tops (handle (fire_context_event built_in.Initialized (Request r)) (λ _. finish) throw) _ h w1 (t_then (fire_context_event built_in.Initialized (Request r)) (λ _. finish) (t_event built_in.Initialized (Request r)) (λ _. t_ret (Given.Result values.Null)))
  command_does (Command.Begin r (Some s)) w h g = by (is_new w.contexts s)
    where
      events : (b : Bool) → Tops (handle (elim b as (λ _. Prog (Unit {0})) [ true ↦ fire_context_event built_in.Initialized (Session s) | false ↦ do_nothing ]) (λ _. handle (fire_context_event built_in.Initialized (Request r)) (λ _. finish) throw) throw)
      events b = t_then (elim b as (λ _. Prog (Unit {0})) [ true ↦ fire_context_event built_in.Initialized (Session s) | false ↦ do_nothing ]) (λ _. handle (fire_context_event built_in.Initialized (Request r)) (λ _. finish) throw) (t_if b (fire_context_event built_in.Initialized (Session s)) do_nothing (t_event built_in.Initialized (Session s)) t_nothing)
          (λ _. t_then (fire_context_event built_in.Initialized (Request r)) (λ _. finish) (t_event built_in.Initialized (Request r)) (λ _. t_ret (Given.Result values.Null)))

      behind : (b : Bool) (v : World) → Tidy v → Does (handle (alter (Change.BeginRequest r (Some s))) (λ _. handle (see (λ t w. alter (Change.Stand (Rattle.cdi_machine.specs.Commands.environment_of w.contexts (Some r))))) (λ _. handle (elim b as (λ _. Prog (Unit {0})) [ true ↦ fire_context_event built_in.Initialized (Session s) | false ↦ do_nothing ]) (λ _. handle (fire_context_event built_in.Initialized (Request r)) (λ _. finish) throw) throw) throw) throw) v h LeftTidy
      behind b v gv = of_tops (handle (elim b as (λ _. Prog (Unit {0})) [ true ↦ fire_context_event built_in.Initialized (Session s) | false ↦ do_nothing ]) (λ _. handle (fire_context_event built_in.Initialized (Request r)) (λ _. finish) throw) throw) (after_change (Change.Stand (Rattle.cdi_machine.specs.Commands.environment_of (after_change (Change.BeginRequest r (Some s)) v).contexts (Some r))) (after_change (Change.BeginRequest r (Some s)) v)) h (stood (Rattle.cdi_machine.specs.Commands.environment_of (after_change (Change.BeginRequest r (Some s)) v).contexts (Some r)) (after_change (Change.BeginRequest r (Some s)) v) (requested r (Some s) v gv)) (events b)

      by : (b : Bool) → Does (handle (elim b as (λ _. Prog (Unit {0})) [ true ↦ alter (Change.BeginSession s) | false ↦ do_nothing ]) (λ _. handle (alter (Change.BeginRequest r (Some s))) (λ _. handle (see (λ t w. alter (Change.Stand (Rattle.cdi_machine.specs.Commands.environment_of w.contexts (Some r))))) (λ _. handle (elim b as (λ _. Prog (Unit {0})) [ true ↦ fire_context_event built_in.Initialized (Session s) | false ↦ do_nothing ]) (λ _. handle (fire_context_event built_in.Initialized (Request r)) (λ _. finish) throw) throw) throw) throw) throw) w h LeftTidy
      by true = behind true (after_change (Change.BeginSession s) w) (sessioned s w g)
      by false = behind false w g
  command_does (Command.End r) w h g = fine.loosen t (end r) w h (Without (Request r) w) LeftTidy (ended r w w h g (λ c z. z)) by
    where
      by : (c : Completion Given) (v : World) (k : List Item) → Inv v → Without (Request r) w c v k → Tidy v
      by (Gave a) v k gv q = q.0
      by (Threw x) v k gv q = absurd q
  command_does (Command.Invalidate s) w h g =
      let w1 : World = after_change (Change.Mark s) w in
      let g1 : Tidy w1 = tidy_then w w1 g (inv_still w w1 (marked s w) g.inv) (rel_still w w1 (marked s w) g.inv) in
      by w1 g1 (is_used w1.contexts s)
    where
      by : (w1 : World) → Tidy w1 → (b : Bool) → Does (elim b as (λ _. Prog Given) [ true ↦ finish | false ↦ handle (stand_alone_in s) (λ _. close (Session s)) throw ]) w1 h LeftTidy
      by w1 g1 true = (g1.inv, g1)
      by w1 g1 false = of_tops (close (Session s)) _ h (stood _ w1 g1) (t_close (Session s))
  command_does (Command.Call r asked method args) w h g =
      let w1 = stood (Rattle.cdi_machine.specs.Commands.environment_of w.contexts r) w g in
      of_fine (use_bean asked (λ n. invoke_method n method args)) _ h w1 (with_bean asked (λ n. invoke_method n method args) (λ v h n g l. f_method t v n method args h g l) _)
  command_does (Command.Read r asked) w h g =
      let w1 = stood (Rattle.cdi_machine.specs.Commands.environment_of w.contexts r) w g in
      of_fine (use_bean asked (λ n. handle (instance n) (λ o. ret (Given.Result o.value)) throw)) _ h w1 (with_bean asked (λ n. handle (instance n) (λ o. ret (Given.Result o.value)) throw) (λ v h n g l. fine.then t v (instance n) (λ o. ret (Given.Result o.value)) Any (f_instance t v n) (λ o x k gx q. (gx, (q, tt))) v h g (rel_self v g)) _)
  command_does (Command.Fire r class qualifiers v) w h g =
      let w1 = stood (Rattle.cdi_machine.specs.Commands.environment_of w.contexts r) w g in
      let y = Task.Fire class (t.written qualifiers) v in
      of_fine (call y) _ h w1 (fine.f_call t _ y (λ w h g r. tt))
  command_does Command.Live w h g = (g.inv, g)
  command_does Command.Shutdown w h g = fine.loosen t shut_down w h ShutDown LeftTidy (shut_does w h g) by
    where
      by : (c : Completion Given) (v : World) (k : List Item) → Inv v → ShutDown c v k → Tidy v
      by (Gave a) v k gv q = q.tidy
      by (Threw x) v k gv q = absurd q
