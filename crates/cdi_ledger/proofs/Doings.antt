-- Each program keeps where all stand: brackets, bodies, destruction, creation and events.
use Rattle.std.proofs.Common.{ℕ, zero, suc, ◌≡◌, ◌<◌, ◌≤◌, List, [], ◌∷◌, inl, inr, Option, Some, None, Bool, true, false, refl, sym, ap, ◌∙◌, subst, arith}
use Rattle.std.specs.Prelude.{nat_eq, length, ◌||◌, not, slice_get, remove, option_map, cond}
use Rattle.cdi_base.specs.declared.value.Value.{Value}
use Rattle.cdi_base.specs.declared.value.Value.TheVariants as values
use Rattle.cdi_base.specs.declared.act.Act.{Act}
use Rattle.cdi_base.specs.declared.act.Act.TheVariants as acts
use Rattle.cdi_base.specs.declared.act.Via.{Via}
use Rattle.cdi_base.specs.declared.act.Via.TheVariants as vias
use Rattle.cdi_base.specs.declared.act.Answer.TheVariants as answers
use Rattle.cdi_base.specs.declared.entry.Entry.TheVariants as entries
use Rattle.cdi_base.specs.declared.place.Place.TheVariants as places
use Rattle.cdi_base.specs.declared.place.InterceptorMethod.{InterceptorMethod}
use Rattle.cdi_base.specs.declared.place.InterceptorMethod.TheVariants as roles
use Rattle.cdi_base.specs.declared.scope.Scope.{Scope}
use Rattle.cdi_base.specs.declared.built_in.BuiltIn.{BuiltIn}
use Rattle.cdi_base.specs.declared.built_in.BuiltIn.TheVariants as built_in
use Rattle.cdi_base.specs.declared.uses.Use.{Use}
use Rattle.cdi_base.specs.BuiltIn.{number_of}
use Rattle.cdi_base.specs.Maps.{at, put}
use Rattle.cdi_ledger.proofs.Maps.{put_at}
use Rattle.cdi_store.specs.declared.references.Reference.TheVariants.{Direct}
use Rattle.cdi_store.specs.declared.instance.Context.{Context}
use Rattle.cdi_store.specs.declared.instance.Component.{Component}
use Rattle.cdi_store.specs.declared.instance.Component.TheVariants as components
use Rattle.cdi_store.specs.declared.instance.Instance.{Instance}
use Rattle.cdi_store.specs.declared.instance.Owner.{Owner}
use Rattle.cdi_store.specs.declared.instance.Owner.TheVariants as owners
use Rattle.cdi_store.specs.declared.instance.Phase.TheVariants as phases
use Rattle.cdi_store.specs.declared.references.Reference.{Reference}
use Rattle.cdi_base.specs.declared.place.Place.{Place}
use Rattle.std.specs.Prelude.{map}
use Rattle.cdi_machine.specs.Tables.{Managed, Method}
use Rattle.cdi_machine.specs.Words.{Name, Asked}
use Rattle.cdi_machine.specs.Tables.{Tables, Code, Member, Lifecycle, Step, Source, Product, Kind, Bean, Observer, Interceptor}
use Rattle.cdi_machine.specs.World.{World, Change, Invocation, instance_at, after_change, with_entry, below}
use Rattle.cdi_machine.specs.Programs.{ActiveContext, cut, miss, change, tick, mark, act, choose, nested, Task, Given, Completion, Running, Prog, ret, throw, see, handle, quietly, attempt, require_present, require, expect, text_of, call, complete, finish, raise, do_nothing, alter, note, each, top, pick, active_or_raise, active_in, context, require_one, resolve, rethrow, require_number, bean_at, interceptor_at, lookup_at, instance, invocation}
use Rattle.cdi_machine.specs.Contexts.{is_normal, refer_to, resolve_point, resolve_points, reach_instance}
use Rattle.cdi_machine.specs.Bodies.{is_of, first_of, invoke_by, provide, invoke, call_back, given_by, body_at_start, interceptor_of, run_rest, reference_at, find_reference, method_in, bean_of, method_of, invoke_method, fits, replace_parameters, repeats, proceed, carry_out, find, answer_of, with_answer, after_act, answer_find, perform, carry_on}
use Rattle.cdi_machine.specs.Destruction.{give_back, borrow_for, obtain_receiver, dispose, clean_up_bean, clean_up}
use Rattle.cdi_machine.specs.Creation.{construct, inject, initialize, take_step, call_producer, accept, produce, make}
use Rattle.cdi_machine.specs.Events.{fire, observe, deliver, notify, is_skipped, fire_context_event, fire_container_event, qualifier}
use Rattle.cdi_ledger.specs.Ledger.{Item, Wrote, fate}
use Rattle.cdi_ledger.proofs.Past.{Past}
use Rattle.cdi_ledger.proofs.Phases.{eq_true}
use Rattle.cdi_ledger.specs.Callbacks.{IsOrdinary, codes_in, IsMark}
use Rattle.cdi_store.specs.Live.{Instances}
use Rattle.cdi_ledger.specs.Whose.{IsIn}
use Rattle.cdi_ledger.proofs.Lists.{HasTop, TopEmpty, among_below, below_among, in_got}
use Rattle.cdi_ledger.proofs.Cores.{Core, core_of, core_at, deps_at}
use Rattle.cdi_ledger.proofs.Homes.{IsNewAt, MayOwn, Inside, new_then, no_parameters, parameters_same, provisions, codes, Inv, Rel, Grown, Placed, HeldIn, OnStack, Busy, IsFixed, targets, rel_self, rel_then, was_busy}
use Rattle.cdi_ledger.proofs.Spans.{Still, inv_still, rel_still}
use Rattle.cdi_ledger.proofs.Owed.{IsOwned, IsLeft, OwnLocals, IsSet, set_then, within_none, within_first, CanStart, StartsSo, LeftSo, AtMember, IsMemberAt, none_start, in_farewell, farewell_map, farewell_then, usable_same, one_class, Ok, EntersSo, IsKnown, IsAttending, one_ordinary, AllReferTo, IsUsable, MayEnter, MayRun, IsMember, usable_enters, usable_runs, new_usable, RefersTo, Pre, Post, IsTop, IsGiven, Anchored, anchored_then}
use Rattle.cdi_ledger.proofs.Judge.{bind}
use Rattle.cdi_ledger.proofs.Fine as fine
use Rattle.cdi_ledger.proofs.Standing.{f_referring, f_interceptor_of, CanHave, have_then, top_then, own_of, below_then, live_below, inside_still, invocation_still, f_bean, f_interceptor, f_instance, f_resolved, f_picked, f_reference, f_injected, all_injected, f_use, f_destroy_by, providing}

abbrev IsTopOf : Invocation → List Invocation → Type 0
IsTopOf v [] = ⊥
IsTopOf v (u ∷ us) = u ≡ v

top_kept : (v : Invocation) (us vs : List Invocation) → IsTopOf v us → targets vs ≡ targets us → codes vs ≡ codes us → (place : Place) → IsIn place (map (λ m. m.place) v.members) → IsMember v.target place vs
top_kept v [] vs e p q place h = absurd e
top_kept v (u ∷ us) [] e p q place h = absurd (cc)
top_kept v (u ∷ us) (x ∷ vs) e p q place h =
    let a : x.target ≡ u.target = cc in
    let b : x.members ≡ u.members = cc in
    (a ∙ ap (λ (z : Invocation). z.target) e, subst (λ z. IsIn place (map (λ m. m.place) z)) (sym (b ∙ ap (λ (z : Invocation). z.members) e)) h)

kept_at : (t : Tables) (v : Invocation) (us vs : List Invocation) → IsTopOf v us → targets vs ≡ targets us → codes vs ≡ codes us → (place : Place) (w : World) (h : List Item) → AtMember t place v.members w h → IsMemberAt t v.target place w h vs
kept_at t v [] vs e p q place w h i = absurd e
kept_at t v (u ∷ us) [] e p q place w h i = absurd (cc)
kept_at t v (u ∷ us) (x ∷ vs) e p q place w h i =
    let a : x.target ≡ u.target = cc in
    let b : x.members ≡ u.members = cc in
    (a ∙ ap (λ (z : Invocation). z.target) e, subst (λ z. AtMember t place z w h) (sym (b ∙ ap (λ (z : Invocation). z.members) e)) i)

in_places : (m : Code) (ms : List Code) → IsIn m ms → IsIn m.place (map (λ m. m.place) ms)
in_places m [] h = h
in_places m (n ∷ ms) (inl e) = inl (ap (λ (z : Code). z.place) e)
in_places m (n ∷ ms) (inr h) = inr (in_places m ms h)

grown_below : (k : ℕ) (x : List ℕ) (ts us : List (List ℕ)) → Grown k (x ∷ ts) us → Grown k ts (below us)
grown_below k x ts [] q = absurd q
grown_below k x ts (u ∷ us) q = q.1

have_up : (w u : World) (owner : Owner) → u.instances ≡ w.instances → u.temporaries ≡ w.temporaries → ((b : ℕ) → OnStack w b → OnStack u b) → CanHave w owner → CanHave u owner
have_up w u (owners.Context x) i t f h = absurd h
have_up w u (owners.Instance m) i t f h = (h.0, subst (λ z. core_at m z ≡ Some h.0) (sym i) h.1, fixed h.2)
  where
    fixed : IsFixed w m h.0 → IsFixed u m h.0
    fixed (inl e) = inl e
    fixed (inr (inl e)) = inr (inl e)
    fixed (inr (inr b)) = inr (inr (b.0, f b.0 b.1, subst (λ z. Rattle.cdi_ledger.proofs.Homes.Chain z b.0 m) (sym i) b.2))
have_up w u owners.Borrower i t f h = subst HasTop (sym t) h

may_up : (w u : World) (n : ℕ) (owner : Owner) → u.instances ≡ w.instances → MayOwn n owner w → MayOwn n owner u
may_up w u n owner i (inl e) = inl e
may_up w u n owner i (inr (inl a)) = inr (inl (a.0, a.1, (a.2.0, subst (λ z. core_at a.0 z ≡ Some a.2.0) (sym i) a.2.1, a.2.2)))
may_up w u n owner i (inr (inr e)) = inr (inr e)

-- the target of the innermost invocation stays there
usable_inside : (u w : World) (n : ℕ) → Inside u w → (ts : List ℕ) → targets u.invocations ≡ n ∷ ts → IsUsable n u → IsUsable n w
usable_inside u w n r ts e l = (l.0, r.stay n l.0 l.1 (inr (inr (n, inr (subst (IsIn n) (sym e) (inl refl)), Rattle.cdi_ledger.proofs.Homes.Chain.here))), l.2)

top_in : (v : Invocation) (us : List Invocation) → IsTopOf v us → IsIn (v.target, v.references) (provisions us)
top_in v [] e = absurd e
top_in v (u ∷ us) e = inl (ap (λ (z : Invocation). (z.target, z.references)) e)

abbrev pub Any : {A : Type 0} → A → World → Type 0
Any a w = Unit {0}

listed_there : (m : ℕ) (live : Instances) (n : ℕ) → IsIn n (deps_at m live) → (c : Core) × (core_at m live ≡ Some c)
listed_there m live n h = by (at live m) refl h
  where
    by : (o : Option Instance) → at live m ≡ o → IsIn n (Rattle.cdi_ledger.proofs.Cores.list_of o) → (c : Core) × (core_at m live ≡ Some c)
    by None e h = absurd h
    by (Some o) e h = (core_of o, ap (option_map core_of) e)

in_removed : {X : Type 0} (x : X) (xs : List X) (i : ℕ) → IsIn x (remove xs i) → IsIn x xs
in_removed x [] zero h = h
in_removed x [] (suc i) h = h
in_removed x (y ∷ ys) zero h = inr h
in_removed x (y ∷ ys) (suc i) h = elim h [ inl e ↦ inl e | inr z ↦ inr (in_removed x ys i z) ]

-- an instance of the interceptor
of_interceptor : (i n : ℕ) (w : World) → is_of i (instance_at w n) ≡ true → (c : Core) × (core_at n w.instances ≡ Some c) × (c.component ≡ components.Interceptor i)
of_interceptor i n w e = by (instance_at w n) refl e
  where
    over : (o : Instance) → instance_at w n ≡ Some o → (k : Component) → o.component ≡ k → elim k as (λ _. Bool) [ components.Bean b ↦ false | components.Interceptor j ↦ nat_eq i j ] ≡ true → (c : Core) × (core_at n w.instances ≡ Some c) × (c.component ≡ components.Interceptor i)
    over o q (components.Bean b) s f = absurd (cc)
    over o q (components.Interceptor j) s f = (core_of o, ap (option_map core_of) q, s ∙ ap components.Interceptor (sym (eq_true i j f)))

    by : (o : Option Instance) → instance_at w n ≡ o → is_of i o ≡ true → (c : Core) × (core_at n w.instances ≡ Some c) × (c.component ≡ components.Interceptor i)
    by None q f = absurd (cc)
    by (Some o) q f = over o q o.component refl f

abbrev pub IsBelow : ℕ → World → Type 0
IsBelow n w = IsUsable n w

usable_below : (n : ℕ) (w : World) → Inv w → IsUsable n w → n < w.next
usable_below n w g u = g.below n u.0 u.1

module _ (t : Tables) where
  module _ (w0 : World) where
    abbrev Fine : {A : Type 0} → Prog A → (A → World → Type 0) → Type 0
    Fine p V = fine.Fine t w0 p V

    abbrev Goes : {A : Type 0} → Prog A → World → List Item → (A → World → Type 0) → Type 0
    Goes p w h V = fine.Doing t p w h (fine.Left w0 V)

    then : {A B : Type 0} (p : Prog A) (f : A → Prog B) → Fine p Any → ((a : A) → Fine (f a) Any) → Fine (handle p f throw) Any
    then p f d k = fine.then t w0 p f Any d k

    -- what is given is looked at in the world that it is given in
    then_at : {A B : Type 0} (p : Prog A) (f : A → Prog B) (V : A → World → Type 0) → Fine p V → ((a : A) (w : World) (h : List Item) → Inv w → Rel w0 w → V a w → fine.Doing t (f a) w h (fine.Left w Any)) → Fine (handle p f throw) Any
    then_at p f V d k = fine.then_with t w0 p f V Any d (λ a w h g r v. fine.rebased t w0 w (f a) h Any r (k a w h g r v))

    gives : {A : Type 0} (a : A) → Fine (ret a) Any
    gives a w h g r = (g, (r, tt))

    calls : (c : Task) → ((w : World) (h : List Item) → Pre t c w h) → Fine (call c) Any
    calls c q = fine.f_call t w0 c (λ w h g r. q w h)

    -- ---- what is borrowed

    behind : (w w2 : World) → Rel (after_change Change.Borrow w) w2 → Rel w (after_change Change.Return w2)
    behind w w2 q = record {
      next = q.next;
      bodies = q.bodies;
      targets = q.targets;
      members = q.members;
      provisions = q.provisions;
      lists = grown_below w.next [] w.temporaries w2.temporaries q.lists;
      old = q.old;
      new = q.new;
      stay = λ k c e f. q.stay k c e (fixed k c f);
      making = q.making;
      absent = q.absent;
    }
      where
        fixed : (k : ℕ) (c : Core) → IsFixed w k c → IsFixed (after_change Change.Borrow w) k c
        fixed k c (inl e) = inl e
        fixed k c (inr (inl e)) = inr (inl e)
        fixed k c (inr (inr b)) = inr (inr b)

    borrowed_inv : (w : World) → Inv w → Inv (after_change Change.Borrow w)
    borrowed_inv w g = record {
      below = g.below;
      smaller = g.smaller;
      stack = g.stack;
      depends = g.depends;
      borrowed = λ k h. elim h [ inl q ↦ absurd q | inr q ↦ g.borrowed k q ];
      held = g.held;
      placed = λ k c e r. by k c.component c.owner (g.placed k c e r);
      made = g.made;
      one = g.one;
      provided = λ n rs i. parameters_same w (after_change Change.Borrow w) n rs refl (λ k. refl) (g.provided n rs i);
    }
      where
        by : (k : ℕ) (component : Component) (owner : Owner) → Placed w k component owner → Placed (after_change Change.Borrow w) k component owner
        by k component (owners.Context x) h = h
        by k component (owners.Instance m) h = h
        by k component owners.Borrower h = inr h

    returned_inv : (w : World) → Inv w → TopEmpty w.temporaries → Inv (after_change Change.Return w)
    returned_inv w g e = record {
      below = g.below;
      smaller = g.smaller;
      stack = g.stack;
      depends = g.depends;
      borrowed = λ k h. g.borrowed k (below_among k w.temporaries h);
      held = g.held;
      placed = λ k c f r. by k c.component c.owner (g.placed k c f r);
      made = g.made;
      one = g.one;
      provided = λ n rs i. parameters_same w (after_change Change.Return w) n rs refl (λ k. refl) (g.provided n rs i);
    }
      where
        by : (k : ℕ) (component : Component) (owner : Owner) → Placed w k component owner → Placed (after_change Change.Return w) k component owner
        by k component (owners.Context x) h = h
        by k component (owners.Instance m) h = h
        by k component owners.Borrower h = among_below k w.temporaries e h

    top_fresh : (k d : ℕ) (ts us : List (List ℕ)) → Grown k ([] ∷ ts) us → IsTop d us → k ≤ d
    top_fresh k d ts [] q h = absurd h
    top_fresh k d ts (u ∷ us) q h = elim (q.0 d h) [ inl z ↦ absurd z | inr z ↦ z ]

    dismissing : (w w1 : World) (h1 : List Item) → Inv w → Inv w1 → Rel (after_change Change.Borrow w) w1 → Pre t Task.Dismiss w1 h1
    dismissing w w1 h1 g g1 q = (top_then w.next ([] ∷ w.temporaries) w1.temporaries q.lists tt, idle)
      where
        idle : (d : ℕ) → IsTop d w1.temporaries → Busy w1 d → ⊥
        idle d h b =
            let l = top_fresh w.next d w.temporaries w1.temporaries q.lists h in
            let m = (was_busy (after_change Change.Borrow w) w1 d (borrowed_inv w g) q b).1 in
            omega arith

    pub f_borrowing : (p : Prog Given) → ((w : World) → Inv w → Rel w0 w → fine.Fine t (after_change Change.Borrow w) p Any) → Fine (borrow_for p) Any
    f_borrowing p k w h g r =
        let u : World = after_change Change.Borrow w in
        bind t (Ok t) fine.G (Pre t) Post p (λ a. handle give_back (λ _. ret a) throw) (λ x. handle give_back (λ _. throw x) throw) u h (fine.Left u Any) (fine.Left w0 Any)
        (k w g r u h (borrowed_inv w g) (rel_self u (borrowed_inv w g)))
        (λ a w1 h1 g1 q. (g1, dismissing w w1 h1 g g1 q.0, gave a w1 q.0))
        (λ x w1 h1 g1 q. (g1, dismissing w w1 h1 g g1 q.0, threw x w1 q.0))
      where
        gave : (a : Given) (w1 : World) → Rel (after_change Change.Borrow w) w1 → (c : Completion Given) (w2 : World) (h2 : List Item) → Inv w2 → Rel w1 w2 × IsGiven c × TopEmpty w2.temporaries
            → Goes (handle (handle (complete c) (λ b. handle (alter Change.Return) (λ _. ret b) throw) (λ x. handle (alter Change.Return) (λ _. throw x) throw)) (λ _. ret a) throw) w2 h2 Any
        gave a w1 q (Completion.Gave b) w2 h2 g2 p = (returned_inv w2 g2 p.2, (rel_then w0 w (after_change Change.Return w2) r (behind w w2 (rel_then (after_change Change.Borrow w) w1 w2 q p.0)), tt))
        gave a w1 q (Completion.Threw b) w2 h2 g2 p = absurd p.1

        threw : (x : Name) (w1 : World) → Rel (after_change Change.Borrow w) w1 → (c : Completion Given) (w2 : World) (h2 : List Item) → Inv w2 → Rel w1 w2 × IsGiven c × TopEmpty w2.temporaries
            → Goes {A = Given} (handle (handle (complete c) (λ b. handle (alter Change.Return) (λ _. ret b) throw) (λ x. handle (alter Change.Return) (λ _. throw x) throw)) (λ _. throw x) throw) w2 h2 Any
        threw x w1 q (Completion.Gave b) w2 h2 g2 p = (returned_inv w2 g2 p.2, (rel_then w0 w (after_change Change.Return w2) r (behind w w2 (rel_then (after_change Change.Borrow w) w1 w2 q p.0)), tt))
        threw x w1 q (Completion.Threw b) w2 h2 g2 p = absurd p.1

  -- ---- invocations

  module _ (w0 : World) where
    -- the chain of an invocation whose target stays
    f_ordinary : (n : ℕ) (ts chain : List ℕ) → targets w0.invocations ≡ n ∷ ts → IsUsable n w0 → Fine w0 (call (Task.Rest chain)) Any
    f_ordinary n ts chain e l = fine.f_call t w0 (Task.Rest chain) (λ w h g r. none_start t chain w0 w h n ts r e l)

  module _ (w0 : World) where
    pub f_invoke : (n : ℕ) (m : Member) (args : List Value) (owner : Owner) (h : List Item) → IsOrdinary t m.code.place → Inv w0 → IsUsable n w0 → CanHave w0 owner → MayOwn n owner w0 → fine.Doing t (invoke n m args owner) w0 h (fine.Left w0 Any)
    f_invoke n m args owner h ord g l k may =
        fine.f_invoking t w0 n roles.AroundInvoke (m.code ∷ []) args (handle (provide m.points owner) (λ _. call (Task.Rest m.chain)) throw) w0 h g (rel_self w0 g) (usable_below n w0 g l) (usable_enters t n (m.code ∷ []) w0 l, inr (one_ordinary t roles.AroundInvoke m.code (λ e. cc) ord))
        (λ u gu i tm c x f s. bind t (Ok t) fine.G (Pre t) Post (provide m.points owner) (λ _. call (Task.Rest m.chain)) throw u h (fine.Bracketed u) (fine.Bracketed u)
        (providing t n (targets w0.invocations) m.points owner u h gu s (have_up w0 u owner i tm f k) (may_up w0 u n owner i may))
        (λ a u2 h2 g2 q. fine.inside_then t u u2 (call (Task.Rest m.chain)) h2 q.0 (f_ordinary u2 n (targets w0.invocations) m.chain (q.0.targets ∙ s) (usable_inside u u2 n q.0 (targets w0.invocations) s (usable_same w0 u n i l)) u2 h2 g2 (rel_self u2 g2)))
        (λ x u2 h2 g2 q. (g2, q)))

    pub f_lifecycle : (n : ℕ) (role : InterceptorMethod) (callbacks : List Code) (chain : List ℕ) → n < w0.next → ((w : World) → Rel w0 w → IsUsable n w) → ((w : World) (h : List Item) → Rel w0 w → MayEnter t n callbacks w × EntersSo t n role callbacks w h) → Fine w0 (call_back n role callbacks chain) Any
    f_lifecycle n role callbacks chain l usable ok w h g r = fine.f_invoked t w0 n role callbacks [] (call (Task.Rest chain)) w h g r (below_then w0 w n r l) (ok w h r) (λ u gu i tm c x f s. f_ordinary u n (targets w.invocations) chain s (usable_same w u n i (usable w r)) u h gu (rel_self u gu))

    pub f_receiver : (b : ℕ) → HasTop w0.temporaries → Fine w0 (obtain_receiver b) IsBelow
    f_receiver b k = fine.then_with t w0 (refer_to b owners.Borrower) reach_instance Any IsBelow (f_reference t w0 b owners.Borrower k) (λ x w h g r v. f_use t w0 x w h g r)

    -- ---- bodies

    f_invocation : Fine w0 invocation Any
    f_invocation w h g r = fine.f_top t w0 w.invocations w h g r

    f_innermost : Fine w0 invocation (λ v u. IsTopOf v u.invocations)
    f_innermost w h g r = by w.invocations refl
      where
        by : (vs : List Invocation) → w.invocations ≡ vs → Goes w0 (Rattle.cdi_machine.specs.Programs.top vs) w h (λ v u. IsTopOf v u.invocations)
        by [] e = (g, (r, tt))
        by (v ∷ vs) e = (g, (r, subst (IsTopOf v) (sym e) refl))

    -- what is asked for one of them
    further : (v : Invocation) → IsTopOf v w0.invocations → (first : Code) (more : List Code) → v.members ≡ first ∷ more → (m : Code) (w : World) (h : List Item) → Inv w → Rel w0 w → IsIn m.place (map (λ m. m.place) more) → Pre t (Task.Body (body_at_start v.target m.place m.body v.parameters v.references [])) w h
    further v top first more e m w h g r i =
        let k = top_kept v w0.invocations w.invocations top r.targets r.members m.place (subst (λ z. IsIn m.place (map (λ m. m.place) z)) (sym e) (inr i)) in
        (((λ c e l. inl k), inr (inl (kept_at t v w0.invocations w.invocations top r.targets r.members m.place w h (subst (λ z. AtMember t m.place z w h) (sym e) (inr i))))), (within_none t w, (λ k m e. absurd (cc), g.provided v.target v.references (subst (IsIn (v.target, v.references)) (sym r.provisions) (top_in v w0.invocations top)))))

    -- the further bodies at a chain's end, one after the other
    f_more : (v : Invocation) → IsTopOf v w0.invocations → (first : Code) (more : List Code) → v.members ≡ first ∷ more → (ms : List Code) → ((m : Code) → IsIn m ms → IsIn m.place (map (λ m. m.place) more)) → Fine w0 (each ms (λ m. call (Task.Body (body_at_start v.target m.place m.body v.parameters v.references [])))) Any
    f_more v top first more e [] f = λ w h g r. (g, (r, tt))
    f_more v top first more e (m ∷ []) f = fine.f_call t w0 (Task.Body (body_at_start v.target m.place m.body v.parameters v.references [])) (λ w h g r. further v top first more e m w h g r (f m (inl refl)))
    f_more v top first more e (m ∷ n ∷ ms) f = then w0 (call (Task.Body (body_at_start v.target m.place m.body v.parameters v.references []))) (λ _. each (n ∷ ms) (λ m. call (Task.Body (body_at_start v.target m.place m.body v.parameters v.references []))))
        (fine.f_call t w0 (Task.Body (body_at_start v.target m.place m.body v.parameters v.references [])) (λ w h g r. further v top first more e m w h g r (f m (inl refl))))
        (λ _. f_more v top first more e (n ∷ ms) (λ k z. f k (inr z)))

  module _ (w0 : World) where
    -- a body on one whose destruction hasn't begun
    body_on : (y : Running) (f : Given → Prog Given) → ((a : Given) → Fine w0 (f a) Any) → (w : World) (h : List Item) → Inv w → Rel w0 w → IsUsable y.instance w → IsKnown t y.instance y.place w h → IsLeft t y w → fine.Doing t (handle (call (Task.Body y)) f throw) w h (fine.Left w0 Any)
    body_on y f d w h g r l known left = (g, ((usable_runs t y.instance y.place w h l, known), left), after)
      where
        after : (c : Completion Given) (w1 : World) (h1 : List Item) → Inv w1 → Rel w w1 × Unit {0} → fine.Doing t (handle (complete c) f throw) w1 h1 (fine.Left w0 Any)
        after (Completion.Gave a) w1 h1 g1 p = d a w1 h1 g1 (rel_then w0 w w1 r p.0)
        after (Completion.Threw x) w1 h1 g1 p = (g1, (rel_then w0 w w1 r p.0, tt))

    f_reached : (v : Invocation) (x : Given) → Fine w0 (handle (alter Change.Reach) (λ _. ret (given_by v.role x)) throw) Any
    f_reached v x = then w0 (alter Change.Reach) (λ _. ret (given_by v.role x)) (fine.f_alter t w0 Change.Reach tt (λ w. invocation_still w (λ i. record i { completed = true }) (λ i. refl) (λ i. refl) (λ i. refl))) (λ _. (λ w h g q. (g, (q, tt))))

  -- the bodies at a chain's end
  f_end : (v : Invocation) (w : World) (h : List Item) → Inv w → IsTopOf v w.invocations → CanStart t [] w h → (ms : List Code) → v.members ≡ ms
      → fine.Doing t (handle (each ms (λ m. call (Task.Body (body_at_start v.target m.place m.body v.parameters v.references [])))) (λ x. handle (alter Change.Reach) (λ _. ret (given_by v.role x)) throw) throw) w h (fine.Left w Any)
  f_end v w h g top start [] e = f_reached w v (Given.Result values.Null) w h g (rel_self w g)
  f_end v w h g top start (m ∷ more) e = by more e
    where
      body : Code → Prog Given
      body m = call (Task.Body (body_at_start v.target m.place m.body v.parameters v.references []))

      reach : Given → Prog Given
      reach x = handle (alter Change.Reach) (λ _. ret (given_by v.role x)) throw

      asked : (more : List Code) → v.members ≡ m ∷ more → Pre t (Task.Body (body_at_start v.target m.place m.body v.parameters v.references [])) w h
      asked more e =
          let k = top_kept v w.invocations w.invocations top refl refl m.place (subst (λ z. IsIn m.place (map (λ m. m.place) z)) (sym e) (inl refl)) in
          (((λ c e l. inl k), inr (inl (kept_at t v w.invocations w.invocations top refl refl m.place w h (subst (λ z. AtMember t m.place z w h) (sym e) (inl (refl, start)))))), (within_none t w, (λ k m e. absurd (cc), g.provided v.target v.references (top_in v w.invocations top))))

      first : (more : List Code) → v.members ≡ m ∷ more → fine.Doing t (body m) w h (fine.Left w Any)
      first more e = fine.calling t w (Task.Body (body_at_start v.target m.place m.body v.parameters v.references [])) w h g (rel_self w g) (asked more e)

      reached : (p : Prog Given) → fine.Doing t p w h (fine.Left w Any) → fine.Doing t (handle p (λ x. handle (alter Change.Reach) (λ _. ret (given_by v.role x)) throw) throw) w h (fine.Left w Any)
      reached p d = bind t (Ok t) fine.G (Pre t) Post p (λ x. handle (alter Change.Reach) (λ _. ret (given_by v.role x)) throw) throw w h (fine.Left w Any) (fine.Left w Any) d (λ a w1 h1 g1 q. f_reached w v a w1 h1 g1 q.0) (λ x w1 h1 g1 q. (g1, (q.0, tt)))

      by : (more : List Code) → v.members ≡ m ∷ more
          → fine.Doing t (handle (each (m ∷ more) (λ m. call (Task.Body (body_at_start v.target m.place m.body v.parameters v.references [])))) (λ x. handle (alter Change.Reach) (λ _. ret (given_by v.role x)) throw) throw) w h (fine.Left w Any)
      by [] e = reached (body m) (first [] e)
      by (n ∷ ms) e = reached (handle (body m) (λ _. each (n ∷ ms) (λ m. body m)) throw)
          (bind t (Ok t) fine.G (Pre t) Post (body m) (λ _. each (n ∷ ms) (λ m. body m)) throw w h (fine.Left w Any) (fine.Left w Any) (first (n ∷ ms) e) (λ a w1 h1 g1 q. f_more w v top m (n ∷ ms) e (n ∷ ms) (λ k z. in_places k (n ∷ ms) z) w1 h1 g1 q.0) (λ x w1 h1 g1 q. (g1, (q.0, tt))))

  pub f_rest : (chain : List ℕ) (w : World) (h : List Item) → Inv w → CanStart t chain w h → fine.Doing t (run_rest chain) w h (fine.Left w Any)
  f_rest [] w h g start = by w.invocations refl
    where
      by : (vs : List Invocation) → w.invocations ≡ vs → fine.Doing t (handle (Rattle.cdi_machine.specs.Programs.top vs) (λ v. handle (each v.members (λ m. call (Task.Body (body_at_start v.target m.place m.body v.parameters v.references [])))) (λ x. handle (alter Change.Reach) (λ _. ret (given_by v.role x)) throw) throw) throw) w h (fine.Left w Any)
      by [] e = (g, (rel_self w g, tt))
      by (v ∷ vs) e = f_end v w h g (subst (IsTopOf v) (sym e) refl) start v.members refl
  f_rest (i ∷ chain) w h g start = on_top w.invocations refl
    where
      behind : Invocation → Interceptor → ℕ → ℕ → Prog Given
      behind v x b n = handle (call (Task.Body (body_at_start n (places.Interceptor x.name v.role) b v.parameters [] chain))) (λ a. ret (given_by v.role a)) throw

      -- one of the target's dependents
      runs : (v : Invocation) (vs : List Invocation) → w.invocations ≡ v ∷ vs → (x : Interceptor) → t.interceptor i ≡ Some x → (b n : ℕ) → IsIn n (deps_at v.target w.instances) → is_of i (instance_at w n) ≡ true → Goes w (behind v x b n) w h Any
      runs v vs e x f b n z y =
          let c = of_interceptor i n w y in
          let q = g.depends v.target n z in
          let a : Some (record { component = q.0; owner = owners.Instance v.target; phase = phases.Ready }) ≡ Some c.0 = sym q.1 ∙ c.1 in
          let k : record { component = q.0; owner = owners.Instance v.target; phase = phases.Ready } ≡ c.0 = cc in
          let o = listed_there v.target w.instances n z in
          body_on w (body_at_start n (places.Interceptor x.name v.role) b v.parameters [] chain) (λ a. ret (given_by v.role a)) (λ a w h g q. (g, (q, tt))) w h g (rel_self w g) (_, q.1, tt)
          (inr (inr (subst (IsAttending t n (places.Interceptor x.name v.role) w h) (sym e) (record { index = i; interceptor = x; known = f; rest = chain; starts = start; stands = refl; core = c.0; there = c.1; of = c.2; owner = ap (λ (z : Core). z.owner) (sym k); target = o.0; lives = o.1 })))) (within_first t i chain w h start, (λ k m e. absurd (cc), no_parameters n w))

      among : (v : Invocation) (vs : List Invocation) → w.invocations ≡ v ∷ vs → (x : Interceptor) → t.interceptor i ≡ Some x → (b : ℕ) (ns : List ℕ) → ((k : ℕ) → IsIn k ns → IsIn k (deps_at v.target w.instances)) → Goes w (handle (first_of w i ns) (λ n. behind v x b n) throw) w h Any
      among v vs e x f b [] z = (g, (rel_self w g, tt))
      among v vs e x f b (n ∷ ns) z = by (is_of i (instance_at w n)) refl (λ y. runs v vs e x f b n (z n (inl refl)) y) (among v vs e x f b ns (λ k y. z k (inr y)))
        where
          by : (c : Bool) → is_of i (instance_at w n) ≡ c → (is_of i (instance_at w n) ≡ true → Goes w (behind v x b n) w h Any) → Goes w (handle (first_of w i ns) (λ n. behind v x b n) throw) w h Any → Goes w (handle (elim c as (λ _. Prog ℕ) [ true ↦ ret n | false ↦ first_of w i ns ]) (λ n. behind v x b n) throw) w h Any
          by true q d k = d q
          by false q d k = k

      of_target : (v : Invocation) (vs : List Invocation) → w.invocations ≡ v ∷ vs → (x : Interceptor) → t.interceptor i ≡ Some x → (b : ℕ) (o : Option Instance) → instance_at w v.target ≡ o → Goes w (handle (handle (require_present o) (λ o. see (λ t w. first_of w i o.dependents)) throw) (λ n. behind v x b n) throw) w h Any
      of_target v vs e x f b None y = (g, (rel_self w g, tt))
      of_target v vs e x f b (Some o) y = among v vs e x f b o.dependents (λ k z. subst (IsIn k) (sym (ap Rattle.cdi_ledger.proofs.Cores.list_of y)) z)

      coded : (v : Invocation) (vs : List Invocation) → w.invocations ≡ v ∷ vs → (x : Interceptor) → t.interceptor i ≡ Some x → (b : Option ℕ) → Goes w (handle (require_present b) (λ b. handle (interceptor_of v.target i) (λ n. behind v x b n) throw) throw) w h Any
      coded v vs e x f None = (g, (rel_self w g, tt))
      coded v vs e x f (Some b) = of_target v vs e x f b (instance_at w v.target) refl

      known : (v : Invocation) (vs : List Invocation) → w.invocations ≡ v ∷ vs → (x : Option Interceptor) → t.interceptor i ≡ x → Goes w (handle (require_present x) (λ x. handle (require_present (x.body v.role)) (λ b. handle (interceptor_of v.target i) (λ n. behind v x b n) throw) throw) throw) w h Any
      known v vs e None f = (g, (rel_self w g, tt))
      known v vs e (Some x) f = coded v vs e x f (x.body v.role)

      on_top : (vs : List Invocation) → w.invocations ≡ vs → Goes w (handle (Rattle.cdi_machine.specs.Programs.top vs) (λ v. handle (interceptor_at i) (λ x. handle (require_present (x.body v.role)) (λ b. handle (interceptor_of v.target i) (λ n. behind v x b n) throw) throw) throw) throw) w h Any
      on_top [] e = (g, (rel_self w g, tt))
      on_top (v ∷ vs) e = known v vs e (t.interceptor i) refl

  module _ (w0 : World) where
    -- ---- acts

    f_referred : (r : Running) (via : Via) → Fine w0 (find_reference r via) Any
    f_referred r (vias.Field name) = then w0 (instance r.instance) _ (f_instance t w0 r.instance) (λ _. (λ w h g q. (g, (q, tt))))
    f_referred r (vias.Param k) = (λ w h g q. (g, (q, tt)))
    f_referred r (vias.Local k) = (λ w h g q. (g, (q, tt)))

    f_method_in : (k : Kind) (name : Name) → Fine w0 (method_in k name) Any
    f_method_in (Kind.Class c) name = fine.f_present t w0 (at c.methods name)
    f_method_in (Kind.Producer p) name = λ w h g r. (g, (r, tt))

    f_bean_of : (component : Component) → Fine w0 (bean_of component) Any
    f_bean_of (components.Bean b) = f_bean t w0 b
    f_bean_of (components.Interceptor i) = λ w h g r. (g, (r, tt))

    f_method_of : (n : ℕ) (name : Name) → Fine w0 (method_of n name) Any
    f_method_of n name = then w0 (instance n) _ (f_instance t w0 n) λ o. then w0 (bean_of o.component) _ (f_bean_of o.component) λ bean. f_method_in bean.kind name

    looks_expect : (b : Bool) → fine.Looks (expect b)
    looks_expect true = tt
    looks_expect false = tt

    -- a method that is found is one of a bean
    f_found_method : (n : ℕ) (name : Name) (h : List Item) → Inv w0 → IsUsable n w0 → fine.Doing t (method_of n name) w0 h (fine.Left w0 (λ m u. IsUsable n u × IsOrdinary t m.code.place))
    f_found_method n name h g l = by (instance_at w0 n)
      where
        found : (b : ℕ) (x : Bean) (c : Managed) → t.bean b ≡ Some x → x.kind ≡ Kind.Class c → (m : Option Method) → at c.methods name ≡ m → fine.Doing t (require_present m) w0 h (fine.Left w0 (λ m u. IsUsable n u × IsOrdinary t m.code.place))
        found b x c e k None z = (g, (rel_self w0 g, tt))
        found b x c e k (Some m) z = (g, (rel_self w0 g, (l, IsOrdinary.method b x c name m e k z)))

        of_kind : (b : ℕ) (x : Bean) → t.bean b ≡ Some x → (k : Kind) → x.kind ≡ k → fine.Doing t (method_in k name) w0 h (fine.Left w0 (λ m u. IsUsable n u × IsOrdinary t m.code.place))
        of_kind b x e (Kind.Class c) k = found b x c e k (at c.methods name) refl
        of_kind b x e (Kind.Producer p) k = (g, (rel_self w0 g, tt))

        of_bean : (b : ℕ) (x : Option Bean) → t.bean b ≡ x → fine.Doing t (handle (require_present x) (λ bean. method_in bean.kind name) throw) w0 h (fine.Left w0 (λ m u. IsUsable n u × IsOrdinary t m.code.place))
        of_bean b None e = (g, (rel_self w0 g, tt))
        of_bean b (Some x) e = of_kind b x e x.kind refl

        of_component : (c : Component) → fine.Doing t (handle (bean_of c) (λ bean. method_in bean.kind name) throw) w0 h (fine.Left w0 (λ m u. IsUsable n u × IsOrdinary t m.code.place))
        of_component (components.Bean b) = of_bean b (t.bean b) refl
        of_component (components.Interceptor i) = (g, (rel_self w0 g, tt))

        by : (o : Option Instance) → fine.Doing t (handle (require_present o) (λ o. handle (bean_of o.component) (λ bean. method_in bean.kind name) throw) throw) w0 h (fine.Left w0 (λ m u. IsUsable n u × IsOrdinary t m.code.place))
        by None = (g, (rel_self w0 g, tt))
        by (Some o) = of_component o.component

    pub f_method : (n : ℕ) (name : Name) (args : List Value) (h : List Item) → Inv w0 → IsUsable n w0 → fine.Doing t (invoke_method n name args) w0 h (fine.Left w0 Any)
    f_method n name args h g l =
        bind t (Ok t) fine.G (Pre t) Post (method_of n name) (λ m. handle (expect (nat_eq (length args) m.count)) (λ _. invoke_by n roles.AroundInvoke (m.code ∷ []) args (call (Task.Rest m.chain))) throw) throw w0 h (fine.Left w0 (λ m u. IsUsable n u × IsOrdinary t m.code.place)) (fine.Left w0 Any)
        (f_found_method n name h g l)
        (λ m w1 h1 g1 q. bind t (Ok t) fine.G (Pre t) Post (expect (nat_eq (length args) m.count)) (λ _. invoke_by n roles.AroundInvoke (m.code ∷ []) args (call (Task.Rest m.chain))) throw w1 h1 (fine.Left w0 (λ m u. IsUsable n u)) (fine.Left w0 Any)
        (fine.f_looks t w0 (expect (nat_eq (length args) m.count)) (IsUsable n) w1 h1 (looks_expect (nat_eq (length args) m.count)) g1 q.0 q.1.0)
        (λ a w2 h2 g2 p. fine.f_invoked t w0 n roles.AroundInvoke (m.code ∷ []) args (call (Task.Rest m.chain)) w2 h2 g2 p.0 (usable_below n w2 g2 p.1) (usable_enters t n (m.code ∷ []) w2 p.1, inr (one_ordinary t roles.AroundInvoke m.code (λ e. cc) q.1.1)) (λ u gu i tm c x f s. f_ordinary u n (targets w2.invocations) m.chain s (usable_same w2 u n i p.1) u h2 gu (rel_self u gu)))
        (λ x w2 h2 g2 p. (g2, (p.0, tt))))
        (λ x w1 h1 g1 q. (g1, (q.0, tt)))

    -- it goes on with what is left of the chain
    proceed_does : (r : Running) (args : Option (List Value)) → IsSet t r w0 → (w : World) (h : List Item) → Inv w → Rel w0 w → Goes w0 (proceed r args) w (Wrote (entries.Did (acts.Proceed args)) ∷ h) Any
    proceed_does r args k w h g q = by w.invocations
      where
        start : (w : World) → Rel w0 w → CanStart t r.rest w (Wrote (entries.Did (acts.Proceed args)) ∷ h)
        start w q = farewell_map t (LeftSo r.rest) (StartsSo r.rest (Wrote (entries.Did (acts.Proceed args)) ∷ h)) w.invocations w (λ n c e. inr (e, tt)) (farewell_then t (LeftSo r.rest) w0 w q k.1.0)

        still : (xs : List Value) → Still w (after_change (Change.Replace xs) w)
        still xs = invocation_still w (λ i. record i { parameters = xs }) (λ i. refl) (λ i. refl) (λ i. refl)

        replaced : (x : Option (List Value)) → Goes w0 (handle (replace_parameters x) (λ _. call (Task.Rest r.rest)) throw) w (Wrote (entries.Did (acts.Proceed args)) ∷ h) Any
        replaced None = fine.calling t w0 (Task.Rest r.rest) w (Wrote (entries.Did (acts.Proceed args)) ∷ h) g q (start w q)
        replaced (Some xs) =
            let u : World = after_change (Change.Replace xs) w in
            let ru : Rel w0 u = rel_then w0 w u q (rel_still w u (still xs) g) in
            fine.calling t w0 (Task.Rest r.rest) u (Wrote (entries.Did (acts.Proceed args)) ∷ h) (inv_still w u (still xs) g) ru (start u ru)

        once : (b : Bool) → Goes w0 (handle (require b built_in.IllegalStateException) (λ _. handle (replace_parameters args) (λ _. call (Task.Rest r.rest)) throw) throw) w (Wrote (entries.Did (acts.Proceed args)) ∷ h) Any
        once true = replaced args
        once false = (g, (q, tt))

        fitting : (v : Invocation) (b : Bool) → Goes w0 (handle (require b built_in.IllegalArgumentException) (λ _. handle (require (repeats v.role || not r.proceeded) built_in.IllegalStateException) (λ _. handle (replace_parameters args) (λ _. call (Task.Rest r.rest)) throw) throw) throw) w (Wrote (entries.Did (acts.Proceed args)) ∷ h) Any
        fitting v true = once (repeats v.role || not r.proceeded)
        fitting v false = (g, (q, tt))

        by : (vs : List Invocation) → Goes w0 (handle (Rattle.cdi_machine.specs.Programs.top vs) (λ v. handle (require (fits v.parameters args) built_in.IllegalArgumentException) (λ _. handle (require (repeats v.role || not r.proceeded) built_in.IllegalStateException) (λ _. handle (replace_parameters args) (λ _. call (Task.Rest r.rest)) throw) throw) throw) throw) w (Wrote (entries.Did (acts.Proceed args)) ∷ h) Any
        by [] = (g, (q, tt))
        by (v ∷ vs) = fitting v (fits v.parameters args)

  -- neither a call of its own method nor a proceed
  abbrev IsOther : Act → Type 0
  IsOther (acts.Own name args) = ⊥
  IsOther (acts.Proceed args) = ⊥
  IsOther _ = Unit {0}

  module _ (w0 : World) where
    pub f_does : (r : Running) (a : Act) → IsOther a → Fine w0 (carry_out r a) Any
    f_does r (acts.Set field v) nq = then w0 (instance r.instance) _ (f_instance t w0 r.instance) λ o. then w0 (require_present (at o.fields field)) _ (fine.f_present t w0 (at o.fields field)) (λ _. then w0 (alter (Change.Assign r.instance field v)) (λ _. finish) (fine.f_alter t w0 (Change.Assign r.instance field v) tt (λ w. inside_still w r.instance _ (λ o. refl) (λ o. refl))) (λ _. (λ w h g q. (g, (q, tt)))))
    f_does r (acts.Call via name args) nq = then w0 (find_reference r via) _ (f_referred w0 r via) λ x. then_at w0 (reach_instance x) (λ n. invoke_method n name args) IsBelow (f_use t w0 x) (λ n w h g q l. f_method w n name args h g l)
    f_does r (acts.Own name args) nq = absurd nq
    f_does r (acts.Read via) nq = then w0 (find_reference r via) _ (f_referred w0 r via) λ x. then_at w0 (reach_instance x) (λ n. handle (instance n) (λ o. ret (Given.Result o.value)) throw) IsBelow (f_use t w0 x) (λ n w h g q l. then w (instance n) _ (f_instance t w n) (λ _. (λ w h g q. (g, (q, tt)))) w h g (rel_self w g))
    f_does r (acts.Write via v) nq = then w0 (find_reference r via) _ (f_referred w0 r via) λ x. then_at w0 (reach_instance x) (λ n. handle (alter (Change.Hold n v)) (λ _. finish) throw) IsBelow (f_use t w0 x) (λ n w h g q l. then w (alter (Change.Hold n v)) (λ _. finish) (fine.f_alter t w (Change.Hold n v) tt (λ w. inside_still w n _ (λ o. refl) (λ o. refl))) (λ _. (λ w h g q. (g, (q, tt)))) w h g (rel_self w g))
    f_does r (acts.Fire class qualifiers v) nq = calls w0 (Task.Fire class qualifiers v) (λ w h. tt)
    f_does r (acts.Proceed args) nq = absurd nq
    f_does r (acts.Find k) nq = λ w h g q. (g, (q, tt))
    f_does r (acts.Keep key v) nq = then w0 (alter (Change.Keep key v)) (λ _. finish) (fine.f_alter t w0 (Change.Keep key v) tt (λ w. invocation_still w _ (λ i. refl) (λ i. refl) (λ i. refl))) (λ _. (λ w h g q. (g, (q, tt))))
    f_does r (acts.Peek key) nq = then w0 invocation _ (f_invocation w0) (λ _. (λ w h g q. (g, (q, tt))))
    f_does r (acts.Destroy k) nq = f_destroy_by t w0 (reference_at (at r.locals k))
    f_does r (acts.Give v) nq = λ w h g q. (g, (q, tt))
    f_does r (acts.Throw x) nq = λ w h g q. (g, (q, tt))

    f_find : (r : Running) (k : ℕ) → Anchored w0 r.instance → Fine w0 (find r k) (RefersTo (owners.Instance r.instance))
    f_find r k a = fine.then t w0 (lookup_at r.body k) _ (RefersTo (owners.Instance r.instance)) (λ w h g q. fine.f_present t w0 (t.lookup r.body k) w h g q) λ asked.
        fine.then t w0 (resolve asked) (λ b. refer_to b (owners.Instance r.instance)) (RefersTo (owners.Instance r.instance)) (f_resolved t w0 asked) λ b. f_referring t w0 b (owners.Instance r.instance) a

    f_answer : (c : Completion Given) → Fine w0 (answer_of c) Any
    f_answer (Completion.Gave (Given.Result v)) = (λ w h g q. (g, (q, tt)))
    f_answer (Completion.Gave (Given.Number n)) = (λ w h g q. (g, (q, tt)))
    f_answer (Completion.Gave Given.Empty) = (λ w h g q. (g, (q, tt)))
    f_answer (Completion.Threw x) = then w0 (text_of x) _ (λ w h g q. fine.f_present t w0 (t.text x) w h g q) (λ _. (λ w h g q. (g, (q, tt))))

    f_again : (r : Running) → IsSet t r w0 → Fine w0 (call (Task.Acts r)) Any
    f_again r a = fine.f_call t w0 (Task.Acts r) (λ w h g q. set_then t r w0 w q a)

    -- what was looked for and found is the instance's
    abbrev IsFound : Running → Completion Reference → World → Type 0
    IsFound r (Completion.Gave x) w = RefersTo (owners.Instance r.instance) x w
    IsFound r (Completion.Threw x) w = Unit {0}

    with_local : (r : Running) (k : ℕ) (x : Reference) (w : World) → RefersTo (owners.Instance r.instance) x w → OwnLocals r w → OwnLocals (record r { locals = put k x r.locals }) w
    with_local r k x w f o j m e = by (nat_eq j k) (sym (put_at r.locals k x j) ∙ e)
      where
        by : (b : Bool) → cond b (Some x) (at r.locals j) ≡ Some (Direct m) → IsOwned (owners.Instance r.instance) m w
        by true q = f m (let y : x ≡ Direct m = cc in y)
        by false q = o j m q

    f_found : (r : Running) (k : ℕ) (c : Completion Reference) → IsSet t r w0 → (w : World) (h : List Item) → Inv w → Rel w0 w → IsFound r c w → Goes w0 (answer_find r k c) w h Any
    f_found r k (Completion.Gave x) a w h g q f =
        let s = set_then t r w0 w q a in
        fine.calling t w0 (Task.Acts (with_answer (record r { locals = put k x r.locals }) (answers.Found k))) w h g q (s.0, (s.1.0, (with_local r k x w f s.1.1.0, s.1.1.1)))
    f_found r k (Completion.Threw x) a w h g q f = then w0 (answer_of (Completion.Threw x)) (λ answer. call (Task.Acts (with_answer r answer))) (f_answer (Completion.Threw x)) (λ answer. f_again (with_answer r answer) a) w h g q

    f_looked : (r : Running) (k : ℕ) → Anchored w0 r.instance → Fine w0 (attempt (find r k)) (IsFound r)
    f_looked r k a w h g q = bind t (Ok t) fine.G (Pre t) Post (find r k) (λ x. ret (Completion.Gave x)) (λ x. ret (Completion.Threw x)) w h (fine.Left w0 (RefersTo (owners.Instance r.instance))) (fine.Left w0 (IsFound r)) (f_find r k a w h g q) (λ x w1 h1 g1 p. (g1, p)) (λ x w1 h1 g1 p. (g1, (p.0, tt)))

    set_after : (r : Running) (a : Act) → IsSet t r w0 → IsSet t (after_act r a) w0
    set_after r (acts.Proceed args) s = s
    set_after r (acts.Set field v) s = s
    set_after r (acts.Call via name args) s = s
    set_after r (acts.Own name args) s = s
    set_after r (acts.Read via) s = s
    set_after r (acts.Write via v) s = s
    set_after r (acts.Fire class qualifiers v) s = s
    set_after r (acts.Find k) s = s
    set_after r (acts.Keep key v) s = s
    set_after r (acts.Peek key) s = s
    set_after r (acts.Destroy k) s = s
    set_after r (acts.Give v) s = s
    set_after r (acts.Throw x) s = s

    f_told : (r : Running) (a : Act) → IsOther a → IsSet t r w0 → Fine w0 (handle (attempt (carry_out r a)) (λ c. handle (answer_of c) (λ answer. call (Task.Acts (with_answer (after_act r a) answer))) throw) throw) Any
    f_told r a nq k = then w0 (attempt (carry_out r a)) _ (fine.caught t w0 (carry_out r a) _ _ Any Any (f_does r a nq) (λ _. (λ w h g q. (g, (q, tt)))) (λ _. (λ w h g q. (g, (q, tt))))) λ c. then w0 (answer_of c) (λ answer. call (Task.Acts (with_answer (after_act r a) answer))) (f_answer c) (λ answer. f_again (with_answer (after_act r a) answer) (set_after r a k))

    -- a call of its own method: its `did` stands right before
    own_does : (r : Running) (name : Name) (args : List Value) (w : World) (h : List Item) → Inv w → Rel w0 w → Goes w0 (carry_out r (acts.Own name args)) w (Wrote (entries.Did (acts.Own name args)) ∷ h) Any
    own_does r name args w h g q = by (instance_at w r.instance) refl
      where
        k : List Item
        k = Wrote (entries.Did (acts.Own name args)) ∷ h

        called : (m : Method) → MayRun t r.instance m.code.place w (Wrote (entries.Did (acts.Own name args)) ∷ h) × IsKnown t r.instance m.code.place w (Wrote (entries.Did (acts.Own name args)) ∷ h) → (b : Bool) → Goes w0 (handle (expect b) (λ _. call (Task.Body (body_at_start r.instance m.code.place m.code.body args [] []))) throw) w (Wrote (entries.Did (acts.Own name args)) ∷ h) Any
        called m ok true = fine.calling t w0 (Task.Body (body_at_start r.instance m.code.place m.code.body args [] [])) w (Wrote (entries.Did (acts.Own name args)) ∷ h) g q (ok, (within_none t w, (λ k m e. absurd (cc), no_parameters r.instance w)))
        called m ok false = (g, (q, tt))

        then_call : Method → Prog Given
        then_call m = handle (expect (nat_eq (length args) m.count)) (λ _. call (Task.Body (body_at_start r.instance m.code.place m.code.body args [] []))) throw

        found : (o : Instance) (b : ℕ) (x : Bean) (c : Managed) → instance_at w r.instance ≡ Some o → o.component ≡ components.Bean b → t.bean b ≡ Some x → x.kind ≡ Kind.Class c → (m : Option Method) → at c.methods name ≡ m
            → Goes w0 (handle (require_present m) (λ m. handle (expect (nat_eq (length args) m.count)) (λ _. call (Task.Body (body_at_start r.instance m.code.place m.code.body args [] []))) throw) throw) w (Wrote (entries.Did (acts.Own name args)) ∷ h) Any
        found o b x c e i f y None z = (g, (q, tt))
        found o b x c e i f y (Some m) z = called m (
          (λ d u l. inr (record {
            index = b;
            is = (let v : Some (core_of o) ≡ Some d = sym (ap (option_map core_of) e) ∙ u in let s : core_of o ≡ d = cc in ap (λ (z : Core). z.component) (sym s) ∙ i);
            bean = x;
            known = f;
            class = c;
            kind = y;
            own = (m, z, refl);
          })),
          inl (IsOrdinary.method b x c name m f y z),
        ) (nat_eq (length args) m.count)

        of_kind : (o : Instance) (b : ℕ) (x : Bean) → instance_at w r.instance ≡ Some o → o.component ≡ components.Bean b → t.bean b ≡ Some x → (kind : Kind) → x.kind ≡ kind
            → Goes w0 (handle (method_in kind name) (λ m. handle (expect (nat_eq (length args) m.count)) (λ _. call (Task.Body (body_at_start r.instance m.code.place m.code.body args [] []))) throw) throw) w (Wrote (entries.Did (acts.Own name args)) ∷ h) Any
        of_kind o b x e i f (Kind.Class c) y = found o b x c e i f y (at c.methods name) refl
        of_kind o b x e i f (Kind.Producer p) y = (g, (q, tt))

        of_bean : (o : Instance) (b : ℕ) → instance_at w r.instance ≡ Some o → o.component ≡ components.Bean b → (x : Option Bean) → t.bean b ≡ x
            → Goes w0 (handle (handle (require_present x) (λ bean. method_in bean.kind name) throw) (λ m. handle (expect (nat_eq (length args) m.count)) (λ _. call (Task.Body (body_at_start r.instance m.code.place m.code.body args [] []))) throw) throw) w (Wrote (entries.Did (acts.Own name args)) ∷ h) Any
        of_bean o b e i None f = (g, (q, tt))
        of_bean o b e i (Some x) f = of_kind o b x e i f x.kind refl

        of_component : (o : Instance) → instance_at w r.instance ≡ Some o → (c : Component) → o.component ≡ c
            → Goes w0 (handle (handle (bean_of c) (λ bean. method_in bean.kind name) throw) (λ m. handle (expect (nat_eq (length args) m.count)) (λ _. call (Task.Body (body_at_start r.instance m.code.place m.code.body args [] []))) throw) throw) w (Wrote (entries.Did (acts.Own name args)) ∷ h) Any
        of_component o e (components.Bean b) i = of_bean o b e i (t.bean b) refl
        of_component o e (components.Interceptor j) i = (g, (q, tt))

        by : (x : Option Instance) → instance_at w r.instance ≡ x
            → Goes w0 (handle (handle (require_present x) (λ o. handle (bean_of o.component) (λ bean. method_in bean.kind name) throw) throw) (λ m. handle (expect (nat_eq (length args) m.count)) (λ _. call (Task.Body (body_at_start r.instance m.code.place m.code.body args [] []))) throw) throw) w (Wrote (entries.Did (acts.Own name args)) ∷ h) Any
        by None e = (g, (q, tt))
        by (Some o) e = of_component o e o.component refl

    told_at : (r : Running) (a : Act) → IsSet t r w0 → (w : World) (h : List Item) → Goes w0 (carry_out r a) w h Any
        → Goes w0 (handle (attempt (carry_out r a)) (λ c. handle (answer_of c) (λ answer. call (Task.Acts (with_answer (after_act r a) answer))) throw) throw) w h Any
    told_at r a k w h d =
        bind t (Ok t) fine.G (Pre t) Post (attempt (carry_out r a)) (λ c. handle (answer_of c) (λ answer. call (Task.Acts (with_answer (after_act r a) answer))) throw) throw w h (fine.Left w0 Any) (fine.Left w0 Any)
        (bind t (Ok t) fine.G (Pre t) Post (carry_out r a) (λ a. ret (Completion.Gave a)) (λ x. ret (Completion.Threw x)) w h (fine.Left w0 Any) (fine.Left w0 Any) d (λ a w1 h1 g1 p. (g1, (p.0, tt))) (λ x w1 h1 g1 p. (g1, (p.0, tt))))
        (λ c w1 h1 g1 p. then w0 (answer_of c) (λ answer. call (Task.Acts (with_answer (after_act r a) answer))) (f_answer c) (λ answer. f_again (with_answer (after_act r a) answer) (set_after r a k)) w1 h1 g1 p.0)
        (λ x w1 h1 g1 p. (g1, (p.0, tt)))

    f_perform : (r : Running) (a : Act) → IsSet t r w0 → (w : World) (h : List Item) → Inv w → Rel w0 w → Goes w0 (perform r a) w (Wrote (entries.Did a) ∷ h) Any
    f_perform r (acts.Give v) k w h g q = (g, (q, tt))
    f_perform r (acts.Throw x) k w h g q = (g, (q, tt))
    f_perform r (acts.Find i) k w h g q = fine.then_with t w0 (attempt (find r i)) (λ c. answer_find r i c) (IsFound r) Any (f_looked r i k.0) (λ c w h g q f. f_found r i c k w h g q f) w (Wrote (entries.Did (acts.Find i)) ∷ h) g q
    f_perform r (acts.Set field v) k w h g q = f_told r (acts.Set field v) tt k w (Wrote (entries.Did (acts.Set field v)) ∷ h) g q
    f_perform r (acts.Call via name args) k w h g q = f_told r (acts.Call via name args) tt k w (Wrote (entries.Did (acts.Call via name args)) ∷ h) g q
    f_perform r (acts.Own name args) k w h g q = told_at r (acts.Own name args) k w (Wrote (entries.Did (acts.Own name args)) ∷ h) (own_does r name args w h g q)
    f_perform r (acts.Read via) k w h g q = f_told r (acts.Read via) tt k w (Wrote (entries.Did (acts.Read via)) ∷ h) g q
    f_perform r (acts.Write via v) k w h g q = f_told r (acts.Write via v) tt k w (Wrote (entries.Did (acts.Write via v)) ∷ h) g q
    f_perform r (acts.Fire class qualifiers v) k w h g q = f_told r (acts.Fire class qualifiers v) tt k w (Wrote (entries.Did (acts.Fire class qualifiers v)) ∷ h) g q
    f_perform r (acts.Proceed args) k w h g q = told_at r (acts.Proceed args) k w (Wrote (entries.Did (acts.Proceed args)) ∷ h) (proceed_does w0 r args k w h g q)
    f_perform r (acts.Keep key v) k w h g q = f_told r (acts.Keep key v) tt k w (Wrote (entries.Did (acts.Keep key v)) ∷ h) g q
    f_perform r (acts.Peek key) k w h g q = f_told r (acts.Peek key) tt k w (Wrote (entries.Did (acts.Peek key)) ∷ h) g q
    f_perform r (acts.Destroy i) k w h g q = f_told r (acts.Destroy i) tt k w (Wrote (entries.Did (acts.Destroy i)) ∷ h) g q

    pub f_acts : (r : Running) → IsSet t r w0 → Fine w0 (carry_on r) Any
    f_acts r k = then w0 (instance r.instance) _ (f_instance t w0 r.instance) (λ o w h g q. (g, λ a. f_perform r a k (with_entry (entries.Did a) w) h (fine.inv_entry (entries.Did a) w g) (fine.rel_entry (entries.Did a) w0 w g q)))

  -- ---- destruction

  module _ (w0 : World) where
    served : (b : ℕ) (m : Member) (args : List Value) → IsOrdinary t m.code.place → Fine w0 (borrow_for (handle (obtain_receiver b) (λ n. invoke n m args owners.Borrower) throw)) Any
    served b m args ord = f_borrowing w0 (handle (obtain_receiver b) (λ n. invoke n m args owners.Borrower) throw)
        (λ w g r. then_at (after_change Change.Borrow w) (obtain_receiver b) (λ n. invoke n m args owners.Borrower) IsBelow (f_receiver (after_change Change.Borrow w) b tt)
        (λ n v h g1 r1 l. f_invoke v n m args owners.Borrower h ord g1 l (have_then (after_change Change.Borrow w) v owners.Borrower r1 tt) (inr (inr refl))))

    pub f_farewell : (n : ℕ) (v : Value) (component : Component) (d : Core) (h : List Item) → Inv w0 → n < w0.next → core_at n w0.instances ≡ Some d → d.phase ≡ phases.Leaving → d.component ≡ component → Past (fate n h) → IsMark n h → fine.Doing t (clean_up n v component) w0 h (fine.Left w0 Any)
    f_farewell n v (components.Interceptor i) d h g l e p q z begun = (g, (rel_self w0 g, tt))
    f_farewell n v (components.Bean b) d h g l e p q z begun = of_bean (t.bean b) refl
      where
        by : (bean : Bean) → t.bean b ≡ Some bean → (k : Kind) → bean.kind ≡ k → fine.Doing t (clean_up_bean n v k) w0 h (fine.Left w0 Any)
        by bean f (Kind.Class c) y = fine.f_invoked t w0 n roles.PreDestroy c.pre_destroy.callbacks [] (call (Task.Rest c.pre_destroy.chain)) w0 h g (rel_self w0 g) l
            ((λ x u m. record { index = b; is = (let z : Some d ≡ Some x = sym e ∙ u in let s : d ≡ x = cc in ap (λ (z : Core). z.component) (sym s) ∙ q); bean = bean; known = f; class = c; kind = y; same = refl; all = λ place i. i }), inl ((d, e, p), z))
            (λ u gu i tm k x on s. fine.calling t u (Task.Rest c.pre_destroy.chain) u h gu (rel_self u gu) (in_farewell t (StartsSo c.pre_destroy.chain h) u.invocations u n (targets w0.invocations) s (λ m a r o j. inl (
              (let v : Some d ≡ Some m = sym e ∙ subst (λ z. core_at n z ≡ Some m) i r in let y2 : d ≡ m = cc in ap (λ (z : Managed). z.pre_destroy.chain) (one_class t m b bean c a (ap (λ (z : Core). z.component) (sym y2) ∙ q) f y j)),
              begun,
            ))))
        by bean f (Kind.Producer p) y = fine.f_each_in t w0 p.disposers (dispose p v) (λ d i. served p.declaring d (v ∷ []) (IsOrdinary.disposer b bean p d f y i)) w0 h g (rel_self w0 g)

        of_bean : (x : Option Bean) → t.bean b ≡ x → fine.Doing t (handle (require_present x) (λ bean. clean_up_bean n v bean.kind) throw) w0 h (fine.Left w0 Any)
        of_bean None f = (g, (rel_self w0 g, tt))
        of_bean (Some x) f = by x f x.kind refl

    -- ---- creation

    pub f_construct : (n : ℕ) (points : List Asked) (chain : Lifecycle) → ((m : Code) → IsIn m chain.callbacks → IsOrdinary t m.place) → n < w0.next → Anchored w0 n → IsNewAt n w0 → Fine w0 (construct n points chain) Any
    f_construct n points chain ord l k new w h g r =
        fine.f_invoking t w0 n roles.AroundConstruct chain.callbacks [] (handle (provide points (owners.Instance n)) (λ _. handle (call (Task.Rest chain.chain)) (λ _. handle invocation (λ v. handle (require v.completed built_in.CreationException) (λ _. finish) throw) throw) throw) throw) w h g r (below_then w0 w n r l) (usable_enters t n chain.callbacks w (new_usable w n (new_then w0 w n r new)), inr (λ e. cc, ord))
        (λ u gu i tm c x f s. bind t (Ok t) fine.G (Pre t) Post (provide points (owners.Instance n)) (λ _. handle (call (Task.Rest chain.chain)) (λ _. handle invocation (λ v. handle (require v.completed built_in.CreationException) (λ _. finish) throw) throw) throw) throw u h (fine.Bracketed u) (fine.Bracketed u)
        (providing t n (targets w.invocations) points (owners.Instance n) u h gu s (have_up w u (owners.Instance n) i tm f (have_then w0 w (owners.Instance n) r k)) (inl refl))
        (λ a u2 h2 g2 q. fine.inside_then t u u2 (handle (call (Task.Rest chain.chain)) (λ _. handle invocation (λ v. handle (require v.completed built_in.CreationException) (λ _. finish) throw) throw) throw) h2 q.0 (
        then u2 (call (Task.Rest chain.chain)) _ (f_ordinary u2 n (targets w.invocations) chain.chain (q.0.targets ∙ s) (usable_inside u u2 n q.0 (targets w.invocations) s (usable_same w u n i (new_usable w n (new_then w0 w n r new))))) (λ _.
        then u2 invocation _ (f_invocation u2) λ v. then u2 (require v.completed built_in.CreationException) _ (fine.f_require t u2 _ _) (λ _. (λ w h g q. (g, (q, tt))))) u2 h2 g2 (rel_self u2 g2)))
        (λ x u2 h2 g2 q. (g2, q)))

    pub f_inject : (n : ℕ) (field : Name) (point : Asked) → Anchored w0 n → Fine w0 (inject n field point) Any
    f_inject n field point k = fine.then_with t w0 (resolve_point point (owners.Instance n)) _ (RefersTo (owners.Instance n)) Any (Rattle.cdi_ledger.proofs.Standing.f_pointing t w0 point (owners.Instance n) k)
        (λ x w h g r v. (v, (let s = still x w in (inv_still w _ s g, (rel_then w0 w _ r (rel_still w _ s g), tt)))))
      where
        still : (x : Reference) (w : World) → Still w (after_change (Change.Refer n field x) w)
        still x w = inside_still w n _ (λ o. refl) (λ o. refl)

    f_initialize : (n : ℕ) (m : Code) (points : List Asked) → IsOrdinary t m.place → Anchored w0 n → IsNewAt n w0 → Fine w0 (initialize n m points) Any
    f_initialize n m points ord k new w h g r =
        bind t (Ok t) fine.G (Pre t) Post (resolve_points points (owners.Instance n)) (λ rs. call (Task.Body (body_at_start n m.place m.body [] rs []))) throw w h (fine.Left w (AllReferTo (owners.Instance n))) (fine.Left w0 Any)
        (all_injected t points (owners.Instance n) w h g (have_then w0 w (owners.Instance n) r k))
        (λ rs w1 h1 g1 q. (let r1 = rel_then w0 w w1 r q.0 in fine.calling t w0 (Task.Body (body_at_start n m.place m.body [] rs [])) w1 h1 g1 r1 ((usable_runs t n m.place w1 h1 (new_usable w1 n (new_then w0 w1 n r1 new)), inl ord), (within_none t w1, (λ k m e. absurd (cc), λ k m e. (let o = q.1 k m e in (o.0, λ c f. inl (o.1 c f))))))))
        (λ x w1 h1 g1 q. (g1, (rel_then w0 w w1 r q.0, tt)))

    f_step : (n : ℕ) (s : Step) → ((m : Code) → IsIn m (codes_in s) → IsOrdinary t m.place) → n < w0.next → Anchored w0 n → IsNewAt n w0 → Fine w0 (take_step n s) Any
    f_step n (Step.Intercept i) ord l k new = fine.f_call t w0 (Task.Intercept i n) (λ w h g r. anchored_then w0 w n r k)
    f_step n (Step.Construct points chain) ord l k new = f_construct n points chain ord l k new
    f_step n (Step.Inject field point) ord l k new = f_inject n field point k
    f_step n (Step.Initialize m points) ord l k new = f_initialize n m points (ord m (inl refl)) k new
    f_step n (Step.Complete chain) ord l k new = f_lifecycle w0 n roles.PostConstruct chain.callbacks chain.chain l (λ w r. new_usable w n (new_then w0 w n r new)) (λ w h r. (usable_enters t n chain.callbacks w (new_usable w n (new_then w0 w n r new)), inr (λ e. cc, ord)))

    f_accept : (b : Bool) (n : ℕ) (x : Given) → Fine w0 (accept b n x) Any
    f_accept true n (Given.Result values.Null) = λ w h g r. (g, (r, tt))
    f_accept true n (Given.Result (values.Int i)) = then w0 (alter (Change.Hold n (values.Int i))) (λ _. ret (Given.Result (values.Int i))) (fine.f_alter t w0 (Change.Hold n (values.Int i)) tt (λ w. inside_still w n _ (λ o. refl) (λ o. refl))) (λ _. (λ w h g q. (g, (q, tt))))
    f_accept true n (Given.Result (values.Text x)) = then w0 (alter (Change.Hold n (values.Text x))) (λ _. ret (Given.Result (values.Text x))) (fine.f_alter t w0 (Change.Hold n (values.Text x)) tt (λ w. inside_still w n _ (λ o. refl) (λ o. refl))) (λ _. (λ w h g q. (g, (q, tt))))
    f_accept true n (Given.Number m) = (λ w h g q. (g, (q, tt)))
    f_accept true n Given.Empty = (λ w h g q. (g, (q, tt)))
    f_accept false n (Given.Result v) = then w0 (alter (Change.Hold n v)) (λ _. ret (Given.Result v)) (fine.f_alter t w0 (Change.Hold n v) tt (λ w. inside_still w n _ (λ o. refl) (λ o. refl))) (λ _. (λ w h g q. (g, (q, tt))))
    f_accept false n (Given.Number m) = (λ w h g q. (g, (q, tt)))
    f_accept false n Given.Empty = (λ w h g q. (g, (q, tt)))

  module _ (w0 : World) where
    f_produced : (n m : ℕ) (s : Source) (h : List Item) → ((x : Member) → s ≡ Source.ProducerMethod x → IsOrdinary t x.code.place) → Inv w0 → IsUsable m w0 → Anchored w0 n → IsNewAt n w0 → fine.Doing t (call_producer n m s) w0 h (fine.Left w0 Any)
    f_produced n m (Source.ProducerMethod producer) h ord g l k new = f_invoke w0 m producer [] (owners.Instance n) h (ord producer refl) g l k (inr (inl (n, refl, new)))
    f_produced n m (Source.ProducerField field) h ord g l k new = then w0 (instance m) _ (f_instance t w0 m) (λ o. then w0 (require_present (at o.fields field)) _ (fine.f_present t w0 _) (λ _. (λ w h g q. (g, (q, tt))))) w0 h g (rel_self w0 g)

  module _ (w0 : World) where
    f_produce : (n : ℕ) (scope : Scope) (p : Product) → ((x : Member) → p.source ≡ Source.ProducerMethod x → IsOrdinary t x.code.place) → Anchored w0 n → IsNewAt n w0 → Fine w0 (produce n scope p) Any
    f_produce n scope p ord k new =
        then w0 (borrow_for (handle (obtain_receiver p.declaring) (λ m. call_producer n m p.source) throw)) _
        (f_borrowing w0 (handle (obtain_receiver p.declaring) (λ m. call_producer n m p.source) throw)
        (λ w g r. then_at (after_change Change.Borrow w) (obtain_receiver p.declaring) (λ m. call_producer n m p.source) IsBelow (f_receiver (after_change Change.Borrow w) p.declaring tt)
        (λ m v h g1 r1 l. f_produced v n m p.source h ord g1 l (have_then (after_change Change.Borrow w) v (owners.Instance n) r1 (anchored_then w0 w n r k)) (new_then (after_change Change.Borrow w) v n r1 (new_then w0 w n r new)))))
        (λ v. f_accept w0 (is_normal scope) n v)

    pub f_made : (n b : ℕ) (bean : Bean) (kind : Kind) → t.bean b ≡ Some bean → bean.kind ≡ kind → n < w0.next → Anchored w0 n → IsNewAt n w0 → Fine w0 (make n bean kind) Any
    f_made n b bean (Kind.Class c) known is l k new = then w0 (each c.plan (take_step n)) _ (fine.f_each_in t w0 c.plan (take_step n) (λ s i. f_step w0 n s (λ m j. IsOrdinary.planned b bean c s m known is i j) l k new)) (λ _. (λ w h g q. (g, (q, tt))))
    f_made n b bean (Kind.Producer p) known is l k new = f_produce n bean.scope p (λ x e. IsOrdinary.producer b bean p x known is e) k new

    -- ---- events

    pub f_fire : (class : Name) (qualifiers : List Use) (v : Value) → Fine w0 (fire class qualifiers v) Any
    f_fire class qualifiers v w h g r = (
      g,
      then w0 (each (t.observers class qualifiers) (λ group. call (Task.Notify group v))) _ (fine.f_each_in t w0 (t.observers class qualifiers) _ (λ group i. calls w0 (Task.Notify group v) (λ w h o j. IsOrdinary.observer class qualifiers group o i j))) (λ _. (λ w h g q. (g, (q, tt))))
          _ _ (fine.inv_entry (entries.Event class qualifiers) w g) (fine.rel_entry (entries.Event class qualifiers) w0 w g r),
    )

    f_deliver : (o : Observer) (v : Value) → IsOrdinary t o.member.code.place → Fine w0 (deliver o v) Any
    f_deliver o v ord =
        then w0 (bean_at o.bean) _ (f_bean t w0 o.bean) λ bean w h g r.
        fine.f_if t w0 (is_skipped w o bean) finish (handle (observe o v) (λ _. finish) (λ x. rethrow x built_in.ObserverException)) Any ((λ w h g q. (g, (q, tt))))
        (fine.caught t w0 (observe o v) _ _ Any Any (served w0 o.bean o.member (v ∷ []) ord) (λ _. (λ w h g q. (g, (q, tt)))) (λ x. fine.f_rethrow t w0 _ x built_in.ObserverException Any)) w h g r

    pub f_notify : (os : List Observer) (v : Value) → ((o : Observer) → IsIn o os → IsOrdinary t o.member.code.place) → Fine w0 (notify os v) Any
    f_notify [] v ord = (λ w h g q. (g, (q, tt)))
    f_notify (o ∷ os) v ord =
        then w0 (pick (o ∷ os)) _ (f_picked t w0 (o ∷ os)) λ i. fine.then_with t w0 (require_present (slice_get (o ∷ os) i)) _ (λ x u. slice_get (o ∷ os) i ≡ Some x) Any (fine.f_present_as t w0 (slice_get (o ∷ os) i)) λ x w h g r e.
        then w0 (deliver x v) (λ _. call (Task.Notify (remove (o ∷ os) i) v)) (f_deliver x v (ord x (in_got (o ∷ os) i x e))) (λ _. calls w0 (Task.Notify (remove (o ∷ os) i) v) (λ w h y z. ord y (in_removed y (o ∷ os) i z))) w h g r

    pub f_event : (what : BuiltIn) (c : Context) → Fine w0 (fire_context_event what c) Any
    f_event what c = let y = Task.Fire (number_of built_in.Object) (qualifier what c ∷ []) values.Null in fine.f_quietly t w0 (call y) (calls w0 y (λ w h. tt))

    pub f_container : (class : BuiltIn) → Fine w0 (fire_container_event class) Any
    f_container class = let y = Task.Fire (number_of class) [] values.Null in fine.f_quietly t w0 (call y) (calls w0 y (λ w h. tt))
