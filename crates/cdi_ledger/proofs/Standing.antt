-- Each program keeps where all stand.
use Rattle.std.proofs.Common.{ℕ, zero, suc, ◌≡◌, ◌<◌, List, [], ◌∷◌, ◌⊎◌, inl, inr, Option, Some, None, Bool, true, false, refl, sym, ap, ◌∙◌, subst, arith}
use Rattle.std.specs.Prelude.{length, option_map}
use Rattle.cdi_base.specs.declared.entry.Entry.TheVariants as entries
use Rattle.cdi_base.specs.declared.scope.Scope.{Scope}
use Rattle.cdi_base.specs.declared.scope.Scope.TheVariants as scopes
use Rattle.cdi_store.specs.declared.instance.Context.TheVariants.{Application, Session, Request}
use Rattle.cdi_ledger.specs.Ends.{Suits}
use Rattle.cdi_base.specs.declared.built_in.BuiltIn.TheVariants as built_in
use Rattle.cdi_base.specs.Maps.{at}
use Rattle.cdi_store.specs.declared.instance.Context.{Context}
use Rattle.cdi_contexts.specs.declared.context.Status.{Status}
use Rattle.cdi_contexts.specs.declared.context.Status.TheVariants.{Ending, Open}
use Rattle.cdi_contexts.specs.declared.context.Held.{Held}
use Rattle.cdi_contexts.specs.declared.context.Held.TheVariants.{Is, Making}
use Rattle.cdi_contexts.specs.Contexts.{Active, Environment, context_at, context_of}
use Rattle.cdi_store.specs.declared.instance.Instance.{Instance}
use Rattle.cdi_store.specs.declared.instance.Owner.{Owner}
use Rattle.cdi_store.specs.declared.instance.Owner.TheVariants as owners
use Rattle.cdi_store.specs.declared.instance.Phase.{Phase}
use Rattle.cdi_store.specs.declared.instance.Phase.TheVariants as phases
use Rattle.cdi_store.specs.declared.references.Reference.{Reference}
use Rattle.cdi_store.specs.declared.references.Reference.TheVariants.{Direct, Proxy}
use Rattle.cdi_store.specs.declared.references.Reference.TheVariants.{Empty as NoReference}
use Rattle.cdi_machine.specs.Words.{Asked}
use Rattle.cdi_machine.specs.Tables.{Tables, Bean, Resolution, One, Nothing, Many}
use Rattle.cdi_machine.specs.World.{World, Change, Invocation, instance_at, after_change, on_top}
use Rattle.cdi_machine.specs.Programs.{Task, Given, Completion, Prog, ret, throw, see, handle, require_present, require, call, complete, raise, alter, pick, active_or_raise, active_in, context, require_one, resolve, require_number, bean_at, interceptor_at, instance}
use Rattle.cdi_machine.specs.Contexts.{find_or_create, obtain, is_normal, direct_reference, refer_to, resolve_point, resolve_points, stays, require_living, reach_instance}
use Rattle.cdi_machine.specs.DestroyAct.{is_idle, is_made, destroy_idle, destroy_held, destroy_by}
use Rattle.cdi_machine.specs.Bodies.{provide, is_of, first_of, interceptor_of}
use Rattle.cdi_ledger.specs.Ledger.{Item}
use Rattle.cdi_ledger.specs.Whose.{IsIn}
use Rattle.cdi_ledger.proofs.Lists.{HasTop}
use Rattle.cdi_ledger.proofs.Holdings.{IsFree, AllHeld}
use Rattle.cdi_ledger.proofs.Cores.{Core, core_of, core_at, deps_at, core_same, deps_same}
use Rattle.cdi_ledger.proofs.Homes.{AreParameters, MayOwn, may_then, Inside, along_then, rel_inside, rel_self, grown_self, provisions, lower_provisions, OnStack, codes, IsStaying, Inv, Rel, Grown, HeldIn, targets, rel_then}
use Rattle.cdi_ledger.proofs.Spans.{Still}
use Rattle.cdi_ledger.proofs.Judge.{bind}
use Rattle.cdi_ledger.proofs.Fine.{stacked_inv}
use Rattle.cdi_ledger.proofs.Owed.{Ok, Pre, Post, AllReferTo, owned_then, IsUsable, RefersTo, IsOwned, IsMadeFor, AreMadeFor, IsSuited, IsNumbered, AreNumbered, Anchored, CanOwn, anchored_then}
use Rattle.cdi_ledger.proofs.Idle.{idle_is}
use Rattle.cdi_ledger.proofs.Fine as fine

-- an owner that isn't a context
abbrev pub CanHave : World → Owner → Type 0
CanHave w (owners.Context x) = ⊥
CanHave w (owners.Instance m) = Anchored w m
CanHave w owners.Borrower = HasTop w.temporaries

pub top_then : (k : ℕ) (ts us : List (List ℕ)) → Grown k ts us → HasTop ts → HasTop us
top_then k [] us q h = absurd h
top_then k (t ∷ ts) [] q h = absurd q
top_then k (t ∷ ts) (u ∷ us) q h = tt

pub have_then : (w v : World) (owner : Owner) → Rel w v → CanHave w owner → CanHave v owner
have_then w v (owners.Context x) r h = h
have_then w v (owners.Instance m) r h = anchored_then w v m r h
have_then w v owners.Borrower r h = top_then w.next w.temporaries v.temporaries r.lists h

no_context : (w : World) (owner : Owner) → CanHave w owner → (c : Context) → owner ≡ owners.Context c → ⊥
no_context w owner h c e = subst (CanHave w) e h

context_suits : (e : Environment) (s : Scope) (x : Context) → context_of e s ≡ Some x → Suits s (owners.Context x)
context_suits e scopes.ApplicationScoped x q = let p : Application ≡ x = cc in ap owners.Context (sym p)
context_suits e scopes.SessionScoped x q = by e.session q
  where
    by : (o : Option (List ℕ)) → option_map Session o ≡ Some x → Suits scopes.SessionScoped (owners.Context x)
    by None f = absurd (cc)
    by (Some s) f = (s, let p : Session s ≡ x = cc in ap owners.Context (sym p))
context_suits e scopes.RequestScoped x q = by e.request q
  where
    by : (o : Option (List ℕ)) → option_map Request o ≡ Some x → Suits scopes.RequestScoped (owners.Context x)
    by None f = absurd (cc)
    by (Some s) f = (s, let p : Request s ≡ x = cc in ap owners.Context (sym p))
context_suits e scopes.Dependent x q = absurd (cc)

pub own_of : (w : World) (b : ℕ) (owner : Owner) → CanHave w owner → CanOwn w b owner
own_of w b (owners.Context x) h = absurd h
own_of w b (owners.Instance m) h = h
own_of w b owners.Borrower h = h

pub below_then : (w v : World) (n : ℕ) → Rel w v → n < w.next → n < v.next
below_then w v n r l = let q = r.next in omega arith

pub live_below : (w : World) (g : Inv w) (n : ℕ) (o : Instance) → instance_at w n ≡ Some o → n < w.next
live_below w g n o e = g.below n (core_of o) (ap (option_map core_of) e)

-- a change of what an instance has inside
pub inside_still : (w : World) (n : ℕ) (f : Instance → Instance) → ((o : Instance) → core_of (f o) ≡ core_of o) → ((o : Instance) → (f o).dependents ≡ o.dependents) → Still w (record w { instances = Rattle.cdi_base.specs.Maps.adjusted n f w.instances })
inside_still w n f p q = record { next = refl; bodies = refl; targets = refl; members = refl; provisions = refl; temporaries = refl; core = λ k. core_same w.instances n f p k; deps = λ k. deps_same w.instances n f q k; contexts = λ c. refl }

top_targets : (f : Invocation → Invocation) → ((i : Invocation) → (f i).target ≡ i.target) → (vs : List Invocation) → targets (on_top f vs) ≡ targets vs
top_targets f q [] = refl
top_targets f q (v ∷ vs) = ap (λ z. z ∷ targets vs) (q v)

top_codes : (f : Invocation → Invocation) → ((i : Invocation) → (f i).members ≡ i.members) → (vs : List Invocation) → codes (on_top f vs) ≡ codes vs
top_codes f q [] = refl
top_codes f q (v ∷ vs) = ap (λ z. z ∷ codes vs) (q v)

top_provisions : (f : Invocation → Invocation) → ((i : Invocation) → (f i).target ≡ i.target) → ((i : Invocation) → (f i).references ≡ i.references) → (vs : List Invocation) → provisions (on_top f vs) ≡ provisions vs
top_provisions f q r [] = refl
top_provisions f q r (v ∷ vs) = ap (λ z. z ∷ provisions vs) (ap (λ z. (z, (f v).references)) (q v) ∙ ap (λ z. (v.target, z)) (r v))

pub invocation_still : (w : World) (f : Invocation → Invocation) → ((i : Invocation) → (f i).target ≡ i.target) → ((i : Invocation) → (f i).members ≡ i.members) → ((i : Invocation) → (f i).references ≡ i.references) → Still w (record w { invocations = on_top f w.invocations })
invocation_still w f q p r = record { next = refl; bodies = refl; targets = top_targets f q w.invocations; members = top_codes f p w.invocations; provisions = top_provisions f q r w.invocations; temporaries = refl; core = λ k. refl; deps = λ k. refl; contexts = λ c. refl }

module _ (t : Tables) where
  module _ (w0 : World) where
    abbrev pub Fine : {A : Type 0} → Prog A → (A → World → Type 0) → Type 0
    Fine p V = fine.Fine t w0 p V

    abbrev Goes : {A : Type 0} → Prog A → World → List Item → (A → World → Type 0) → Type 0
    Goes p w h V = fine.Doing t p w h (fine.Left w0 V)

    abbrev Any : {A : Type 0} → A → World → Type 0
    Any a w = Unit {0}

    then : {A B : Type 0} (p : Prog A) (f : A → Prog B) (U : B → World → Type 0) → Fine p Any → ((a : A) → Fine (f a) U) → Fine (handle p f throw) U
    then p f U d k = fine.then t w0 p f U d k

    then_with : {A B : Type 0} (p : Prog A) (f : A → Prog B) (V : A → World → Type 0) (U : B → World → Type 0) → Fine p V → ((a : A) (w : World) (h : List Item) → Inv w → Rel w0 w → V a w → Goes (f a) w h U) → Fine (handle p f throw) U
    then_with p f V U d k = fine.then_with t w0 p f V U d k

    pub f_bean : (b : ℕ) → Fine (bean_at b) Any
    f_bean b w h g r = fine.f_present t w0 (t.bean b) w h g r

    pub f_interceptor : (i : ℕ) → Fine (interceptor_at i) Any
    f_interceptor i w h g r = fine.f_present t w0 (t.interceptor i) w h g r

    pub f_instance : (n : ℕ) → Fine (instance n) Any
    f_instance n w h g r = fine.f_present t w0 (instance_at w n) w h g r

    f_one : (x : Resolution) → Fine (require_one x) Any
    f_one (One b) w h g r = (g, (r, tt))
    f_one Nothing w h g r = (g, (r, tt))
    f_one Many w h g r = (g, (r, tt))

    pub f_resolved : (asked : Asked) → Fine (resolve asked) Any
    f_resolved asked w h g r = f_one (t.resolve asked) w h g r

    pub f_picked : {X : Type 0} (xs : List X) → Fine (pick xs) Any
    f_picked [] w h g r = (g, (r, tt))
    f_picked (x ∷ []) w h g r = (g, (r, tt))
    f_picked (x ∷ y ∷ xs) w h g r = (g, λ i l. let e = entries.Pick (suc (suc (length xs))) i in (fine.inv_entry e w g, (fine.rel_entry e w0 w g r, tt)))

    -- ---- contexts

    held_at : (w : World) (g : Inv w) (x : Context) (a : Active) (b n : ℕ) → context_at w.contexts x ≡ Some a → at a.holds b ≡ Some (Is n) → HeldIn w x b n
    held_at w g x a b n e f = Rattle.cdi_ledger.proofs.Maps.all_at _ a.holds b (Is n) (subst (AllHeld (HeldIn w x)) e (g.held x)) f

    -- the bean is that of the tables
    pub f_known : (b : ℕ) → Fine (bean_at b) (λ x w. t.bean b ≡ Some x)
    f_known b w h g r = by (t.bean b) refl
      where
        by : (o : Option Bean) → t.bean b ≡ o → Goes (require_present o) w h (λ x w. t.bean b ≡ Some x)
        by None e = (g, (r, tt))
        by (Some x) e = (g, (r, e))

    suited : (b : ℕ) (x : Bean) (owner : Owner) → t.bean b ≡ Some x → Suits x.scope owner → IsSuited t b owner
    suited b x owner e s y f = let q : Some x ≡ Some y = sym e ∙ f in let p : x ≡ y = cc in subst (λ z. Suits z.scope owner) p s

    pub f_obtain : (b : ℕ) → Fine (obtain b) IsNumbered
    f_obtain b = then_with (bean_at b) _ (λ x w. t.bean b ≡ Some x) IsNumbered (f_known b) (λ bean w h g r v. by w h g r bean v (context_of w.environment bean.scope) refl)
      where
        found : (w : World) (h : List Item) → Inv w → Rel w0 w → (x : Context) (a : Active) → IsSuited t b (owners.Context x) → context_at w.contexts x ≡ Some a → (o : Option Held) → at a.holds b ≡ o → Goes (find_or_create b (record { context = x; has = a }) o) w h IsNumbered
        found w h g r x a u e (Some (Is n)) f = (g, (r, (_, held_at w g x a b n e f, tt)))
        found w h g r x a u e (Some Making) f = (g, (r, tt))
        found w h g r x a u e None f = over a.status
          where
            after : (c : Completion Given) (w1 : World) (h1 : List Item) → Inv w1 → Rel w w1 × AreMadeFor (owners.Context x) c w1 → Goes (complete c) w1 h1 IsNumbered
            after (Completion.Gave (Given.Number n)) w1 h1 g1 p = (g1, (rel_then w0 w w1 r p.0, ((p.1).0, (p.1).1, subst IsStaying (sym (p.1).3) tt)))
            after (Completion.Gave (Given.Result v)) w1 h1 g1 p = (g1, (rel_then w0 w w1 r p.0, tt))
            after (Completion.Gave Given.Empty) w1 h1 g1 p = (g1, (rel_then w0 w w1 r p.0, tt))
            after (Completion.Threw y) w1 h1 g1 p = (g1, (rel_then w0 w w1 r p.0, tt))

            over : (s : Status) → Goes (elim s as (λ _. Prog Given) [ Open ↦ call (Task.Create b (owners.Context x)) | Ending ↦ raise built_in.ContextNotActiveException ]) w h IsNumbered
            over Open = (g, (subst (λ z. IsFree z b) (sym e) f, u), after)
            over Ending = (g, (r, tt))

        by : (w : World) (h : List Item) → Inv w → Rel w0 w → (bean : Bean) → t.bean b ≡ Some bean → (o : Option Context) → context_of w.environment bean.scope ≡ o → Goes (handle (active_or_raise (active_in w o)) (λ c. find_or_create b c (at c.has.holds b)) throw) w h IsNumbered
        by w h g r bean v None y = (g, (r, tt))
        by w h g r bean v (Some x) y = over (context_at w.contexts x) refl
          where
            over : (o : Option Active) → context_at w.contexts x ≡ o → Goes (handle (active_or_raise (option_map (λ a. record { context = x; has = a }) o)) (λ c. find_or_create b c (at c.has.holds b)) throw) w h IsNumbered
            over None e = (g, (r, tt))
            over (Some a) e = found w h g r x a (suited b bean (owners.Context x) v (context_suits w.environment bean.scope x y)) e (at a.holds b) refl

    weaker : {A : Type 0} (p : Prog A) (V : A → World → Type 0) → Fine p V → Fine p Any
    weaker p V d w h g r = fine.loosen t p w h (fine.Left w0 V) (fine.Left w0 Any) (d w h g r) (λ c u k gu q. (q.0, any c u))
      where
        any : {A : Type 0} (c : Completion A) (u : World) → fine.OnGave {A = A} Any c u
        any (Completion.Gave a) u = tt
        any (Completion.Threw x) u = tt

    owned_one : (owner : Owner) (n : ℕ) (w : World) → Inv w → IsMadeFor owner (Given.Number n) w → IsOwned owner n w
    owned_one owner n w g p = (g.below n p.0 p.1, λ c e. (let q : Some p.0 ≡ Some c = sym p.1 ∙ e in let y : p.0 ≡ c = cc in ap (λ (z : Core). z.owner) (sym y) ∙ p.2))

    refers : (owner : Owner) (a : Given) (w : World) → Inv w → IsMadeFor owner a w → RefersTo owner (direct_reference a) w
    refers owner (Given.Number n) w g p m e = let y : n ≡ m = cc in subst (λ z. IsOwned owner z w) y (owned_one owner n w g p)
    refers owner (Given.Result v) w g p m e = absurd (cc)
    refers owner Given.Empty w g p m e = absurd (cc)

    pub f_referring : (b : ℕ) (owner : Owner) → CanHave w0 owner → Fine (refer_to b owner) (RefersTo owner)
    f_referring b owner k = then_with (bean_at b) _ (λ x w. t.bean b ≡ Some x) (RefersTo owner) (f_known b) (λ bean w h g r v. by bean.scope w h g r bean v refl)
      where
        made : (w : World) (h : List Item) → Inv w → Rel w0 w → IsSuited t b owner → Goes (handle (call (Task.Create b owner)) (λ made. ret (direct_reference made)) throw) w h (RefersTo owner)
        made w h g r u = (g, (own_of w b owner (have_then w0 w owner r k), u), after)
          where
            after : (c : Completion Given) (w1 : World) (h1 : List Item) → Inv w1 → Rel w w1 × AreMadeFor owner c w1 → Goes (handle (complete c) (λ made. ret (direct_reference made)) throw) w1 h1 (RefersTo owner)
            after (Completion.Gave a) w1 h1 g1 p = (g1, (rel_then w0 w w1 r p.0, refers owner a w1 g1 p.1))
            after (Completion.Threw x) w1 h1 g1 p = (g1, (rel_then w0 w w1 r p.0, tt))

        by : (s : Scope) (w : World) (h : List Item) → Inv w → Rel w0 w → (bean : Bean) → t.bean b ≡ Some bean → bean.scope ≡ s → Goes (elim (is_normal s) as (λ _. Prog Reference) [ true ↦ ret (Proxy b) | false ↦ handle (call (Task.Create b owner)) (λ made. ret (direct_reference made)) throw ]) w h (RefersTo owner)
        by scopes.ApplicationScoped w h g r bean v e = (g, (r, λ m q. absurd (cc)))
        by scopes.SessionScoped w h g r bean v e = (g, (r, λ m q. absurd (cc)))
        by scopes.RequestScoped w h g r bean v e = (g, (r, λ m q. absurd (cc)))
        by scopes.Dependent w h g r bean v e = made w h g r (suited b bean owner v (subst (λ z. Suits z owner) (sym e) (no_context w0 owner k)))

    pub f_reference : (b : ℕ) (owner : Owner) → CanHave w0 owner → Fine (refer_to b owner) Any
    f_reference b owner k = weaker (refer_to b owner) (RefersTo owner) (f_referring b owner k)

    pub f_pointing : (point : Asked) (owner : Owner) → CanHave w0 owner → Fine (resolve_point point owner) (RefersTo owner)
    f_pointing point owner k = then (resolve point) _ (RefersTo owner) (f_resolved point) (λ b. f_referring b owner k)

    pub f_injected : (point : Asked) (owner : Owner) → CanHave w0 owner → Fine (resolve_point point owner) Any
    f_injected point owner k = then (resolve point) _ Any (f_resolved point) (λ b. f_reference b owner k)

    pub f_living : (n : ℕ) → Fine (require_living n) (λ n u. IsUsable n u)
    f_living n w h g r = by (instance_at w n) refl
      where
        over : (o : Instance) → instance_at w n ≡ Some o → (p : Phase) → o.phase ≡ p → Goes (handle (require (elim p as (λ _. Bool) [ phases.New ↦ true | phases.Ready ↦ true | phases.Leaving ↦ false ]) built_in.IllegalStateException) (λ _. ret n) throw) w h (λ n u. IsUsable n u)
        over o e phases.New q = (g, (r, (core_of o, ap (option_map core_of) e, subst IsStaying (sym q) tt)))
        over o e phases.Ready q = (g, (r, (core_of o, ap (option_map core_of) e, subst IsStaying (sym q) tt)))
        over o e phases.Leaving q = (g, (r, tt))

        by : (o : Option Instance) → instance_at w n ≡ o → Goes (handle (require (stays o) built_in.IllegalStateException) (λ _. ret n) throw) w h (λ n u. IsUsable n u)
        by None e = (g, (r, tt))
        by (Some o) e = over o e o.phase refl

    pub f_use : (x : Reference) → Fine (reach_instance x) (λ n u. IsUsable n u)
    f_use NoReference w h g r = (g, (r, tt))
    f_use (Direct n) w h g r = f_living n w h g r
    f_use (Proxy b) w h g r = (g, tt, by)
      where
        numbered : (a : Given) (w1 : World) (h1 : List Item) → Inv w1 → Rel w0 w1 → IsNumbered a w1 → Goes (require_number a) w1 h1 (λ n u. IsUsable n u)
        numbered (Given.Number n) w1 h1 g1 q l = (g1, (q, l))
        numbered (Given.Result v) w1 h1 g1 q l = (g1, (q, tt))
        numbered Given.Empty w1 h1 g1 q l = (g1, (q, tt))

        by : (c : Completion Given) (w1 : World) (h1 : List Item) → Inv w1 → Rel w w1 × AreNumbered c w1 → Goes (handle (complete c) require_number throw) w1 h1 (λ n u. IsUsable n u)
        by (Completion.Gave a) w1 h1 g1 p = numbered a w1 h1 g1 (rel_then w0 w w1 r p.0) p.1
        by (Completion.Threw x) w1 h1 g1 p = (g1, (rel_then w0 w w1 r p.0, tt))

    -- ---- the destroy act

    f_idle : (n : ℕ) (w : World) (h : List Item) → Inv w → Rel w0 w → (c : Core) → core_at n w.instances ≡ Some c → c.phase ≡ phases.Ready → Goes (destroy_idle n) w h Any
    f_idle n w h g r c e ready = by (is_idle w n) refl
      where
        by : (b : Bool) → is_idle w n ≡ b → Goes (handle (require b built_in.IllegalStateException) (λ _. call (Task.Destroy n)) throw) w h Any
        by true f = fine.calling t w0 (Task.Destroy n) w h g r (c, e, ready, idle_is w g n f)
        by false f = (g, (r, tt))

    pub f_destroy_by : (x : Reference) → Fine (destroy_by x) Any
    f_destroy_by NoReference w h g r = (g, (r, tt))
    f_destroy_by (Direct n) w h g r = by (instance_at w n) refl
      where
        over : (o : Instance) → instance_at w n ≡ Some o → (p : Phase) → o.phase ≡ p → Goes (handle (require (elim p as (λ _. Bool) [ phases.New ↦ false | phases.Ready ↦ true | phases.Leaving ↦ false ]) built_in.IllegalStateException) (λ _. destroy_idle n) throw) w h Any
        over o e phases.New p = (g, (r, tt))
        over o e phases.Ready p = f_idle n w h g r (core_of o) (ap (option_map core_of) e) p
        over o e phases.Leaving p = (g, (r, tt))

        by : (o : Option Instance) → instance_at w n ≡ o → Goes (handle (require (is_made o) built_in.IllegalStateException) (λ _. destroy_idle n) throw) w h Any
        by None e = (g, (r, tt))
        by (Some o) e = over o e o.phase refl
    f_destroy_by (Proxy b) w h g r = then_with (bean_at b) (λ bean. handle (context bean.scope) (λ c. destroy_held (at c.has.holds b)) throw) Any Any (f_bean b) (λ bean w h g r v. by w h g r (context_of w.environment bean.scope)) w h g r
      where
        held : (w : World) (h : List Item) → Inv w → Rel w0 w → (x : Context) (a : Active) → context_at w.contexts x ≡ Some a → (o : Option Held) → at a.holds b ≡ o → Goes (destroy_held o) w h Any
        held w h g r x a e None f = (g, (r, tt))
        held w h g r x a e (Some Making) f = (g, (r, tt))
        held w h g r x a e (Some (Is n)) f = f_idle n w h g r _ (held_at w g x a b n e f) refl

        by : (w : World) (h : List Item) → Inv w → Rel w0 w → (o : Option Context) → Goes (handle (active_or_raise (active_in w o)) (λ c. destroy_held (at c.has.holds b)) throw) w h Any
        by w h g r None = (g, (r, tt))
        by w h g r (Some x) = over (context_at w.contexts x) refl
          where
            over : (o : Option Active) → context_at w.contexts x ≡ o → Goes (handle (active_or_raise (option_map (λ a. record { context = x; has = a }) o)) (λ c. destroy_held (at c.has.holds b)) throw) w h Any
            over None e = (g, (r, tt))
            over (Some a) e = held w h g r x a e (at a.holds b) refl

    first_of_usable : (i : ℕ) (w : World) (h : List Item) → Inv w → Rel w0 w → (ns : List ℕ) → ((k : ℕ) → IsIn k ns → IsUsable k w) → Goes (first_of w i ns) w h (λ n u. IsUsable n u)
    first_of_usable i w h g r [] f = (g, (r, tt))
    first_of_usable i w h g r (n ∷ ns) f = by (is_of i (instance_at w n)) (first_of_usable i w h g r ns (λ k z. f k (inr z)))
      where
        by : (b : Bool) → Goes (first_of w i ns) w h (λ n u. IsUsable n u) → Goes (elim b as (λ _. Prog ℕ) [ true ↦ ret n | false ↦ first_of w i ns ]) w h (λ n u. IsUsable n u)
        by true d = (g, (r, f n (inl refl)))
        by false d = d

    -- an instance's instance of an interceptor is ready
    pub f_interceptor_of : (n i : ℕ) → Fine (interceptor_of n i) (λ n u. IsUsable n u)
    f_interceptor_of n i w h g r = by (instance_at w n) refl
      where
        by : (o : Option Instance) → instance_at w n ≡ o → Goes (handle (require_present o) (λ o. see (λ t w. first_of w i o.dependents)) throw) w h (λ n u. IsUsable n u)
        by None e = (g, (r, tt))
        by (Some o) e = first_of_usable i w h g r o.dependents (λ k z. (let q = g.depends n k (subst (IsIn k) (sym (ap Rattle.cdi_ledger.proofs.Cores.list_of e)) z) in (_, q.1, tt)))

  -- ---- parameters

  with_first : (owner : Owner) (x : Reference) (xs : List Reference) (w v : World) → Rel w v → RefersTo owner x w → AllReferTo owner xs v → AllReferTo owner (x ∷ xs) v
  with_first owner x xs w v r a b zero m e = owned_then owner m w v r (a m (let y : x ≡ Direct m = cc in y))
  with_first owner x xs w v r a b (suc k) m e = b k m e

  -- what several points get is the owner's
  pub all_injected : (points : List Asked) (owner : Owner) (w : World) (h : List Item) → Inv w → CanHave w owner → fine.Doing t (resolve_points points owner) w h (fine.Left w (AllReferTo owner))
  all_injected [] owner w h g k = (g, (rel_self w g, λ k m e. absurd (cc)))
  all_injected (point ∷ points) owner w h g k =
      bind t (Ok t) fine.G (Pre t) Post (resolve_point point owner) (λ x. handle (resolve_points points owner) (λ xs. ret (x ∷ xs)) throw) throw w h (fine.Left w (RefersTo owner)) (fine.Left w (AllReferTo owner))
      (f_pointing w point owner k w h g (rel_self w g))
      (λ x w1 h1 g1 q. bind t (Ok t) fine.G (Pre t) Post (resolve_points points owner) (λ xs. ret (x ∷ xs)) throw w1 h1 (fine.Left w1 (AllReferTo owner)) (fine.Left w (AllReferTo owner))
      (all_injected points owner w1 h1 g1 (have_then w w1 owner q.0 k))
      (λ xs w2 h2 g2 p. (g2, (rel_then w w1 w2 q.0 p.0, with_first owner x xs w1 w2 p.0 q.1 p.1)))
      (λ y w2 h2 g2 p. (g2, (rel_then w w1 w2 q.0 p.0, tt))))
      (λ y w1 h1 g1 q. (g1, (q.0, tt)))

  -- the innermost invocation gets them
  module _ (rs : List Reference) where
    given_top : (vs : List Invocation) (n : ℕ) (ts : List ℕ) → targets vs ≡ n ∷ ts → (m : ℕ) (xs : List Reference) → IsIn (m, xs) (provisions (on_top (λ (i : Invocation). record i { references = rs }) vs)) → (◌≡◌ {A = ℕ × List Reference} (n, rs) (m, xs)) ⊎ IsIn (m, xs) (provisions vs)
    given_top [] n ts e m xs i = absurd i
    given_top (v ∷ vs) n ts e m xs (inl z) = inl (let y : v.target ≡ n = cc in subst (λ a. ◌≡◌ {A = ℕ × List Reference} (a, rs) (m, xs)) y z)
    given_top (v ∷ vs) n ts e m xs (inr z) = inr (inr z)

    same_below : (vs : List Invocation) → lower_provisions (on_top (λ (i : Invocation). record i { references = rs }) vs) ≡ lower_provisions vs
    same_below [] = refl
    same_below (v ∷ vs) = refl

    inside_given : (w : World) → Inv w → Inside w (after_change (Change.Provide rs) w)
    inside_given w g = record {
      next = omega arith;
      bodies = refl;
      targets = top_targets (λ (i : Invocation). record i { references = rs }) (λ i. refl) w.invocations;
      members = top_codes (λ (i : Invocation). record i { references = rs }) (λ i. refl) w.invocations;
      provisions = same_below w.invocations;
      lists = grown_self w.next w.temporaries;
      old = λ k c l e. e;
      new = λ k c l e. (let b = g.below k c e in absurd (omega arith));
      stay = λ k c e f. e;
      making = λ c b h. h;
      absent = λ c e. e;
    }

    given_inv : (w : World) (n : ℕ) (ts : List ℕ) (owner : Owner) → Inv w → targets w.invocations ≡ n ∷ ts → AllReferTo owner rs w → MayOwn n owner w → Inv (after_change (Change.Provide rs) w)
    given_inv w n ts owner g e all may = stacked_inv t w (after_change (Change.Provide rs) w) (record { next = refl; temporaries = refl; core = λ k. refl; deps = λ k. refl; contexts = λ c. refl; stack = λ b z. g.stack b (on b z); provided = provided }) g
      where
        on : (b : ℕ) → OnStack (after_change (Change.Provide rs) w) b → OnStack w b
        on b (inl z) = inl z
        on b (inr z) = inr (subst (IsIn b) (top_targets (λ (i : Invocation). record i { references = rs }) (λ i. refl) w.invocations) z)

        owned : AreParameters n rs w
        owned k m q = let o = all k m q in (o.0, λ c f. subst (λ z. MayOwn n z w) (sym (o.1 c f)) may)

        provided : (m : ℕ) (xs : List Reference) → IsIn (m, xs) (provisions (after_change (Change.Provide rs) w).invocations) → AreParameters m xs w
        provided m xs i = elim (given_top w.invocations n ts e m xs i) [
          | inl z ↦ subst (λ y. AreParameters y.0 y.1 w) z owned
          | inr z ↦ g.provided m xs z
        ]

  pub providing : (n : ℕ) (ts : List ℕ) (points : List Asked) (owner : Owner) (w : World) (h : List Item) → Inv w → targets w.invocations ≡ n ∷ ts → CanHave w owner → MayOwn n owner w → fine.Doing t (provide points owner) w h (fine.Bracketed w)
  providing n ts points owner w h g e k may =
      bind t (Ok t) fine.G (Pre t) Post (resolve_points points owner) (λ rs. alter (Change.Provide rs)) throw w h (fine.Left w (AllReferTo owner)) (fine.Bracketed w) (all_injected points owner w h g k)
      (λ rs w1 h1 g1 q. (given_inv rs w1 n ts owner g1 (q.0.targets ∙ e) q.1 (may_then w w1 n owner q.0 may), (along_then w w1 (after_change (Change.Provide rs) w1) (rel_inside w w1 q.0) (inside_given rs w1 g1), tt)))
      (λ y w1 h1 g1 q. (g1, (rel_inside w w1 q.0, tt)))
