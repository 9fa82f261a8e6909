-- Programs that keep where all stand, told by the world that they began with.
use Rattle.std.proofs.Common.{ℕ, ◌≡◌, ◌<◌, List, [], ◌∷◌, ◌⊎◌, inl, inr, Option, Some, None, Bool, true, false, refl, sym, subst, arith}
use Rattle.cdi_base.specs.declared.entry.Entry.{Entry}
use Rattle.cdi_base.specs.declared.value.Value.{Value}
use Rattle.cdi_base.specs.declared.built_in.BuiltIn.{BuiltIn}
use Rattle.cdi_base.specs.declared.place.InterceptorMethod.{InterceptorMethod}
use Rattle.cdi_store.specs.declared.instance.Component.{Component}
use Rattle.cdi_store.specs.declared.instance.Context.{Context}
use Rattle.cdi_store.specs.declared.instance.Owner.{Owner}
use Rattle.cdi_store.specs.declared.instance.Owner.TheVariants as owners
use Rattle.cdi_contexts.specs.Contexts.{context_at}
use Rattle.cdi_machine.specs.Words.{Name}
use Rattle.cdi_machine.specs.Tables.{Tables, Code}
use Rattle.cdi_machine.specs.World.{World, Change, Invocation, after_change, with_entry, below}
use Rattle.cdi_machine.specs.Programs.{Task, Given, Completion, Gave, Threw, Prog, ret, throw, cut, miss, see, handle, require_present, expect, require, raise, alter, call, complete, quietly, each, do_nothing, rethrow, top}
use Rattle.cdi_machine.specs.Bodies.{invoke_by, invocation_at_start}
use Rattle.cdi_ledger.specs.Ledger.{Item, Wrote, Between, with_birth}
use Rattle.cdi_ledger.specs.Whose.{IsIn}
use Rattle.cdi_ledger.proofs.Holdings.{IsMaking}
use Rattle.cdi_ledger.proofs.Cores.{Core, core_at, deps_at}
use Rattle.cdi_store.specs.declared.references.Reference.{Reference}
use Rattle.cdi_ledger.proofs.Homes.{Along, AreParameters, Inside, along_then, rel_inside, parameters_same, no_parameters, provisions, lower_provisions, codes, Inv, Rel, Grown, Placed, HeldIn, IsReadyOf, OnStack, Busy, IsFixed, targets, rel_self, rel_then, was_busy}
use Rattle.cdi_ledger.proofs.Spans.{Still, inv_still, rel_still}
use Rattle.cdi_ledger.proofs.Judge.{Does, bind, guard_map, guard_none, note_map, NoGuard}
use Rattle.cdi_ledger.proofs.Owed.{Ok, MayEnter, EntersSo, Pre, Post, post_rel}

abbrev pub G : World → List Item → Type 0
G w h = Inv w

abbrev pub Any : {A : Type 0} → A → World → Type 0
Any a w = Unit {0}

abbrev pub OnGave : {A : Type 0} → (A → World → Type 0) → Completion A → World → Type 0
OnGave V (Gave a) w = V a w
OnGave V (Threw x) w = Unit {0}

abbrev pub Left : {A : Type 0} → World → (A → World → Type 0) → Completion A → World → List Item → Type 0
Left w0 V c w h = Rel w0 w × OnGave V c w

-- as it is left inside an invocation
abbrev pub Bracketed : {A : Type 0} → World → Completion A → World → List Item → Type 0
Bracketed w0 c w h = Inside w0 w × Unit {0}

abbrev pub Silent : {A : Type 0} → World → Completion A → World → List Item → Type 0
Silent w0 (Gave a) w h = Rel w0 w × Unit {0}
Silent w0 (Threw x) w h = ⊥

-- ---- an entry

pub entry_still : (e : Entry) (w : World) → Still w (with_entry e w)
entry_still e w = record { next = refl; bodies = refl; targets = refl; members = refl; provisions = refl; temporaries = refl; core = λ k. refl; deps = λ k. refl; contexts = λ c. refl }

pub inv_entry : (e : Entry) (w : World) → Inv w → Inv (with_entry e w)
inv_entry e w g = inv_still w (with_entry e w) (entry_still e w) g

pub rel_entry : (e : Entry) (w0 w : World) → Inv w → Rel w0 w → Rel w0 (with_entry e w)
rel_entry e w0 w g r = rel_then w0 w (with_entry e w) r (rel_still w (with_entry e w) (entry_still e w) g)

abbrev pub Looks : {A : Type 0} → Prog A → Type 0
Looks (ret a) = Unit {0}
Looks (throw x) = Unit {0}
Looks (cut cause) = Unit {0}
Looks (miss p) = Looks p
Looks (see k) = (t : Tables) (w : World) → Looks (k t w)
Looks _ = ⊥

pub looks_handle : {A B : Type 0} (p : Prog A) (f : A → Prog B) (g : Name → Prog B) → Looks p → ((a : A) → Looks (f a)) → ((x : Name) → Looks (g x)) → Looks (handle p f g)
looks_handle (ret a) f g q qf qg = qf a
looks_handle (throw x) f g q qf qg = qg x
looks_handle (cut cause) f g q qf qg = tt
looks_handle (miss p) f g q qf qg = looks_handle p f g q qf qg
looks_handle (see k) f g q qf qg = λ t w. looks_handle (k t w) f g (q t w) qf qg
looks_handle (Prog.change x p) f g q qf qg = absurd q
looks_handle (Prog.tick e p) f g q qf qg = absurd q
looks_handle (Prog.mark n p) f g q qf qg = absurd q
looks_handle (Prog.act b fields view k) f g q qf qg = absurd q
looks_handle (Prog.choose n k) f g q qf qg = absurd q
looks_handle (Prog.nested t k) f g q qf qg = absurd q

pub looks_present : {A : Type 0} (o : Option A) → Looks (require_present o)
looks_present None = tt
looks_present (Some a) = tt

module _ (tables : Tables) where
  abbrev pub Doing : {A : Type 0} → Prog A → World → List Item → (Completion A → World → List Item → Type 0) → Type 0
  Doing p w h Q = Does tables (Ok tables) G (Pre tables) Post p w h Q

  -- what is wanted less
  pub loosen : {A : Type 0} (p : Prog A) (w : World) (h : List Item) (R Q : Completion A → World → List Item → Type 0) → Doing p w h R → ((c : Completion A) (u : World) (k : List Item) → Inv u → R c u k → Q c u k) → Doing p w h Q
  loosen (ret a) w h R Q d f = (d.0, f (Gave a) w h d.0 d.1)
  loosen (throw x) w h R Q d f = (d.0, f (Threw x) w h d.0 d.1)
  loosen (cut cause) w h R Q d f = d
  loosen (miss p) w h R Q d f = loosen p w h R Q d f
  loosen (see k) w h R Q d f = loosen (k tables w) w h R Q d f
  loosen (Prog.change x p) w h R Q d f = guard_map (Ok tables) x w h (λ y. loosen p (after_change x w) (with_birth x w h) R Q y f) d
  loosen (Prog.tick e p) w h R Q d f = (d.0, note_map (Ok tables) e w h (λ y. loosen p (with_entry e w) (Wrote e ∷ h) R Q y f) d.1)
  loosen (Prog.mark n p) w h R Q d f = loosen p w (Between n ∷ h) R Q d f
  loosen (Prog.act b fields view k) w h R Q d f = (d.0, λ a. loosen (k a) _ _ R Q (d.1 a) f)
  loosen (Prog.choose n k) w h R Q d f = (d.0, λ i l. loosen (k i) _ _ R Q (d.1 i l) f)
  loosen (Prog.nested t k) w h R Q d f = (d.0, d.1, λ c u j g q. loosen (k c) u j R Q (d.2 c u j g q) f)

  -- from another world, which came from this one
  pub rebased : {A : Type 0} (w0 w : World) (p : Prog A) (h : List Item) (V : A → World → Type 0) → Rel w0 w → Doing p w h (Left w V) → Doing p w h (Left w0 V)
  rebased w0 w p h V r d = loosen p w h (Left w V) (Left w0 V) d (λ c u k g q. (rel_then w0 w u r q.0, q.1))

  module _ (w0 : World) where
    -- begun in a world that comes from w0 it ends in one that comes from w0
    abbrev pub Fine : {A : Type 0} → Prog A → (A → World → Type 0) → Type 0
    Fine p V = (w : World) (h : List Item) → Inv w → Rel w0 w → Doing p w h (Left w0 V)

    pub ok : {A : Type 0} (a : A) → Fine (ret a) Any
    ok a w h g r = (g, (r, tt))

    pub throws : {A : Type 0} (x : Name) (V : A → World → Type 0) → Fine (throw x) V
    throws x V w h g r = (g, (r, tt))

    pub then_with : {A B : Type 0} (p : Prog A) (f : A → Prog B) (V : A → World → Type 0) (U : B → World → Type 0) → Fine p V → ((a : A) (w : World) (h : List Item) → Inv w → Rel w0 w → V a w → Doing (f a) w h (Left w0 U)) → Fine (handle p f throw) U
    then_with p f V U d k w h g r = bind tables (Ok tables) G (Pre tables) Post p f throw w h (Left w0 V) (Left w0 U) (d w h g r) (λ a w1 h1 g1 q. k a w1 h1 g1 q.0 q.1) (λ x w1 h1 g1 q. (g1, (q.0, tt)))

    pub then : {A B : Type 0} (p : Prog A) (f : A → Prog B) (U : B → World → Type 0) → Fine p Any → ((a : A) → Fine (f a) U) → Fine (handle p f throw) U
    then p f U d k = then_with p f Any U d (λ a w h g r v. k a w h g r)

    pub caught : {A B : Type 0} (p : Prog A) (f : A → Prog B) (g : Name → Prog B) (V : A → World → Type 0) (U : B → World → Type 0) → Fine p V → ((a : A) → Fine (f a) U) → ((x : Name) → Fine (g x) U) → Fine (handle p f g) U
    caught p f k V U d kf kg w h g r = bind tables (Ok tables) G (Pre tables) Post p f k w h (Left w0 V) (Left w0 U) (d w h g r) (λ a w1 h1 g1 q. kf a w1 h1 g1 q.0) (λ x w1 h1 g1 q. kg x w1 h1 g1 q.0)

    pub f_if : {A : Type 0} (c : Bool) (p q : Prog A) (V : A → World → Type 0) → Fine p V → Fine q V → Fine (elim c as (λ _. Prog A) [ true ↦ p | false ↦ q ]) V
    f_if true p q V a b = a
    f_if false p q V a b = b

    pub f_present : {A : Type 0} (o : Option A) → Fine (require_present o) Any
    f_present None w h g r = (g, (r, tt))
    f_present (Some a) w h g r = (g, (r, tt))

    -- a program that looks, and changes nothing
    pub f_looks : {A : Type 0} (p : Prog A) (V : World → Type 0) (w : World) (h : List Item) → Looks p → Inv w → Rel w0 w → V w → Doing p w h (Left w0 (λ a u. V u))
    f_looks (ret a) V w h q g r v = (g, (r, v))
    f_looks (throw x) V w h q g r v = (g, (r, tt))
    f_looks (cut cause) V w h q g r v = g
    f_looks (miss p) V w h q g r v = f_looks p V w h q g r v
    f_looks (see k) V w h q g r v = f_looks (k tables w) V w h (q tables w) g r v
    f_looks (Prog.change x p) V w h q g r v = absurd q
    f_looks (Prog.tick e p) V w h q g r v = absurd q
    f_looks (Prog.mark n p) V w h q g r v = absurd q
    f_looks (Prog.act b fields view k) V w h q g r v = absurd q
    f_looks (Prog.choose n k) V w h q g r v = absurd q
    f_looks (Prog.nested t k) V w h q g r v = absurd q

    pub f_expect : (b : Bool) → Fine (expect b) Any
    f_expect true w h g r = (g, (r, tt))
    f_expect false w h g r = (g, (r, tt))

    pub f_require : (b : Bool) (x : BuiltIn) → Fine (require b x) Any
    f_require true x w h g r = (g, (r, tt))
    f_require false x w h g r = (g, (r, tt))

    pub f_top : {X : Type 0} (xs : List X) → Fine (top xs) Any
    f_top [] w h g r = (g, (r, tt))
    f_top (x ∷ xs) w h g r = (g, (r, tt))

    pub f_rethrow : (A : Type 0) (x : Name) (b : BuiltIn) (V : A → World → Type 0) → Fine (rethrow {A = A} x b) V
    f_rethrow A x b V w h g r = f_if (tables.is_checked x) (raise b) (throw x) V (λ w h g r. (g, (r, tt))) (λ w h g r. (g, (r, tt))) w h g r

    -- a call, once what it asks for is there
    pub calling : (t : Task) (w : World) (h : List Item) → Inv w → Rel w0 w → Pre tables t w h → Doing (call t) w h (Left w0 Any)
    calling t w h g r pre = (g, pre, by)
      where
        by : (c : Completion Given) (w1 : World) (h1 : List Item) → Inv w1 → Post t w h c w1 h1 → Doing (complete c) w1 h1 (Left w0 Any)
        by (Gave a) w1 h1 g1 p = (g1, (rel_then w0 w w1 r (post_rel t w w1 h h1 (Gave a) p), tt))
        by (Threw x) w1 h1 g1 p = (g1, (rel_then w0 w w1 r (post_rel t w w1 h h1 (Threw x) p), tt))

    pub f_call : (t : Task) → ((w : World) (h : List Item) → Inv w → Rel w0 w → Pre tables t w h) → Fine (call t) Any
    f_call t pre w h g r = calling t w h g r (pre w h g r)

    pub f_each : {X : Type 0} (xs : List X) (f : X → Prog Given) → ((x : X) → Fine (f x) Any) → Fine (each xs f) Any
    f_each [] f q w h g r = (g, (r, tt))
    f_each (x ∷ []) f q w h g r = q x w h g r
    f_each (x ∷ y ∷ xs) f q w h g r = then (f x) (λ _. each (y ∷ xs) f) Any (q x) (λ _. f_each (y ∷ xs) f q) w h g r

    -- also if it is told of which they are
    pub f_each_in : {X : Type 0} (xs : List X) (f : X → Prog Given) → ((x : X) → IsIn x xs → Fine (f x) Any) → Fine (each xs f) Any
    f_each_in [] f q w h g r = (g, (r, tt))
    f_each_in (x ∷ []) f q w h g r = q x (inl refl) w h g r
    f_each_in (x ∷ y ∷ xs) f q w h g r = then (f x) (λ _. each (y ∷ xs) f) Any (q x (inl refl)) (λ _. f_each_in (y ∷ xs) f (λ z i. q z (inr i))) w h g r

    -- what is there is told
    pub f_present_as : {A : Type 0} (o : Option A) → Fine (require_present o) (λ a w. o ≡ Some a)
    f_present_as None w h g r = (g, (r, tt))
    f_present_as (Some a) w h g r = (g, (r, refl))

    pub f_quietly : (p : Prog Given) → Fine p Any → Fine (quietly p) Any
    f_quietly p d = caught p (λ _. do_nothing) (λ _. do_nothing) Any Any d (λ _ w h g r. (g, (r, tt))) (λ _ w h g r. (g, (r, tt)))

    -- and it throws nothing
    pub f_silent : (p : Prog Given) (w : World) (h : List Item) → Doing p w h (Left w0 Any) → Doing (quietly p) w h (Silent w0)
    f_silent p w h d = bind tables (Ok tables) G (Pre tables) Post p (λ _. do_nothing) (λ _. do_nothing) w h (Left w0 Any) (Silent w0) d (λ a w1 h1 g1 q. (g1, (q.0, tt))) (λ x w1 h1 g1 q. (g1, (q.0, tt)))

    -- a change in which nobody moves
    pub f_alter : (g : Change) → NoGuard g → ((w : World) → Still w (after_change g w)) → Fine (alter g) Any
    f_alter x q s w h g r = guard_none (Ok tables) x w h q (inv_still w (after_change x w) (s w) g, (rel_then w0 w (after_change x w) r (rel_still w (after_change x w) (s w) g), tt))

  -- ---- brackets

  pub targets_below : (vs : List Invocation) (n : ℕ) (ts : List ℕ) → targets vs ≡ n ∷ ts → targets (below vs) ≡ ts
  targets_below [] n ts e = absurd (cc)
  targets_below (v ∷ vs) n ts e = let q : targets vs ≡ ts = cc in q

  pub codes_below : (vs : List Invocation) (n : List Code) (ts : List (List Code)) → codes vs ≡ n ∷ ts → codes (below vs) ≡ ts
  codes_below [] n ts e = absurd (cc)
  codes_below (v ∷ vs) n ts e = let q : codes vs ≡ ts = cc in q

  pub list_below : (xs : List ℕ) (n : ℕ) (ts : List ℕ) → xs ≡ n ∷ ts → below xs ≡ ts
  list_below [] n ts e = absurd (cc)
  list_below (x ∷ xs) n ts e = let q : xs ≡ ts = cc in q

  -- one that differs in what is on the stack alone
  pub record Stacked (w v : World) : Type 0 where
    pub next : v.next ≡ w.next
    pub temporaries : v.temporaries ≡ w.temporaries
    pub core : (k : ℕ) → core_at k v.instances ≡ core_at k w.instances
    pub deps : (k : ℕ) → deps_at k v.instances ≡ deps_at k w.instances
    pub contexts : (c : Context) → context_at v.contexts c ≡ context_at w.contexts c
    pub stack : (b : ℕ) → OnStack v b → b < w.next
    pub provided : (n : ℕ) (rs : List Reference) → IsIn (n, rs) (provisions v.invocations) → AreParameters n rs w

  pub stacked_inv : (w v : World) → Stacked w v → Inv w → Inv v
  stacked_inv w v s g =
      -- the same but for the stack
      let u : World = record v { bodies = w.bodies; invocations = w.invocations } in
      let k : Inv u = inv_still w u (record { next = s.next; bodies = refl; targets = refl; members = refl; provisions = refl; temporaries = s.temporaries; core = s.core; deps = s.deps; contexts = s.contexts }) g in
      record { below = k.below; smaller = k.smaller; stack = λ b h. subst (λ z. b < z) (sym s.next) (s.stack b h); depends = k.depends; borrowed = k.borrowed; held = k.held; placed = λ n c e r. by k n c.component c.owner (k.placed n c e r); made = k.made; one = k.one; provided = λ n rs i. parameters_same w v n rs s.next s.core (s.provided n rs i) }
    where
      by : (k : Inv (record v { bodies = w.bodies; invocations = w.invocations })) (n : ℕ) (component : Component) (owner : Owner) → Placed (record v { bodies = w.bodies; invocations = w.invocations }) n component owner → Placed v n component owner
      by k n component (owners.Context x) h = h
      by k n component (owners.Instance m) h = h
      by k n component owners.Borrower h = h

  -- from inside a bracket of the stack to behind it
  pub unstacked : {P : List Invocation → List (ℕ × List Reference)} (w u w1 v : World) → u.next ≡ w.next → u.temporaries ≡ w.temporaries → u.instances ≡ w.instances → u.contexts ≡ w.contexts → ((b : ℕ) → OnStack w b → OnStack u b)
      → Along P u w1 → v.next ≡ w1.next → v.temporaries ≡ w1.temporaries → v.instances ≡ w1.instances → v.contexts ≡ w1.contexts → v.bodies ≡ w.bodies → targets v.invocations ≡ targets w.invocations → codes v.invocations ≡ codes w.invocations → provisions v.invocations ≡ provisions w.invocations → Rel w v
  unstacked w u w1 v n t i c f r vn vt vi vc vb vs vm vp = record {
    next = (let q = r.next in omega arith);
    bodies = vb;
    targets = vs;
    members = vm;
    provisions = vp;
    lists = subst (Grown w.next w.temporaries) (sym vt) (subst (λ z. Grown z w.temporaries w1.temporaries) n (subst (λ z. Grown u.next z w1.temporaries) t r.lists));
    old = λ k d l e. subst (λ z. core_at k z ≡ Some d) i (r.old k d (omega arith) (subst (λ z. core_at k z ≡ Some d) vi e));
    new = λ k d l e. r.new k d (omega arith) (subst (λ z. core_at k z ≡ Some d) vi e);
    stay = λ k d e q. subst (λ z. core_at k z ≡ Some d) (sym vi) (r.stay k d (subst (λ z. core_at k z ≡ Some d) (sym i) e) (fixed k d q));
    making = λ y m h. subst (λ z. IsMaking (context_at z y) m) (sym vc) (r.making y m (subst (λ z. IsMaking (context_at z y) m) (sym c) h));
    absent = λ y h. subst (λ z. context_at z y ≡ None) (sym vc) (r.absent y (subst (λ z. context_at z y ≡ None) (sym c) h));
  }
    where
      fixed : (k : ℕ) (d : Core) → IsFixed w k d → IsFixed u k d
      fixed k d (inl e) = inl e
      fixed k d (inr (inl e)) = inr (inl e)
      fixed k d (inr (inr b)) = inr (inr (b.0, f b.0 b.1, subst (λ z. Rattle.cdi_ledger.proofs.Homes.Chain z b.0 k) (sym i) b.2))

  -- what goes on inside an invocation, where it is told by a later world of it
  pub inside_then : (u w : World) (p : Prog Given) (h : List Item) → Inside u w → Doing p w h (Left w Any) → Doing p w h (Bracketed u)
  inside_then u w p h r d = loosen p w h (Left w Any) (Bracketed u) d (λ c v k g q. (along_then u w v r (rel_inside w v q.0), tt))

  pub in_lower : (vs : List Invocation) (p : ℕ × List Reference) → IsIn p (lower_provisions vs) → IsIn p (provisions vs)
  in_lower [] p h = absurd h
  in_lower (v ∷ vs) p h = inr h

  module _ (w0 : World) where
    -- an invocation, inside which parameters may be provided
    pub f_invoking : (n : ℕ) (role : InterceptorMethod) (members : List Code) (args : List Value) (p : Prog Given) (w : World) (h : List Item) → Inv w → Rel w0 w → n < w.next → MayEnter tables n members w × EntersSo tables n role members w h
        → ((u : World) → Inv u → u.instances ≡ w.instances → u.temporaries ≡ w.temporaries → u.contexts ≡ w.contexts → u.next ≡ w.next → ((b : ℕ) → OnStack w b → OnStack u b) → targets u.invocations ≡ n ∷ targets w.invocations → Doing p u h (Bracketed u))
        → Doing (invoke_by n role members args p) w h (Left w0 Any)
    f_invoking n role members args p w h g r l ok k =
        let u : World = after_change (Change.Enter (invocation_at_start n role members args)) w in
        let gu : Inv u = stacked_inv w u (record { next = refl; temporaries = refl; core = λ k. refl; deps = λ k. refl; contexts = λ c. refl; stack = stack; provided = provided }) g in (
          ok,
          bind tables (Ok tables) G (Pre tables) Post p (λ a. handle (alter Change.Exit) (λ _. ret a) throw) (λ x. handle (alter Change.Exit) (λ _. throw x) throw) u h (Bracketed u) (Left w0 Any)
              (k u gu refl refl refl refl (λ b. on b) refl)
              (λ a w1 h1 g1 q. (behind_inv w1 g1 q.0, (rel_then w0 w (after_change Change.Exit w1) r (behind w1 q.0), tt)))
              (λ x w1 h1 g1 q. (behind_inv w1 g1 q.0, (rel_then w0 w (after_change Change.Exit w1) r (behind w1 q.0), tt))),
        )
      where
        inside : World
        inside = after_change (Change.Enter (invocation_at_start n role members args)) w

        stack : (b : ℕ) → OnStack (after_change (Change.Enter (invocation_at_start n role members args)) w) b → b < w.next
        stack b (inl q) = g.stack b (inl q)
        stack b (inr (inl e)) = subst (λ z. z < w.next) e l
        stack b (inr (inr q)) = g.stack b (inr q)

        provided : (m : ℕ) (rs : List Reference) → IsIn (m, rs) (provisions (after_change (Change.Enter (invocation_at_start n role members args)) w).invocations) → AreParameters m rs w
        provided m rs (inl e) = subst (λ z. AreParameters z.0 z.1 w) e (no_parameters n w)
        provided m rs (inr i) = g.provided m rs i

        on : (b : ℕ) → OnStack w b → OnStack (after_change (Change.Enter (invocation_at_start n role members args)) w) b
        on b (inl q) = inl q
        on b (inr q) = inr (inr q)

        behind : (w1 : World) → Inside (after_change (Change.Enter (invocation_at_start n role members args)) w) w1 → Rel w (after_change Change.Exit w1)
        behind w1 q = unstacked w (after_change (Change.Enter (invocation_at_start n role members args)) w) w1 (after_change Change.Exit w1) refl refl refl refl on q refl refl refl refl q.bodies (targets_below w1.invocations n (targets w.invocations) q.targets) (codes_below w1.invocations members (codes w.invocations) q.members) q.provisions

        behind_inv : (w1 : World) → Inv w1 → Inside (after_change (Change.Enter (invocation_at_start n role members args)) w) w1 → Inv (after_change Change.Exit w1)
        behind_inv w1 g1 q = stacked_inv w1 (after_change Change.Exit w1) (record { next = refl; temporaries = refl; core = λ k. refl; deps = λ k. refl; contexts = λ c. refl; stack = λ b z. g1.stack b (fewer w1.invocations w1.bodies b z); provided = λ m rs i. g1.provided m rs (in_lower w1.invocations (m, rs) i) }) g1
          where
            fewer : (vs : List Invocation) (bs : List ℕ) (b : ℕ) → IsIn b bs ⊎ IsIn b (targets (below vs)) → IsIn b bs ⊎ IsIn b (targets vs)
            fewer vs bs b (inl z) = inl z
            fewer [] bs b (inr z) = inr z
            fewer (v ∷ vs) bs b (inr z) = inr (inr z)

    -- an invocation, inside which none are
    pub f_invoked : (n : ℕ) (role : InterceptorMethod) (members : List Code) (args : List Value) (p : Prog Given) (w : World) (h : List Item) → Inv w → Rel w0 w → n < w.next → MayEnter tables n members w × EntersSo tables n role members w h
        → ((u : World) → Inv u → u.instances ≡ w.instances → u.temporaries ≡ w.temporaries → u.contexts ≡ w.contexts → u.next ≡ w.next → ((b : ℕ) → OnStack w b → OnStack u b) → targets u.invocations ≡ n ∷ targets w.invocations → Doing p u h (Left u Any))
        → Doing (invoke_by n role members args p) w h (Left w0 Any)
    f_invoked n role members args p w h g r l ok k =
        f_invoking n role members args p w h g r l ok (λ u gu i tm c x f s. loosen p u h (Left u Any) (Bracketed u) (k u gu i tm c x f s) (λ d v j gv q. (rel_inside u v q.0, tt)))
