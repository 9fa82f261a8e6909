-- Fields, references and values change, and all else stays.
use Rattle.std.proofs.Common.{ℕ, ◌≡◌, ◌≢◌, ◌⊎◌, inl, inr, [], ◌∷◌, Bool, true, false, cond, Option, Some, None, refl, sym, ap, ◌∙◌, subst, arith, nat_eq}
use Rattle.std.specs.Prelude.{◌||◌, option_map}
use Rattle.cdi_base.specs.declared.value.Value.{Value}
use Rattle.cdi_base.specs.Fields.{has, set}
use Rattle.cdi_base.specs.Maps.{at, put}
use Rattle.cdi_store.specs.declared.instance.Component.{Component}
use Rattle.cdi_store.specs.declared.instance.Component.TheVariants as components
use Rattle.cdi_store.specs.declared.instance.Owner.{Owner}
use Rattle.cdi_store.specs.declared.instance.Owner.TheVariants as owners
use Rattle.cdi_store.specs.declared.instance.Phase.{Phase}
use Rattle.cdi_store.specs.declared.instance.Phase.TheVariants as phases
use Rattle.cdi_store.specs.declared.instance.Instance.{Instance}
use Rattle.cdi_store.specs.declared.references.Reference.{Reference}
use Rattle.cdi_store.specs.declared.references.Reference.TheVariants.{Direct, Proxy, Empty}
use Rattle.cdi_store.specs.Live.{Instances, with_field, with_reference, with_value}
use Rattle.cdi_store.proofs.Numbers.{equal_or_not}
use Rattle.cdi_machine.specs.Words.{Name, Fields, Asked}
use Rattle.cdi_machine.specs.Tables.{Tables}
use Rattle.cdi_machine.specs.World.{World, Change, after_change}
use Rattle.cdi_machine.specs.Runs.{Legal}
use Rattle.cdi_ledger.specs.Whose.{IsIn}
use Rattle.cdi_ledger.proofs.Maps.{at_adjusted, put_at}
use Rattle.cdi_whole.proofs.Contexts.{contexts_map}
use Rattle.cdi_whole.proofs.Whole.{fields_in, injected_in, intercepted_in, Declared, Lives, Stands, IsOwned, IsOlder, Refers, IsFor, IsAttended, Under, HeldBy, Good}
use Rattle.cdi_whole.proofs.Remains.{Any, Each, AfterOf, After, alike_self, levels_self}
use Rattle.cdi_whole.proofs.Moves.{Refers as RefersTo, Moves}
use Rattle.cdi_whole.proofs.Changes.{makes, settles, discards, leaves, removes}

pub record Quiet (x y : Instance) : Type 0 where
  pub of : y.component ≡ x.component
  pub owned : y.owner ≡ x.owner
  pub phase_is : y.phase ≡ x.phase
  pub fields : (name : Name) → has y.fields name ≡ has x.fields name
  pub dependents : y.dependents ≡ x.dependents

quiet_self : (x : Instance) → Quiet x x
quiet_self x = record { of = refl; owned = refl; phase_is = refl; fields = λ name. refl; dependents = refl }

module _ (t : Tables) (legal : Legal) (w : World) (after : Instances) (f : ℕ → Instance → Instance) (is : (k : ℕ) → at after k ≡ option_map (f k) (at w.instances k)) (q : (k : ℕ) (x : Instance) → Quiet x (f k x)) (g : Good t legal w) where
  forth : (k : ℕ) (x : Instance) → at w.instances k ≡ Some x → at after k ≡ Some (f k x)
  forth k x e = is k ∙ ap (option_map (f k)) e

  back : (k : ℕ) (y : Instance) → at after k ≡ Some y → (x : Instance) × (at w.instances k ≡ Some x) × (f k x ≡ y)
  back k y e = by (at w.instances k) refl
    where
      by : (o : Option Instance) → at w.instances k ≡ o → (x : Instance) × (at w.instances k ≡ Some x) × (f k x ≡ y)
      by None s = let z : at after k ≡ None = is k ∙ ap (option_map (f k)) s in absurd (cc)
      by (Some x) s = let z : Some (f k x) ≡ Some y = sym (forth k x s) ∙ e in (x, s, cc)

  quiet : (k : ℕ) (x y : Instance) → f k x ≡ y → Quiet x y
  quiet k x y e = subst (Quiet x) e (q k x)

  stands : (k : ℕ) (c : Component) (o : Owner) (p : Phase) → Stands w.instances k c o p → Stands after k c o p
  stands k c o p s = record { instance = f k s.instance; there = forth k s.instance s.there; of = (q k s.instance).of ∙ s.of; owned = (q k s.instance).owned ∙ s.owned; phase_is = (q k s.instance).phase_is ∙ s.phase_is }

  lives : (k : ℕ) (c : Component) → Lives w.instances k c → Lives after k c
  lives k c s = (f k s.0, forth k s.0 s.1, (q k s.0).of ∙ s.2)

  owned : (k : ℕ) (o : Owner) → IsOwned w.instances k o → IsOwned after k o
  owned k o s = (s.0, stands k s.0 o phases.Ready s.1)

  refers : (b : ℕ) (r : Reference) → Refers w.instances w.next b r → Refers after w.next b r
  refers b Empty h = tt
  refers b (Proxy c) h = h
  refers b (Direct k) h = (
    h.0,
    record {
      is = λ y e. (let x = back k y e in (quiet k x.0 y x.2).of ∙ h.1.is x.0 x.1);
      made = λ y e p. (let x = back k y e in h.1.made x.0 x.1 (sym (quiet k x.0 y x.2).phase_is ∙ p));
    },
  )

  pub for_still : (point : Asked) (r : Reference) → IsFor t w.instances w.next point r → IsFor t after w.next point r
  for_still point r h = record { bean = h.bean; resolves = h.resolves; refers = refers h.bean r h.refers }

  attended : (x y : Instance) (i : ℕ) → Quiet x y → IsAttended w.instances x i → IsAttended after y i
  attended x y i k h = (h.0, subst (IsIn h.0) (sym k.dependents) h.1, lives h.0 (components.Interceptor i) h.2)

  under_forth : {s m : ℕ} → Under w.instances s m → Under after s m
  under_forth Under.self = Under.self
  under_forth (Under.up {m = s} x e d o p) = Under.up (f s x) (forth s x e) (λ z. d (sym (q s x).phase_is ∙ z)) ((q s x).owned ∙ o) (under_forth p)

  under_back : {s m : ℕ} → Under after s m → Under w.instances s m
  under_back Under.self = Under.self
  under_back (Under.up {m = s} y e d o p) =
      let x = back s y e in
      let k = quiet s x.0 y x.2 in
      Under.up x.0 x.1 (λ z. d (k.phase_is ∙ z)) (sym k.owned ∙ o) (under_back p)

  pub quiet_after : ((k : ℕ) (y : Instance) (field : Name) (r : Reference) → at after k ≡ Some y → at y.references field ≡ Some r → (point : Asked) × IsIn (field, point) (injected_in t y.component) × IsFor t after w.next point r)
      → AfterOf t legal Any Each w.instances w.next w.temporaries w.invocations w.bodies after w.next w.contexts w.temporaries w.invocations w.bodies
  quiet_after refer = record {
    good = record {
      below = λ k y e. (let x = back k y e in g.below k x.0 x.1);
      whole = λ k y e. (let x = back k y e in
          let a = quiet k x.0 y x.2 in
          let h = g.whole k x.0 x.1 in
          record { declared = subst (Declared t legal) (sym a.of) h.declared; fields = λ name. a.fields name ∙ (h.fields name ∙ ap (λ c. has (fields_in t c) name) (sym a.of)); owner = subst (IsOlder k) (sym a.owned) h.owner });
      owned = λ m y d e h. (let x = back m y e in owned d (owners.Instance m) (g.owned m x.0 d x.1 (subst (IsIn d) (quiet m x.0 y x.2).dependents h)));
      refer = refer;
      attended = λ k y i e p h. (let x = back k y e in
          let a = quiet k x.0 y x.2 in
          attended x.0 y i a (g.attended k x.0 i x.1 (sym a.phase_is ∙ p) (subst (λ c. IsIn i (intercepted_in t c)) a.of h)));
      held = contexts_map (HeldBy w.instances) (HeldBy after) w.contexts (λ k b m s. stands m (components.Bean b) (owners.Context k) phases.Ready s) g.held;
      borrowed = λ k h. owned k owners.Borrower (g.borrowed k h);
      stacked = λ s o. (let x = g.stacked s o in (f s x.0, forth s x.0 x.1));
    };
    keeps = λ k x p e h. record { instance = f k x; there = forth k x e; of = (q k x).of; owned = (q k x).owned; phase_is = (q k x).phase_is };
    attends = λ k x d i p e h s m l. (f k x, forth k x e, subst (IsIn d) (sym (q k x).dependents) m, lives d (components.Interceptor i) l);
    born = λ k y e l. (let x = back k y e in let a = quiet k x.0 y x.2 in (x.0, x.1, a.of, λ p. sym a.phase_is ∙ p));
    grows = omega arith;
    stack = alike_self w.invocations;
    running = refl;
    level = levels_self w.next w.temporaries;
    under = λ s m o u. under_forth u;
    back = λ s m o u. under_back u;
  }

  -- if no reference changes
  pub quiet_same : ((k : ℕ) (x : Instance) → (f k x).references ≡ x.references) → AfterOf t legal Any Each w.instances w.next w.temporaries w.invocations w.bodies after w.next w.contexts w.temporaries w.invocations w.bodies
  quiet_same same = quiet_after (λ k y field r e p. (let x = back k y e in
      let z = g.refer k x.0 field r x.1 (ap (λ rs. at rs field) (sym (same k x.0) ∙ ap (λ (o : Instance). o.references) x.2) ∙ p) in
      (z.0, subst (λ c. IsIn (field, z.0) (injected_in t c)) (sym (quiet k x.0 y x.2).of) z.1, for_still z.0 r z.2)))

-- ---- fields and values

has_set : (fields : Fields) (field : Name) (v : Value) (name : Name) → has (set fields field v) name ≡ has fields name
has_set [] field v name = refl
has_set (p ∷ fields) field v name = by (nat_eq field p.0) (has_set fields field v name)
  where
    by : (b : Bool) → has (set fields field v) name ≡ has fields name → has (cond b ((p.0, v) ∷ fields) (p ∷ set fields field v)) name ≡ has (p ∷ fields) name
    by true h = refl
    by false h = ap (λ x. nat_eq name p.0 || x) h

set_quiet : (b : Bool) (field : Name) (v : Value) (x : Instance) → Quiet x (cond b (record x { fields = set x.fields field v }) x)
set_quiet true field v x = record { of = refl; owned = refl; phase_is = refl; fields = has_set x.fields field v; dependents = refl }
set_quiet false field v x = quiet_self x

set_references : (b : Bool) (field : Name) (v : Value) (x : Instance) → (cond b (record x { fields = set x.fields field v }) x).references ≡ x.references
set_references true field v x = refl
set_references false field v x = refl

assigns : (t : Tables) (legal : Legal) (w : World) (n : ℕ) (field : Name) (v : Value) → Good t legal w → After t legal w (after_change (Change.Assign n field v) w)
assigns t legal w n field v g =
    quiet_same t legal w (with_field n field v w.instances) (λ k x. cond (nat_eq k n) (record x { fields = set x.fields field v }) x) (λ k. at_adjusted w.instances n (λ o. record o { fields = set o.fields field v }) k)
    (λ k x. set_quiet (nat_eq k n) field v x) g (λ k x. set_references (nat_eq k n) field v x)

value_quiet : (b : Bool) (v : Value) (x : Instance) → Quiet x (cond b (record x { value = v }) x)
value_quiet true v x = record { of = refl; owned = refl; phase_is = refl; fields = λ name. refl; dependents = refl }
value_quiet false v x = quiet_self x

value_references : (b : Bool) (v : Value) (x : Instance) → (cond b (record x { value = v }) x).references ≡ x.references
value_references true v x = refl
value_references false v x = refl

holds : (t : Tables) (legal : Legal) (w : World) (n : ℕ) (v : Value) → Good t legal w → After t legal w (after_change (Change.Hold n v) w)
holds t legal w n v g =
    quiet_same t legal w (with_value n v w.instances) (λ k x. cond (nat_eq k n) (record x { value = v }) x) (λ k. at_adjusted w.instances n (λ o. record o { value = v }) k)
    (λ k x. value_quiet (nat_eq k n) v x) g (λ k x. value_references (nat_eq k n) v x)

-- ---- references

refer_quiet : (b : Bool) (field : Name) (r : Reference) (x : Instance) → Quiet x (cond b (record x { references = put field r x.references }) x)
refer_quiet true field r x = record { of = refl; owned = refl; phase_is = refl; fields = λ name. refl; dependents = refl }
refer_quiet false field r x = quiet_self x

refers_safe : (t : Tables) (legal : Legal) → RefersTo t legal
refers_safe t legal w n field r point o g there h for =
    quiet_after t legal w (with_reference n field r w.instances) turn (λ k. at_adjusted w.instances n (λ o. record o { references = put field r o.references }) k) quiet g
    (λ k y name x e p. (let b = back t legal w (with_reference n field r w.instances) turn (λ k. at_adjusted w.instances n (λ o. record o { references = put field r o.references }) k) quiet g k y e in
    of k b.0 b.1 y b.2 name x p (equal_or_not k n)))
  where
    turn : ℕ → Instance → Instance
    turn k x = cond (nat_eq k n) (record x { references = put field r x.references }) x

    quiet : (k : ℕ) (x : Instance) → Quiet x (cond (nat_eq k n) (record x { references = put field r x.references }) x)
    quiet k x = refer_quiet (nat_eq k n) field r x

    still : (a : Asked) (z : Reference) → IsFor t w.instances w.next a z → IsFor t (with_reference n field r w.instances) w.next a z
    still a z v = for_still t legal w (with_reference n field r w.instances) turn (λ k. at_adjusted w.instances n (λ o. record o { references = put field r o.references }) k) quiet g a z v

    of : (k : ℕ) (x : Instance) → at w.instances k ≡ Some x → (y : Instance) → cond (nat_eq k n) (record x { references = put field r x.references }) x ≡ y → (name : Name) (z : Reference) → at y.references name ≡ Some z
        → ((nat_eq k n ≡ true) × (k ≡ n)) ⊎ ((nat_eq k n ≡ false) × (k ≢ n)) → (p : Asked) × IsIn (name, p) (injected_in t y.component) × IsFor t (with_reference n field r w.instances) w.next p z
    of k x e y q name z p (inl s) = by (equal_or_not name field)
      where
        new : record x { references = put field r x.references } ≡ y
        new = let v : cond true (record x { references = put field r x.references }) x ≡ y = rw s.0 at q in v

        same : x ≡ o
        same = let u : Some x ≡ Some o = sym (subst (λ i. at w.instances i ≡ Some x) s.1 e) ∙ there in cc

        component : y.component ≡ o.component
        component = ap (λ (v : Instance). v.component) (sym new) ∙ ap (λ (v : Instance). v.component) same

        found : cond (nat_eq name field) (Some r) (at x.references name) ≡ Some z
        found = sym (put_at x.references field r name) ∙ (ap (λ (v : Instance). at v.references name) new ∙ p)

        by : ((nat_eq name field ≡ true) × (name ≡ field)) ⊎ ((nat_eq name field ≡ false) × (name ≢ field)) → (a : Asked) × IsIn (name, a) (injected_in t y.component) × IsFor t (with_reference n field r w.instances) w.next a z
        by (inl c) =
            let u : Some r ≡ Some z = rw c.0 at found in
            let v : r ≡ z = cc in (
              point,
              subst (λ d. IsIn (name, point) (injected_in t d)) (sym component) (subst (λ d. IsIn (d, point) (injected_in t o.component)) (sym c.1) h),
              subst (IsFor t (with_reference n field r w.instances) w.next point) v (still point r for),
            )
        by (inr c) =
            let u : at x.references name ≡ Some z = rw c.0 at found in
            let v = g.refer k x name z e u in
            (v.0, subst (λ d. IsIn (name, v.0) (injected_in t d)) (ap (λ (d : Instance). d.component) same ∙ sym component) v.1, still v.0 z v.2)
    of k x e y q name z p (inr s) =
        let u : x ≡ y = rw s.0 at q in
        let v = g.refer k x name z e (ap (λ (d : Instance). at d.references name) u ∙ p) in
        (v.0, subst (λ d. IsIn (name, v.0) (injected_in t d)) (ap (λ (d : Instance). d.component) u) v.1, still v.0 z v.2)

pub moves : (t : Tables) (legal : Legal) → Moves t legal
moves t legal = record {
  makes = makes t legal;
  settles = settles t legal;
  discards = discards t legal;
  leaves = leaves t legal;
  removes = removes t legal;
  assigns = assigns t legal;
  refers = refers_safe t legal;
  holds = holds t legal;
}
