-- The walk along the beans that a bean specializes ends.
use Rattle.std.proofs.Common.{◌≡◌, ◌∙◌, ℕ, ◌<◌, ◌&&◌, Bool, true, false, cond, nat_eq, List, [], ◌∷◌, ◌++◌, map, filter, Option, Some, None, option_and_then, option_to_list, refl, sym, ap, subst, inl, inr, append_assoc, append-nil, IfSome, arith}
use Rattle.std.proofs.lemmas.Bool.{eqb-true, eq-eqb}
use Rattle.std.proofs.lemmas.Grind.{flat_map-append}
use Rattle.std.proofs.lemmas.List.{map-append}
use Rattle.std.proofs.lemmas.List.Elements.{Contains-append_left, Contains-append_right, filter-append}
use Rattle.std.specs.HashMap.{HashMap, get}
use Rattle.std.specs.List.{Contains, find, flat_map}
use Rattle.std.specs.Rc.{rc_value}
use Rattle.std.specs.declared.rc.Rc.{Rc}
use Rattle.cdi_base.specs.declared.built_in.BuiltIn.TheVariants as names
use Rattle.cdi_base.specs.declared.uses.Use.{Use}
use Rattle.cdi_deployment.specs.declared.deployment.Class.{Class}
use Rattle.cdi_deployment.specs.declared.deployment.Deployment.{Deployment}
use Rattle.cdi_paths.proofs.Heights.{height-falls}
use Rattle.cdi_types.specs.Declarations.{of_class, of_interface, of_built_in, declarations_of}
use Rattle.cdi_types.specs.Nodes.{place_of, graph_of}
use Rattle.cdi_types.specs.Subtype.{direct_supertypes, supertypes_of, IsBelow, IsAcyclic}
use Rattle.cdi_types.specs.declared.declaration.TypeDeclaration.{TypeDeclaration}
use Rattle.cdi_types.proofs.Listed.{cases_Option, not_in_none, first_or_later}
use Rattle.cdi_types.proofs.Refined.{is_graph, nothing_above, edge_to, below_from_path}
use Rattle.cdi_types.proofs.Steps.{steps_of}
use Rattle.cdi_bean_check.specs.ManagedBeans.{is_bean, bean_class, extended_bean, says_specializes}
use Rattle.cdi_bean_check.specs.Qualifiers.{specialized_bean, AreUsesOf, declared_uses, full_uses}
use Rattle.cdi_beans.specs.ManagedQualifiers.{qualifiers_in, added_uses, own_uses, AreManaged, AreSpecialized}
use Rattle.cdi_quals.specs.Qualifiers.{full_use}
use Rattle.cdi_quals.specs.declared.qualifier.Qualifier.{Qualifier}
use Rattle.cdi_quals.specs.declared.types.QualifierType.{QualifierType}

-- what stands above a type in some declarations stands above it in more
supertypes-more : (front types : List TypeDeclaration) (a b : ℕ) → Contains (supertypes_of types a) b → Contains (supertypes_of (front ++ types) a) b
supertypes-more front types a b e =
    let p : TypeDeclaration → Bool = λ d. nat_eq d.name a in
    let P : List ℕ → Type 0 = λ ns. Contains ns b in
    let splits = ap (flat_map direct_supertypes) (filter-append p front types) ∙ flat_map-append direct_supertypes (filter p front) (filter p types) in
    subst P (sym splits) (Contains-append_right (supertypes_of front a) (supertypes_of types a) b e)

below-more : (front types : List TypeDeclaration) {a b : ℕ} → IsBelow types a b → IsBelow (front ++ types) a b
below-more front types (IsBelow.directly {a = a} {b = b} e) = IsBelow.directly (supertypes-more front types a b e)
below-more front types (IsBelow.further {a = a} {b = b} e rest) = IsBelow.further (supertypes-more front types a b e) (below-more front types rest)

-- if no type of a deployment stands above itself, none of its classes does among the classes
pub acyclic_classes : (d : Deployment) → IsAcyclic (declarations_of d) → IsAcyclic (map of_class d.classes)
acyclic_classes d acyclic a cycle =
    let interfaces = map of_interface d.interfaces in
    let classes = map of_class d.classes in
    acyclic a (below-more (of_built_in names.Startup ∷ of_built_in names.Shutdown ∷ []) (interfaces ++ classes) (below-more interfaces classes cycle))

-- what is found stands in the list and passes the test
found : {X : Type 0} (p : X → Bool) (xs : List X) (x : X) → find p xs ≡ Some x → Contains xs x × (p x ≡ true)
found p [] x e = absurd cc
found {X} p (y ∷ ys) x e = by (p y) refl e (found p ys x)
  where
    by : (b : Bool) → p y ≡ b → cond b (Some y) (find p ys) ≡ Some x → (find p ys ≡ Some x → Contains ys x × (p x ≡ true)) → Contains (y ∷ ys) x × (p x ≡ true)
    by true is h later =
        let same : y ≡ x = cc in
        let P : X → Type 0 = λ z. Contains (y ∷ ys) z in
        (subst P same (0, omega arith, refl), sym (ap p same) ∙ is)
    by false is h later = let rest = later h in (Contains-append_right (y ∷ []) ys x rest.0, rest.1)

-- the class that a class extends stands above it
class_above : (classes : List Class) (c : Class) (n : ℕ) → Contains classes c → c.extends ≡ Some n → Contains (supertypes_of (map of_class classes) c.name) n
class_above [] c n e is = absurd (not_in_none [] c refl e)
class_above (k ∷ ks) c n e is =
    elim (first_or_later k ks c e) [
      | inl same ↦ here same
      | inr later ↦ by (nat_eq k.name c.name) (class_above ks c n later is)
    ]
  where
    rest : List TypeDeclaration
    rest = filter (λ d. nat_eq d.name c.name) (map of_class ks)

    by : (b : Bool) → Contains (flat_map direct_supertypes rest) n → Contains (flat_map direct_supertypes (cond b (of_class k ∷ rest) rest)) n
    by true h = Contains-append_right (direct_supertypes (of_class k)) (flat_map direct_supertypes rest) n h
    by false h = h

    first : (o : Option ℕ) → o ≡ Some n → Contains (option_to_list o ++ k.implements) n
    first o some = let P : Option ℕ → Type 0 = λ x. Contains (option_to_list x ++ k.implements) n in subst P (sym some) (0, omega arith, refl)

    here : k ≡ c → Contains (supertypes_of (map of_class (k ∷ ks)) c.name) n
    here same =
        let named : nat_eq k.name c.name ≡ true = eq-eqb k.name c.name (ap (λ (x : Class). x.name) same) in
        let P : Bool → Type 0 = λ b. Contains (flat_map direct_supertypes (cond b (of_class k ∷ rest) rest)) n in
        subst P (sym named) (Contains-append_left (direct_supertypes (of_class k)) (flat_map direct_supertypes rest) n (first k.extends (ap (λ (x : Class). x.extends) same ∙ is)))

-- a bean that a class specializes is the class that it extends
pub record Specializes (classes : List Class) (c s : Class) : Type 0 where
  pub listed : Contains classes s
  pub extends_it : c.extends ≡ Some s.name

both_true : (a b : Bool) → (a && b) ≡ true → a ≡ true
both_true true b e = refl
both_true false b e = absurd cc

extended : (classes : List Class) (c s : Class) (o : Option ℕ) → c.extends ≡ o → option_and_then (bean_class classes) o ≡ Some s → Specializes classes c s
extended classes c s None is e = absurd cc
extended classes c s (Some n) is e =
    let there = found (λ (k : Class). nat_eq k.name n && is_bean k) classes s e in
    record { listed = there.0; extends_it = is ∙ ap Some (sym (eqb-true s.name n (both_true (nat_eq s.name n) (is_bean s) there.1))) }

pub specializes : (classes : List Class) (c s : Class) → specialized_bean classes c ≡ Some s → Specializes classes c s
specializes classes c s e = by (says_specializes c.bean) e
  where
    by : (b : Bool) → cond b (extended_bean classes c) None ≡ Some s → Specializes classes c s
    by true h = extended classes c s c.extends refl h
    by false h = absurd cc

-- fewer steps lead up from what stands above
steps-fall_above : (types : List TypeDeclaration) → IsAcyclic types → (a b : ℕ) → Contains (supertypes_of types a) b → steps_of types b < steps_of types a
steps-fall_above types acyclic a b up =
    let place = place_of types in
    let same : (name : ℕ) → place name ≡ place_of types name = λ _. refl in
    elim (cases_Option (place_of types a)) [
      | inl none ↦ absurd (not_in_none (supertypes_of types a) b (nothing_above types place same a none) up)
      | inr at ↦ elim (cases_Option (place_of types b)) [
        | inl none ↦ rw (none, at.1) (omega arith)
        | inr above ↦ (
            let falls = height-falls (graph_of place types) (is_graph types place same) at.0 above.0 (edge_to types place same a at.0 b above.0 at.1 up above.1) (λ p. acyclic b (below_from_path types place same b b above.0 above.0 above.1 above.1 p)) in
            rw (at.1, above.1) (omega (arith, falls))
            )
      ]
    ]

pub steps-fall_specialized : (classes : List Class) → IsAcyclic (map of_class classes) → (c s : Class) → Contains classes c → specialized_bean classes c ≡ Some s → steps_of (map of_class classes) s.name < steps_of (map of_class classes) c.name
steps-fall_specialized classes acyclic c s listed e =
    steps-fall_above (map of_class classes) acyclic c.name s.name (class_above classes c s.name listed (specializes classes c s e).extends_it)

-- a bean that a class specializes is found by its name
extended_named : (classes : List Class) (s : Class) (o : Option ℕ) → option_and_then (bean_class classes) o ≡ Some s → bean_class classes s.name ≡ Some s
extended_named classes s None e = absurd cc
extended_named classes s (Some n) e =
    let there = found (λ (k : Class). nat_eq k.name n && is_bean k) classes s e in
    ap (bean_class classes) (eqb-true s.name n (both_true (nat_eq s.name n) (is_bean s) there.1)) ∙ e

pub specialized_named : (classes : List Class) (c s : Class) → specialized_bean classes c ≡ Some s → bean_class classes s.name ≡ Some s
specialized_named classes c s e = by (says_specializes c.bean) e
  where
    by : (b : Bool) → cond b (extended_bean classes c) None ≡ Some s → bean_class classes s.name ≡ Some s
    by true h = extended_named classes s c.extends h
    by false h = absurd cc

-- the uses that a bean has of the beans that it specializes
pub data AreAbove (classes : List Class) : Class → List Use → Type 0 where
  none : {c : Class} → specialized_bean classes c ≡ None → AreAbove classes c []
  more : {c s : Class} {uses : List Use} → specialized_bean classes c ≡ Some s → AreAbove classes s uses → AreAbove classes c (own_uses classes s ++ uses)

module _ (classes : List Class) where
  with_own : {c : Class} {uses : List Use} → AreAbove classes c uses → AreUsesOf classes c (own_uses classes c ++ uses)
  with_own (AreAbove.none {c = c} e) =
      let P : List Use → Type 0 = AreUsesOf classes c in
      let declared = declared_uses c.bean in
      subst P (sym (append-nil (own_uses classes c) ∙ ap (λ o. added_uses o declared) e)) (AreUsesOf.plain e)
  with_own (AreAbove.more {c = c} {s = s} {uses = uses} e above) =
      let P : List Use → Type 0 = AreUsesOf classes c in
      let declared = declared_uses c.bean in
      subst P (ap (λ o. added_uses o declared ++ (own_uses classes s ++ uses)) (sym e)) (AreUsesOf.specializing e (with_own above))

  -- a loop along the beans that a bean specializes, with the qualifiers that it found so far
  pub record HasWalked (types : List QualifierType) (c lowest : Class) (found : List Qualifier) : Type 0 where
    pub front : List Use
    pub full : found ≡ full_uses types front
    pub goes_on : (rest : List Use) → AreAbove classes lowest rest → AreAbove classes c (front ++ rest)

  module _ (types : List QualifierType) (c : Class) where
    pub begins : {Z : Type 0} (found : List (Rc (List Qualifier) Z)) → found ≡ [] → HasWalked types c c (qualifiers_in found)
    begins found e = record { front = []; full = ap qualifiers_in e; goes_on = λ rest h. h }

    pub goes_down : {Z : Type 0} (lowest s : Class) (found new : List (Rc (List Qualifier) Z)) (part : Rc (List Qualifier) Z) → HasWalked types c lowest (qualifiers_in found)
        → specialized_bean classes lowest ≡ Some s → part.value ≡ full_uses types (own_uses classes s) → new ≡ found ++ part ∷ [] → HasWalked types c s (qualifiers_in new)
    goes_down lowest s found new part w e own is =
        let uses = own_uses classes s in
        let P : List Use → Type 0 = AreAbove classes c in
        record {
          front = w.front ++ uses;
          full =
              ap qualifiers_in is ∙ flat_map-append rc_value found (part ∷ []) ∙ ap (λ qs. qs ++ (part.value ++ [])) w.full
              ∙ ap (λ qs. full_uses types w.front ++ qs) (append-nil part.value ∙ own) ∙ sym (map-append (full_use types) w.front uses);
          goes_on = λ rest h. subst P (sym (append_assoc w.front uses rest)) (w.goes_on (uses ++ rest) (AreAbove.more e h));
        }

    pub ends : (lowest : Class) (found : List Qualifier) → HasWalked types c lowest found → specialized_bean classes lowest ≡ None → AreSpecialized classes types c found
    ends lowest found w e =
        let P : List Use → Type 0 = AreAbove classes c in
        record { uses = w.front; are_uses = with_own (subst P (append-nil w.front) (w.goes_on [] (AreAbove.none e))); are_full = w.full }

    -- its own qualifiers and these are all of its qualifiers
    pub all_of : (own specialized all : List Qualifier) → own ≡ full_uses types (own_uses classes c) → AreSpecialized classes types c specialized → all ≡ own ++ specialized → AreManaged classes types c all
    all_of own specialized all is are both =
        record {
          uses = own_uses classes c ++ are.uses;
          are_uses = are.are_uses;
          are_full = both ∙ ap (λ qs. qs ++ specialized) is ∙ ap (λ qs. full_uses types (own_uses classes c) ++ qs) are.are_full ∙ sym (map-append (full_use types) (own_uses classes c) are.uses);
        }

-- a table of own qualifiers gets those of one bean more
pub one_more : {Z S : Type 0} (classes : List Class) (types : List QualifierType) (class : Class) (part : Rc (List Qualifier) Z) (old new : HashMap ℕ (Rc (List Qualifier) Z) S) → bean_class classes class.name ≡ Some class
    → part.value ≡ full_uses types (own_uses classes class) → ((q : ℕ) → get nat_eq new q ≡ cond (nat_eq class.name q) (Some part) (get nat_eq old q))
    → ((name : ℕ) (c : Class) → bean_class classes name ≡ Some c → IfSome (get nat_eq old name) (λ p. p.value ≡ full_uses types (own_uses classes c)))
    → (name : ℕ) (c : Class) → bean_class classes name ≡ Some c → IfSome (get nat_eq new name) (λ p. p.value ≡ full_uses types (own_uses classes c))
one_more {Z} classes types class part old new named own updates has name c is = let P : Option (Rc (List Qualifier) Z) → Type 0 = λ o. IfSome o (λ p. p.value ≡ full_uses types (own_uses classes c)) in subst P (sym (updates name)) (by (nat_eq class.name name) refl)
  where
    by : (b : Bool) → nat_eq class.name name ≡ b → IfSome (cond b (Some part) (get nat_eq old name)) (λ p. p.value ≡ full_uses types (own_uses classes c))
    by true e =
        let found : Some class ≡ Some c = sym named ∙ ap (bean_class classes) (eqb-true class.name name e) ∙ is in
        let same : class ≡ c = cc in
        own ∙ ap (λ k. full_uses types (own_uses classes k)) same
    by false e = has name c is

-- what the table has for a bean
pub known_own : {Z S : Type 0} (classes : List Class) (types : List QualifierType) (class : Class) (part : Rc (List Qualifier) Z) (table : HashMap ℕ (Rc (List Qualifier) Z) S) → bean_class classes class.name ≡ Some class
    → ((name : ℕ) (c : Class) → bean_class classes name ≡ Some c → IfSome (get nat_eq table name) (λ p. p.value ≡ full_uses types (own_uses classes c))) → get nat_eq table class.name ≡ Some part → part.value ≡ full_uses types (own_uses classes class)
known_own {Z} classes types class part table named has is =
    let P : Option (Rc (List Qualifier) Z) → Type 0 = λ o. IfSome o (λ p. p.value ≡ full_uses types (own_uses classes class)) in
    subst P is (has class.name class named)
