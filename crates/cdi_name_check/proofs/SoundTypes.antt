-- Deployments without problems of names have sound types.
use Rattle.std.proofs.Common.{◌≡◌, ◌∙◌, ℕ, ◌+◌, ◌==◌, ◌||◌, ◌&&◌, not, Bool, true, false, nat_eq, List, [], ◌∷◌, ◌++◌, map, IsTrue, Option, Some, None, option_to_list, refl, sym, ap, subst, true≢false, inl, inr, arith, if◌then◌else◌, fold}
use Rattle.std.specs.List.{Contains, list_all, flat_map, enumerate_from}
use Rattle.std.proofs.lemmas.List.Elements.{Contains-append_left, Contains-append_right, Contains-append_cases}
use Rattle.cdi_base.specs.BuiltIn.{number_of}
use Rattle.cdi_base.specs.declared.built_in.BuiltIn.TheVariants as names
use Rattle.cdi_base.specs.declared.place.Place.{Place}
use Rattle.cdi_deployment.specs.declared.deployment.Class.{Class}
use Rattle.cdi_deployment.specs.declared.deployment.Deployment.{Deployment}
use Rattle.cdi_deployment.specs.declared.deployment.Interface.{Interface}
use Rattle.cdi_name_check.specs.CyclicHierarchy.{IsCyclicHierarchy}
use Rattle.cdi_name_check.specs.NameProblems.{AreNameProblems}
use Rattle.cdi_name_check.specs.UnknownName.{HasUnknownName, knows_class, knows_superclass, is_interface, is_open_class, is_extensible}
use Rattle.cdi_problems.specs.Elements.{Element, elements_of, place_of, class_elements, interceptor_elements}
use Rattle.cdi_problems.specs.Findings.{ArePlacesOf, ArePlacesWhere}
use Rattle.cdi_problems.specs.Places.{once, with_place}
use Rattle.cdi_problems.specs.Words.{problems_at}
use Rattle.cdi_types.specs.ListsThose.{ListsThose}
use Rattle.cdi_types.specs.Declarations.{declarations_of, of_built_in, of_interface, of_class}
use Rattle.cdi_types.specs.Subtype.{IsBelow, IsCyclic, IsAcyclic, is_type, direct_supertypes, supertypes_of, knows_supertypes, object}
use Rattle.cdi_types.specs.Table.{IsSound, IsRefused}
use Rattle.cdi_base.specs.declared.or_memory.OrMemory.{OrMemory}
use Rattle.cdi_base.specs.declared.or_memory.OrMemory.TheVariants as errors
use Rattle.cdi_types.specs.declared.fault.TypesFault.{TypesFault}
use Rattle.cdi_types.specs.declared.fault.TypesFault.TheVariants as faults
use Rattle.cdi_problems.specs.declared.problem.ProblemKind.TheVariants as kinds
use Rattle.cdi_name_check.proofs.ClaimSets.{both}
use Rattle.cdi_name_check.proofs.Duplicates.{any_found, found_any}
use Rattle.std.proofs.lemmas.Bool.{eqb-true}
use Rattle.std.proofs.lemmas.List.Folds.{list_all-append, list_all-map}
use Rattle.cdi_types.specs.declared.declaration.TypeDeclaration.{TypeDeclaration}
use Rattle.cdi_types.proofs.Listed.{not_in_none, first_or_later}
use Rattle.cdi_types.proofs.Supertypes.{declared_above}

-- ---- lists of what was found that are empty

append_none : {X : Type 0} (xs ys : List X) → [] ≡ xs ++ ys → ([] ≡ xs) × ([] ≡ ys)
append_none [] ys e = (refl, e)
append_none (x ∷ xs) ys e = absurd cc

map_none : {X Y : Type 0} (f : X → Y) (xs : List X) → [] ≡ map f xs → xs ≡ []
map_none f [] e = refl
map_none f (x ∷ xs) e = absurd cc

one_behind : (listed : List Place) (p : Place) (b : Bool) → (if b then listed else listed ++ p ∷ []) ≡ [] → listed ≡ []
one_behind listed p true e = e
one_behind listed p false e = sym (append_none listed (p ∷ []) (sym e)).0

-- keeping each place once loses none of those before
kept_none : (listed places : List Place) → fold with_place listed places ≡ [] → listed ≡ []
kept_none listed [] e = e
kept_none listed (p ∷ ps) e = one_behind listed p _ (kept_none (with_place listed p) ps e)

no_places : {X : Type 0} (place : X → Place) (those : List X) → [] ≡ once (map place those) → those ≡ []
no_places place [] e = refl
no_places place (x ∷ xs) e = absurd (full (kept_none (place x ∷ []) (map place xs) (sym e)))
  where
    full : place x ∷ [] ≡ [] → ⊥
    full h = cc

none_found : {X : Type 0} (P : X → Type 0) (place : X → Place) (items : List X) → ArePlacesWhere P place items [] → ListsThose P items []
none_found P place items w = let Q : List _ → Type 0 = λ those. ListsThose P items those in subst Q (no_places place w.those w.are) w.listed

module _ {X : Type 0} {P : X → Type 0} where
  none_left : (xs ys : List X) → ListsThose P (xs ++ ys) [] → ListsThose P xs []
  none_left [] ys h = ListsThose.none
  none_left (x ∷ xs) ys (ListsThose.skip n rest) = ListsThose.skip n (none_left xs ys rest)

  none_right : (xs ys : List X) → ListsThose P (xs ++ ys) [] → ListsThose P ys []
  none_right [] ys h = h
  none_right (x ∷ xs) ys (ListsThose.skip n rest) = none_right xs ys rest

  none_first : (x : X) (xs : List X) → ListsThose P (x ∷ xs) [] → P x → ⊥
  none_first x xs (ListsThose.skip n rest) = n

  none_later : (x : X) (xs : List X) → ListsThose P (x ∷ xs) [] → ListsThose P xs []
  none_later x xs (ListsThose.skip n rest) = rest

-- ---- where no element of a deployment has a problem

module _ {P : Element → Type 0} where
  each_interface : (is : List Interface) → ListsThose P (map Element.AnInterface is) [] → (i : Interface) → Contains is i → P (Element.AnInterface i) → ⊥
  each_interface [] h i at p = not_in_none [] i refl at
  each_interface (j ∷ js) h i at p =
      elim (first_or_later j js i at) [
        | inl same ↦ (let Q : Interface → Type 0 = λ z. P (Element.AnInterface z) in none_first _ _ h (subst Q (sym same) p))
        | inr later ↦ each_interface js (none_later _ _ h) i later p
      ]

  each_class : (n : ℕ) (cs : List Class) → ListsThose P (flat_map class_elements (enumerate_from n cs)) [] → (c : Class) → Contains cs c → ((m : ℕ) → P (Element.AClass m c)) → ⊥
  each_class n [] h c at p = not_in_none [] c refl at
  each_class n (b ∷ bs) h c at p =
      elim (first_or_later b bs c at) [
        | inl same ↦ (let Q : Class → Type 0 = λ z. P (Element.AClass n z) in none_first _ _ h (subst Q (sym same) (p n)))
        | inr later ↦ each_class (n + 1) bs (none_right (class_elements (n, b)) (flat_map class_elements (enumerate_from (n + 1) bs)) h) c later p
      ]

module _ (d : Deployment) {P : Element → Type 0} (h : ListsThose P (elements_of d) []) where
  abbrev before_classes : List Element
  before_classes =
      map Element.AnInterface d.interfaces ++ map Element.AQualifier d.qualifiers ++ map Element.ABinding d.bindings
      ++ map Element.AnException d.exceptions

  abbrev with_classes : List Element
  with_classes = before_classes ++ flat_map class_elements (enumerate_from 0 d.classes)

  abbrev with_interceptors : List Element
  with_interceptors = with_classes ++ flat_map interceptor_elements (enumerate_from 0 d.interceptors)

  none_upto_classes : ListsThose P with_classes []
  none_upto_classes =
      none_left with_classes (flat_map interceptor_elements (enumerate_from 0 d.interceptors)) (
      none_left with_interceptors (map Element.ASelectedName d.selected) (
      none_left (with_interceptors ++ map Element.ASelectedName d.selected) (map Element.AnOrderedName d.order) (
      none_left (with_interceptors ++ map Element.ASelectedName d.selected ++ map Element.AnOrderedName d.order) (map Element.AScript d.scripts) h
      )
      )
      )

  no_class : (c : Class) → Contains d.classes c → ((m : ℕ) → P (Element.AClass m c)) → ⊥
  no_class = each_class 0 d.classes (none_right before_classes (flat_map class_elements (enumerate_from 0 d.classes)) none_upto_classes)

  no_interface : (i : Interface) → Contains d.interfaces i → P (Element.AnInterface i) → ⊥
  no_interface =
      each_interface d.interfaces (
      none_left (map Element.AnInterface d.interfaces) (map Element.AQualifier d.qualifiers) (
      none_left (map Element.AnInterface d.interfaces ++ map Element.AQualifier d.qualifiers) (map Element.ABinding d.bindings) (
      none_left (map Element.AnInterface d.interfaces ++ map Element.AQualifier d.qualifiers ++ map Element.ABinding d.bindings) (map Element.AnException d.exceptions) (
      none_left before_classes (flat_map class_elements (enumerate_from 0 d.classes)) none_upto_classes
      )
      )
      )
      )

-- ---- no type is its own proper supertype

map_from : {X Y : Type 0} (f : X → Y) (xs : List X) (y : Y) → Contains (map f xs) y → (x : X) × Contains xs x × (f x ≡ y)
map_from f [] y at = absurd (not_in_none [] y refl at)
map_from f (z ∷ zs) y at =
    elim (first_or_later (f z) (map f zs) y at) [
      | inl same ↦ (z, (0, omega arith, refl), same)
      | inr later ↦ (let r = map_from f zs y later in (r.0, Contains-append_right (z ∷ []) zs r.0 r.1, r.2))
    ]

map_at : {X Y : Type 0} (f : X → Y) (xs : List X) (x : X) → Contains xs x → Contains (map f xs) (f x)
map_at f [] x at = absurd (not_in_none [] x refl at)
map_at f (z ∷ zs) x at =
    elim (first_or_later z zs x at) [
      | inl same ↦ (let Q : _ → Type 0 = λ y. Contains (f z ∷ map f zs) (f y) in subst Q same (0, omega arith, refl))
      | inr later ↦ Contains-append_right (f z ∷ []) (map f zs) (f x) (map_at f zs x later)
    ]

first_step : (types : List TypeDeclaration) (a b : ℕ) → IsBelow types a b → (c : ℕ) × Contains (supertypes_of types a) c
first_step types a b (IsBelow.directly at) = (b, at)
first_step types a b (IsBelow.further {b = c} at rest) = (c, at)

abbrev built_in : List TypeDeclaration
built_in = of_built_in names.Startup ∷ of_built_in names.Shutdown ∷ []

-- nothing stands above a built-in class
not_above_built_in : (t : TypeDeclaration) (c : ℕ) → Contains built_in t → Contains (direct_supertypes t) c → ⊥
not_above_built_in t c at above =
    let Q : TypeDeclaration → Type 0 = λ t. Contains (direct_supertypes t) c in
    elim (first_or_later (of_built_in names.Startup) (of_built_in names.Shutdown ∷ []) t at) [
      | inl same ↦ not_in_none [] c refl (subst Q (sym same) above)
      | inr later ↦ (
          elim (first_or_later (of_built_in names.Shutdown) [] t later) [
            | inl same ↦ not_in_none [] c refl (subst Q (sym same) above)
            | inr nowhere ↦ not_in_none [] t refl nowhere
          ]
          )
    ]

acyclic : (d : Deployment) → ListsThose (IsCyclicHierarchy (declarations_of d)) (elements_of d) [] → IsAcyclic (declarations_of d)
acyclic d clean a cyclic =
    let types = declarations_of d in
    let up = first_step types a a cyclic in
    let r = declared_above types a up.0 up.1 in
    let Q : ℕ → Type 0 = λ n. IsCyclic types n in
    elim (Contains-append_cases (built_in ++ map of_interface d.interfaces) (map of_class d.classes) r.0 r.1) [
      | inl front ↦ (
          elim (Contains-append_cases built_in (map of_interface d.interfaces) r.0 front) [
            | inl first ↦ not_above_built_in r.0 up.0 first r.3
            | inr at ↦ (let i = map_from of_interface d.interfaces r.0 at in no_interface d clean i.0 i.1 (subst Q (sym (ap (λ t. t.name) i.2 ∙ r.2)) cyclic))
          ]
          )
      | inr at ↦ (let c = map_from of_class d.classes r.0 at in no_class d clean c.0 c.1 (λ m. subst Q (sym (ap (λ t. t.name) c.2 ∙ r.2)) cyclic))
    ]

-- ---- each name above a type is a type's

or_true : (b : Bool) → (b || true) ≡ true
or_true true = refl
or_true false = refl

first_of_two : (a b : Bool) → (a && b) ≡ true → a ≡ true
first_of_two a b e = (both a b e).0

not_not : (b : Bool) → (IsTrue (not b) → ⊥) → b ≡ true
not_not true h = refl
not_not false h = absurd (h refl)

all_weaker : {X : Type 0} (p q : X → Bool) (xs : List X) → ((x : X) → p x ≡ true → q x ≡ true) → list_all p xs ≡ true → list_all q xs ≡ true
all_weaker p q [] step e = refl
all_weaker p q (x ∷ xs) step e =
    let h = both (p x) (list_all p xs) e in
    ap (λ b. b && list_all q xs) (step x h.0) ∙ all_weaker p q xs step h.1

all_from : {X : Type 0} (p : X → Bool) (xs : List X) → ((x : X) → Contains xs x → p x ≡ true) → list_all p xs ≡ true
all_from p [] each = refl
all_from p (x ∷ xs) each = ap (λ b. b && list_all p xs) (each x (0, omega arith, refl)) ∙ all_from p xs (λ y at. each y (Contains-append_right (x ∷ []) xs y at))

module _ (d : Deployment) where
  abbrev types : List TypeDeclaration
  types = declarations_of d

  declared_type : (t : TypeDeclaration) (n : ℕ) → Contains types t → nat_eq t.name n ≡ true → is_type types n ≡ true
  declared_type t n at e = ap (λ b. (n == object) || b) (found_any (λ t. t.name == n) types t at e) ∙ or_true (n == object)

  interface_type : (n : ℕ) → is_interface d n ≡ true → is_type types n ≡ true
  interface_type n e =
      let r = any_found (λ i. i.name == n) d.interfaces e in
      declared_type (of_interface r.0) n (Contains-append_left (built_in ++ map of_interface d.interfaces) (map of_class d.classes) _ (Contains-append_right built_in (map of_interface d.interfaces) _ (map_at of_interface d.interfaces r.0 r.1))) r.2

  open_class_type : (n : ℕ) → is_open_class d n ≡ true → is_type types n ≡ true
  open_class_type n e =
      let r = any_found (λ c. (c.name == n) && not c.is_final) d.classes e in
      declared_type (of_class r.0) n (Contains-append_right (built_in ++ map of_interface d.interfaces) (map of_class d.classes) _ (map_at of_class d.classes r.0 r.1)) (first_of_two _ _ r.2)

  extensible_type : (n : ℕ) → is_extensible d n ≡ true → is_type types n ≡ true
  extensible_type n e = by (number_of names.Object == n) refl e
    where
      by : (b : Bool) → (number_of names.Object == n) ≡ b → (b || is_open_class d n) ≡ true → is_type types n ≡ true
      by true is h = let Q : ℕ → Type 0 = λ m. is_type types m ≡ true in subst Q (eqb-true (number_of names.Object) n is) refl
      by false is h = open_class_type n h

  superclass_type : (o : Option ℕ) → knows_superclass d o ≡ true → list_all (is_type types) (option_to_list o) ≡ true
  superclass_type None e = refl
  superclass_type (Some n) e = ap (λ b. b && true) (extensible_type n e)

  module _ (clean : ListsThose (HasUnknownName d) (elements_of d) []) where
    of_interfaces : (i : Interface) → Contains d.interfaces i → list_all (is_type types) (direct_supertypes (of_interface i)) ≡ true
    of_interfaces i at =
        all_weaker (is_interface d) (is_type types) i.extends interface_type (not_not (list_all (is_interface d) i.extends) (no_interface d clean i at))

    of_classes : (c : Class) → Contains d.classes c → list_all (is_type types) (direct_supertypes (of_class c)) ≡ true
    of_classes c at =
        let known = not_not (knows_class d c) (λ h. no_class d clean c at (λ m. h)) in
        let front = first_of_two _ _ (first_of_two _ _ known) in
        let parts = both (knows_superclass d c.extends) (list_all (is_interface d) c.implements) front in
        list_all-append (is_type types) (option_to_list c.extends) c.implements
        ∙ ap (λ b. b && list_all (is_type types) c.implements) (superclass_type c.extends parts.0)
        ∙ all_weaker (is_interface d) (is_type types) c.implements interface_type parts.1

    known : knows_supertypes types ≡ true
    known =
        let test : TypeDeclaration → Bool = λ t. list_all (is_type types) (direct_supertypes t) in
        list_all-append test (built_in ++ map of_interface d.interfaces) (map of_class d.classes)
        ∙ ap (λ b. b && list_all test (map of_class d.classes)) (
        list_all-append test built_in (map of_interface d.interfaces)
        ∙ (list_all-map test of_interface d.interfaces ∙ all_from (λ i. test (of_interface i)) d.interfaces of_interfaces)
        )
        ∙ (list_all-map test of_class d.classes ∙ all_from (λ c. test (of_class c)) d.classes of_classes)

pub sound_types : (d : Deployment) → AreNameProblems d [] → IsSound (declarations_of d)
sound_types d found =
    let apart = append_none (problems_at kinds.DuplicateName found.duplicate ++ problems_at kinds.UnknownName found.unknown) (problems_at kinds.CyclicHierarchy found.cyclic) found.are in
    let front = append_none (problems_at kinds.DuplicateName found.duplicate) (problems_at kinds.UnknownName found.unknown) apart.0 in
    let no_unknown = map_none _ found.unknown front.1 in
    let no_cyclic = map_none _ found.cyclic apart.1 in
    let U : List Place → Type 0 = λ places. ArePlacesOf (HasUnknownName d) (elements_of d) places in
    let C : List Place → Type 0 = λ places. ArePlacesOf (IsCyclicHierarchy (declarations_of d)) (elements_of d) places in
    record {
      acyclic = acyclic d (none_found _ place_of (elements_of d) (subst C no_cyclic found.are_cyclic));
      known = known d (none_found _ place_of (elements_of d) (subst U no_unknown found.are_unknown));
    }

pub memory_alone : (types : List TypeDeclaration) (e : OrMemory TypesFault) → IsSound types → IsRefused types e → e ≡ errors.Memory
memory_alone ts (errors.Fault faults.Cycle) sound refused = absurd (sound.acyclic refused.0 refused.1)
memory_alone ts (errors.Fault faults.Unknown) sound refused = absurd (true≢false (sym sound.known ∙ refused.1))
memory_alone ts errors.Memory sound refused = refl
