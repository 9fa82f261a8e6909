-- In a deployment without duplicate names no two classes have one name.
use Rattle.std.proofs.Common.{◌≡◌, ◌∙◌, ℕ, ◌+◌, ◌||◌, Bool, true, false, nat_eq, List, [], ◌∷◌, ◌++◌, map, fold, refl, sym, ap, subst, append_assoc, append-nil, arith, if◌then◌else◌}
use Rattle.std.proofs.lemmas.Bool.{eqb-true}
use Rattle.std.proofs.lemmas.Grind.{flat_map-append}
use Rattle.std.proofs.lemmas.List.Elements.{Contains-append_left, Contains-append_right}
use Rattle.std.specs.List.{Contains, flat_map, enumerate_from}
use Rattle.cdi_base.specs.declared.place.Place.{Place}
use Rattle.cdi_deployment.specs.declared.deployment.Class.{Class}
use Rattle.cdi_deployment.specs.declared.deployment.Deployment.{Deployment}
use Rattle.cdi_name_check.specs.DuplicateName.{HasDuplicateName, claims_of, claims_after, built_in_claims}
use Rattle.cdi_name_check.specs.NameProblems.{AreNameProblems}
use Rattle.cdi_name_check.specs.declared.claim.Claim.{Claim}
use Rattle.cdi_name_check.specs.declared.claim.Claim.TheVariants as claims
use Rattle.cdi_problems.specs.Elements.{Element, elements_of, class_elements, interceptor_elements, place_of}
use Rattle.cdi_problems.specs.Findings.{Placed, placed_after, placed}
use Rattle.cdi_problems.specs.Places.{once, with_place}
use Rattle.cdi_problems.specs.Words.{problems_at}
use Rattle.cdi_problems.specs.declared.problem.ProblemKind.TheVariants as kinds
use Rattle.cdi_types.specs.ListsThose.{ListsThose}
use Rattle.cdi_planner.specs.Apart.{has_class, AreNamedApart}

-- ---- lists of what was found that are empty

front_none : {X : Type 0} (xs ys : List X) → [] ≡ xs ++ ys → [] ≡ xs
front_none [] ys e = refl
front_none (x ∷ xs) ys e = absurd cc

map_none : {X Y : Type 0} (f : X → Y) (xs : List X) → [] ≡ map f xs → xs ≡ []
map_none f [] e = refl
map_none f (x ∷ xs) e = absurd cc

one_behind : (listed : List Place) (p : Place) (b : Bool) → (if b then listed else listed ++ p ∷ []) ≡ [] → listed ≡ []
one_behind listed p true e = e
one_behind listed p false e = sym (front_none listed (p ∷ []) (sym e))

kept_none : (listed places : List Place) → fold with_place listed places ≡ [] → listed ≡ []
kept_none listed [] e = e
kept_none listed (p ∷ ps) e = one_behind listed p _ (kept_none (with_place listed p) ps e)

no_places : {X : Type 0} (place : X → Place) (those : List X) → [] ≡ once (map place those) → those ≡ []
no_places place [] e = refl
no_places place (x ∷ xs) e = absurd (full (kept_none (place x ∷ []) (map place xs) (sym e)))
  where
    full : place x ∷ [] ≡ [] → ⊥
    full h = cc

-- ---- elements free of which has a duplicate name, after some that stand before them

abbrev HaveNone : List Element → List Element → Type 0
HaveNone before es = ListsThose HasDuplicateName (placed_after before es) []

first_has_none : (before : List Element) (e : Element) (es : List Element) → HaveNone before (e ∷ es) → HasDuplicateName (record { before = before; element = e }) → ⊥
first_has_none before e es (ListsThose.skip not rest) = not

others_have_none : (before : List Element) (e : Element) (es : List Element) → HaveNone before (e ∷ es) → HaveNone (before ++ e ∷ []) es
others_have_none before e es (ListsThose.skip not rest) = rest

front_has_none : (before xs ys : List Element) → HaveNone before (xs ++ ys) → HaveNone before xs
front_has_none before [] ys free = ListsThose.none
front_has_none before (x ∷ xs) ys free =
    ListsThose.skip (first_has_none before x (xs ++ ys) free) (front_has_none (before ++ x ∷ []) xs ys (others_have_none before x (xs ++ ys) free))

back_has_none : (before xs ys : List Element) → HaveNone before (xs ++ ys) → HaveNone (before ++ xs) ys
back_has_none before [] ys free = let P : List Element → Type 0 = λ b. HaveNone b ys in subst P (sym (append-nil before)) free
back_has_none before (x ∷ xs) ys free =
    let P : List Element → Type 0 = λ b. HaveNone b ys in
    subst P (append_assoc before (x ∷ []) xs) (back_has_none (before ++ x ∷ []) xs ys (others_have_none before x (xs ++ ys) free))

-- ---- what is claimed by more elements

claims_grow : (before more : List Element) → claims_after (before ++ more) ≡ claims_after before ++ flat_map claims_of more
claims_grow before more =
    ap (λ cs. built_in_claims ++ cs) (flat_map-append claims_of before more)
    ∙ sym (append_assoc built_in_claims (flat_map claims_of before) (flat_map claims_of more))

still_claimed : (before more : List Element) (claim : Claim) → Contains (claims_after before) claim → Contains (claims_after (before ++ more)) claim
still_claimed before more claim is =
    let P : List Claim → Type 0 = λ cs. Contains cs claim in
    subst P (sym (claims_grow before more)) (Contains-append_left (claims_after before) (flat_map claims_of more) claim is)

claims_class : (before : List Element) (i : ℕ) (c : Class) → Contains (claims_after (before ++ class_elements (i, c))) (claims.Type c.name)
claims_class before i c =
    let P : List Claim → Type 0 = λ cs. Contains cs (claims.Type c.name) in
    subst P (sym (claims_grow before (class_elements (i, c)))) (Contains-append_right (claims_after before) (flat_map claims_of (class_elements (i, c))) (claims.Type c.name) (0, omega arith, refl))

abbrev elements_from : ℕ → List Class → List Element
elements_from i cs = flat_map class_elements (enumerate_from i cs)

unclaimed : (cs : List Class) (i : ℕ) (before : List Element) (name : ℕ) → Contains (claims_after before) (claims.Type name) → HaveNone before (elements_from i cs) → has_class name cs ≡ false
unclaimed [] i before name is free = refl
unclaimed (c ∷ cs) i before name is free =
    by (unclaimed cs (i + 1) (before ++ class_elements (i, c)) name (still_claimed before (class_elements (i, c)) (claims.Type name) is) (back_has_none before (class_elements (i, c)) (elements_from (i + 1) cs) free))
    (nat_eq c.name name) refl
  where
    by : has_class name cs ≡ false → (b : Bool) → nat_eq c.name name ≡ b → (b || has_class name cs) ≡ false
    by rest false e = rest
    by rest true e =
        let same : c.name ≡ name = eqb-true c.name name e in
        let P : ℕ → Type 0 = λ n. Contains (claims_after before) (claims.Type n) in
        absurd (first_has_none before (Element.AClass i c) _ free (record { claim = claims.Type c.name; claimed = (0, omega arith, refl); earlier = subst P (sym same) is }))

apart_from : (cs : List Class) (i : ℕ) (before : List Element) → HaveNone before (elements_from i cs) → AreNamedApart cs
apart_from [] i before free = tt
apart_from (c ∷ cs) i before free =
    let rest = back_has_none before (class_elements (i, c)) (elements_from (i + 1) cs) free in (
      unclaimed cs (i + 1) (before ++ class_elements (i, c)) c.name (claims_class before i c) rest,
      apart_from cs (i + 1) (before ++ class_elements (i, c)) rest,
    )

pub apart : (d : Deployment) → AreNameProblems d [] → AreNamedApart d.classes
apart d found =
    let of_duplicate = problems_at kinds.DuplicateName found.duplicate in
    let of_unknown = problems_at kinds.UnknownName found.unknown in
    let of_cyclic = problems_at kinds.CyclicHierarchy found.cyclic in
    let no_problems : [] ≡ of_duplicate = front_none of_duplicate of_unknown (front_none (of_duplicate ++ of_unknown) of_cyclic found.are) in
    let no_duplicate : found.duplicate ≡ [] = map_none _ found.duplicate no_problems in
    let Q : List Placed → Type 0 = λ those. ListsThose HasDuplicateName (placed (elements_of d)) those in
    let those : found.are_duplicate.those ≡ [] = no_places (λ p. place_of p.element) found.are_duplicate.those (sym no_duplicate ∙ found.are_duplicate.are) in
    let all : HaveNone [] (elements_of d) = subst Q those found.are_duplicate.listed in
    let above = map Element.AnInterface d.interfaces ++ map Element.AQualifier d.qualifiers ++ map Element.ABinding d.bindings ++ map Element.AnException d.exceptions in
    let classes = elements_from 0 d.classes in
    let interceptors = flat_map interceptor_elements (enumerate_from 0 d.interceptors) in
    let selected = map Element.ASelectedName d.selected in
    let ordered = map Element.AnOrderedName d.order in
    let scripts = map Element.AScript d.scripts in
    apart_from d.classes 0 above
    (back_has_none [] above classes
    (front_has_none [] (above ++ classes) interceptors
    (front_has_none [] (above ++ classes ++ interceptors) selected
    (front_has_none [] (above ++ classes ++ interceptors ++ selected) ordered
    (front_has_none [] (above ++ classes ++ interceptors ++ selected ++ ordered) scripts all)))))
