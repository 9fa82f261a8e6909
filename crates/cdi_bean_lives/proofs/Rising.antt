-- In the line of a class, each class has the part of the line up to it for a line.
use Rattle.std.proofs.Common.{ℕ, ◌≡◌, ◌∙◌, ◌+◌, ◌<◌, ◌⊎◌, inl, inr, Bool, true, false, cond, nat_eq, List, [], ◌∷◌, ◌++◌, length, take, Option, Some, None, slice_get, refl, sym, ap, subst, append-nil, arith}
use Rattle.std.proofs.lemmas.Bool.{cases_order, eqb-true}
use Rattle.std.proofs.lemmas.List.{get_or_append_left, get_or_push, length_push, take-append-le, take_all}
use Rattle.std.proofs.lemmas.List.Elements.{filter_map-append}
use Rattle.std.proofs.lemmas.Option.{get_or_from_slice_get, same_Some, slice_get-get_or, slice_get_within}
use Rattle.std.specs.List.{cons_option, filter_map}
use Rattle.cdi_deployment.specs.declared.deployment.Class.{Class}
use Rattle.cdi_types.specs.Line.{IsLineOf, class_named}
use Rattle.cdi_types.specs.Lineage.{IsLineage}
use Rattle.cdi_types.specs.declared.declaration.TypeDeclaration.{TypeDeclaration}

-- a class that is found by a name has it
pub named_so : (classes : List Class) (name : ℕ) (c : Class) → class_named classes name ≡ Some c → c.name ≡ name
named_so [] name c e = absurd cc
named_so (d ∷ classes) name c e = by (nat_eq d.name name) refl (named_so classes name c) e
  where
    by : (b : Bool) → nat_eq d.name name ≡ b → (class_named classes name ≡ Some c → c.name ≡ name)
        → cond b (Some d) (class_named classes name) ≡ Some c → c.name ≡ name
    by true same rest f = sym (ap (λ (x : Class). x.name) (same_Some d c f)) ∙ eqb-true d.name name same
    by false other rest f = rest f

module _ (types : List TypeDeclaration) (classes : List Class) where
  abbrev found : List ℕ → List Class
  found names = filter_map (class_named classes) names

  abbrev IsRising : List Class → Type 0
  IsRising line = (j : ℕ) (c : Class) → slice_get line j ≡ Some c → IsLineOf types classes c.name (take (1 + j) line)

  -- with one class more
  one_more : (line : List Class) (d : Class) → IsRising line → IsLineOf types classes d.name (line ++ d ∷ []) → IsRising (line ++ d ∷ [])
  one_more line d rising whole = λ j c e. by j c e (cases_order j (length line))
    where
      by : (j : ℕ) (c : Class) → slice_get (line ++ d ∷ []) j ≡ Some c → (j ≡ length line) ⊎ ((j < length line) ⊎ (length line < j)) → IsLineOf types classes c.name (take (1 + j) (line ++ d ∷ []))
      by j c e (inl at) =
          let last : c ≡ d = sym (get_or_from_slice_get (line ++ d ∷ []) j c d e) ∙ get_or_push line d d j (sym at) in
          let all : take (1 + j) (line ++ d ∷ []) ≡ line ++ d ∷ [] = take_all (1 + j) (line ++ d ∷ []) (omega (arith, at, length_push line d)) in
          subst (IsLineOf types classes c.name) (sym all) (subst (λ (x : Class). IsLineOf types classes x.name (line ++ d ∷ [])) (sym last) whole)
      by j c e (inr (inl lt)) =
          let there : slice_get line j ≡ Some c = slice_get-get_or line j c lt ∙ ap Some (sym (get_or_append_left line (d ∷ []) c j lt) ∙ get_or_from_slice_get (line ++ d ∷ []) j c c e) in
          subst (IsLineOf types classes c.name) (sym (take-append-le (1 + j) line (d ∷ []) (omega (arith, lt)))) (rising j c there)
      by j c e (inr (inr gt)) =
          absurd (omega (arith, gt, slice_get_within (line ++ d ∷ []) j c e, length_push line d))

  rising_one : (name : ℕ) (names : List ℕ) (o : Option Class) → class_named classes name ≡ o → IsLineage types name names
      → (front : List ℕ) → names ≡ front ++ name ∷ [] → IsRising (found front) → IsRising (found names)
  rising_one name names None e lineage front is rising =
      subst IsRising (sym (ap found is ∙ filter_map-append (class_named classes) front (name ∷ []) ∙ ap (λ o. found front ++ cons_option o []) e ∙ append-nil (found front))) rising
  rising_one name names (Some d) e lineage front is rising =
      let same : d.name ≡ name = named_so classes name d e in
      let split : found names ≡ found front ++ d ∷ [] = ap found is ∙ filter_map-append (class_named classes) front (name ∷ []) ∙ ap (λ o. found front ++ cons_option o []) e in
      subst IsRising (sym split)
      (one_more (found front) d rising
      (record { names = names; lineage = subst (λ n. IsLineage types n names) (sym same) lineage; named = sym split }))

  none_rising : IsRising []
  none_rising = λ j c e. absurd cc

  pub rising : (name : ℕ) (names : List ℕ) → IsLineage types name names → IsRising (found names)
  rising name names IsLineage.above_all = none_rising
  rising name names (IsLineage.top below none) = rising_one name (name ∷ []) (class_named classes name) refl (IsLineage.top below none) [] refl none_rising
  rising name names (IsLineage.next {b = b} {names = ns} below some rest) =
      rising_one name (ns ++ name ∷ []) (class_named classes name) refl (IsLineage.next below some rest) ns refl (rising b ns rest)
