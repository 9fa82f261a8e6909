-- A way up is found within as many steps as there are declarations: each lowers the height of the place of a name.
use Rattle.std.proofs.Common.{ℕ, zero, suc, ◌≡◌, ◌<◌, ◌≤◌, ◌+◌, ◌∙◌, ◌||◌, ◌⊎◌, inl, inr, Bool, true, false, nat_eq, List, Option, Some, None, length, refl, sym, ap, subst, arith}
use Rattle.std.specs.Prelude.{if◌then◌else◌}
use Rattle.std.proofs.lemmas.Bool.{cases_Bool, cases_eq, eq-eqb, eqb-true, or_cases, true≢false}
use Rattle.std.proofs.lemmas.List.{length-map}
use Rattle.std.proofs.lemmas.Option.{slice_get_within}
use Rattle.std.specs.List.{Contains}
use Rattle.cdi_paths.proofs.Heights.{height-falls}
use Rattle.cdi_types.proofs.Listed.{cases_Option, not_in_none}
use Rattle.cdi_paths.proofs.Paths.{path_from_through}
use Rattle.cdi_types.proofs.Refined.{below_from_path, edge_to, is_graph, nothing_above}
use Rattle.cdi_paths.specs.Graph.{ProperPath}
use Rattle.cdi_paths.specs.Height.{count_below, height}
use Rattle.cdi_types.specs.Nodes.{graph_of, place_of}
use Rattle.cdi_paths.specs.Rounds.{has_path_through}
use Rattle.cdi_types.specs.Subtype.{IsAcyclic, IsBelow, IsSubtype, object, supertypes_of}
use Rattle.cdi_types.specs.declared.declaration.TypeDeclaration.{TypeDeclaration}
use Rattle.cdi_event_tables.specs.Events.{is_below_within, is_subtype}
use Rattle.cdi_accepted.proofs.Lists.{among_contains, any_passes, contains_among, passing}
use Rattle.cdi_accepted.proofs.Positions.{found_at}
use Rattle.cdi_accepted.specs.Ties.{SubtypesAre}

-- ---- heights are below the number of declarations

count_le : (p : ℕ → Bool) (n : ℕ) → count_below p n ≤ n
count_le p zero = omega arith
count_le p (suc n) = by (p n) (count_le p n)
  where
    by : (b : Bool) → count_below p n ≤ n → (if b then 1 else 0) + count_below p n ≤ suc n
    by true le = omega (arith, le)
    by false le = omega (arith, le)

count_lt : (p : ℕ → Bool) (n k : ℕ) → k < n → p k ≡ false → count_below p n < n
count_lt p zero k lt e = absurd (omega arith)
count_lt p (suc n) k lt e =
    elim (cases_eq k n) [
      | inl same ↦ (let off : p n ≡ false = ap p (sym same) ∙ e in let le = count_le p n in rw off (omega (arith, le)))
      | inr other ↦ (let less = count_lt p n k (omega arith) e in by (p n) less)
    ]
  where
    by : (b : Bool) → count_below p n < n → (if b then 1 else 0) + count_below p n < suc n
    by true less = omega (arith, less)
    by false less = omega (arith, less)

height_below : (graph : List (List ℕ)) (i : ℕ) → i < length graph → (ProperPath graph i i → ⊥) → height graph i < length graph
unfolding height
height_below graph i lt acyclic =
    count_lt (has_path_through graph (length graph) i) (length graph) i lt
    (elim (cases_Bool (has_path_through graph (length graph) i i)) [ inl path ↦ absurd (acyclic (path_from_through graph (length graph) i i path)) | inr nothing ↦ nothing ])

-- one more than the height of a name's place
abbrev steps_at : List TypeDeclaration → Option ℕ → ℕ
steps_at types None = 0
steps_at types (Some i) = height (graph_of (place_of types) types) i + 1

module _ (types : List TypeDeclaration) (acyclic : IsAcyclic types) where
  abbrev place : ℕ → Option ℕ
  place = place_of types

  abbrev steps : ℕ → ℕ
  steps name = steps_at types (place_of types name)

  same : (name : ℕ) → place name ≡ place_of types name
  same name = refl

  falls : (a b : ℕ) → Contains (supertypes_of types a) b → steps b < steps a
  falls a b up =
      elim (cases_Option (place_of types a)) [
        | inl none ↦ absurd (not_in_none (supertypes_of types a) b (nothing_above types place same a none) up)
        | inr at ↦ elim (cases_Option (place_of types b)) [
          | inl none ↦ rw (none, at.1) (omega arith)
          | inr above ↦ (
              let lower = height-falls (graph_of place types) (is_graph types place same) at.0 above.0 (edge_to types place same a at.0 b above.0 at.1 up above.1) (λ p. acyclic b (below_from_path types place same b b above.0 above.0 above.1 above.1 p)) in
              rw (at.1, above.1) (omega (arith, lower))
              )
        ]
      ]

  few : (a : ℕ) → steps a ≤ length types
  few a =
      elim (cases_Option (place_of types a)) [
        | inl none ↦ rw none (omega arith)
        | inr at ↦ (
            let found = found_at (λ (d : TypeDeclaration). nat_eq d.name a) types at.0 at.1 in
            let within : at.0 < length types = slice_get_within types at.0 found.item found.has in
            let size : length (graph_of place types) ≡ length types = length-map types _ in
            let low = height_below (graph_of place types) at.0 (omega (arith, within, size)) (λ p. acyclic a (below_from_path types place same a a at.0 at.0 at.1 at.1 p)) in
            rw at.1 (omega (arith, low, size))
            )
      ]

  -- ---- what is found is above, and what is above is found

  found_below : (n a b : ℕ) → is_below_within types n a b ≡ true → IsBelow types a b
  found_below zero a b e = absurd (true≢false (sym e))
  found_below (suc n) a b e =
      let found = passing (λ c. nat_eq c b || is_below_within types n c b) (supertypes_of types a) e in
      let there = among_contains (supertypes_of types a) found.item found.stands in
      by (λ c. found_below n c b) found.item there (or_cases (nat_eq found.item b) (is_below_within types n found.item b) found.passes)
    where
      by : ((c : ℕ) → is_below_within types n c b ≡ true → IsBelow types c b) → (c : ℕ) → Contains (supertypes_of types a) c → (nat_eq c b ≡ true) ⊎ (is_below_within types n c b ≡ true) → IsBelow types a b
      by rest c there (inl is) = let P : ℕ → Type 0 = λ k. Contains (supertypes_of types a) k in IsBelow.directly (subst P (eqb-true c b is) there)
      by rest c there (inr more) = IsBelow.further there (rest c more)

  below_found : (n a b : ℕ) → steps a ≤ n → IsBelow types a b → is_below_within types n a b ≡ true
  below_found zero a b le (IsBelow.directly up) = let lt = falls a b up in absurd (omega (arith, le, lt))
  below_found zero a b le (IsBelow.further {b = c} up p) = let lt = falls a c up in absurd (omega (arith, le, lt))
  below_found (suc n) a b le (IsBelow.directly up) =
      any_passes (λ c. nat_eq c b || is_below_within types n c b) (supertypes_of types a) b (contains_among (supertypes_of types a) b up) (ap (λ k. k || is_below_within types n b b) (eq-eqb b b refl))
  below_found (suc n) a b le (IsBelow.further {b = c} up p) =
      let lt = falls a c up in
      let more = below_found n c b (omega (arith, le, lt)) p in
      any_passes (λ c. nat_eq c b || is_below_within types n c b) (supertypes_of types a) c (contains_among (supertypes_of types a) c up) (ap (λ k. nat_eq c b || k) more ∙ or_true (nat_eq c b))
    where
      or_true : (k : Bool) → (k || true) ≡ true
      or_true true = refl
      or_true false = refl

  -- ---- subtypes

  to_subtype : (a b : ℕ) → is_subtype types a b ≡ true → IsSubtype types a b
  to_subtype a b e = by (or_cases (nat_eq a b || nat_eq b object) (is_below_within types (length types) a b) e)
    where
      either : (nat_eq a b ≡ true) ⊎ (nat_eq b object ≡ true) → IsSubtype types a b
      either (inl is) = let P : ℕ → Type 0 = λ k. IsSubtype types a k in subst P (eqb-true a b is) IsSubtype.itself
      either (inr is) = let P : ℕ → Type 0 = λ k. IsSubtype types a k in subst P (sym (eqb-true b object is)) IsSubtype.object_above

      by : ((nat_eq a b || nat_eq b object) ≡ true) ⊎ (is_below_within types (length types) a b ≡ true) → IsSubtype types a b
      by (inl is) = either (or_cases (nat_eq a b) (nat_eq b object) is)
      by (inr is) = IsSubtype.below_it (found_below (length types) a b is)

  right : (j k : Bool) → k ≡ true → (j || k) ≡ true
  right true k e = refl
  right false k e = e

  from_subtype : (a b : ℕ) → IsSubtype types a b → is_subtype types a b ≡ true
  from_subtype a b IsSubtype.itself = ap (λ k. k || nat_eq a object || is_below_within types (length types) a a) (eq-eqb a a refl)
  from_subtype a b IsSubtype.object_above = ap (λ k. k || is_below_within types (length types) a object) (right (nat_eq a object) true refl)
  from_subtype a b (IsSubtype.below_it p) = right (nat_eq a b || nat_eq b object) (is_below_within types (length types) a b) (below_found (length types) a b (few a) p)

pub subtypes_are : SubtypesAre
subtypes_are types acyclic a b = (to_subtype types acyclic a b, from_subtype types acyclic a b)
