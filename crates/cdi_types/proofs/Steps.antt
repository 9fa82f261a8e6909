-- The walk up to the superclasses ends.
use Rattle.std.proofs.Common.{◌≡◌, ℕ, ◌+◌, ◌<◌, List, Option, Some, None, refl, inl, inr, arith}
use Rattle.std.specs.List.{Contains}
use Rattle.cdi_paths.specs.Height.{height}
use Rattle.cdi_paths.proofs.Heights.{height-falls}
use Rattle.cdi_types.specs.declared.declaration.TypeDeclaration.{TypeDeclaration}
use Rattle.cdi_types.specs.Lineage.{superclass_of}
use Rattle.cdi_types.specs.Nodes.{place_of, graph_of}
use Rattle.cdi_types.specs.Subtype.{supertypes_of, IsAcyclic}
use Rattle.cdi_types.proofs.Listed.{cases_Option, not_in_none}
use Rattle.cdi_types.proofs.Refined.{is_graph, nothing_above, edge_to, below_from_path}
use Rattle.cdi_types.proofs.Supertypes.{superclass_above}

-- one more than the height of a name's place
abbrev pub steps_at : List TypeDeclaration → Option ℕ → ℕ
steps_at types None = 0
steps_at types (Some i) = height (graph_of (place_of types) types) i + 1

abbrev pub steps_of : List TypeDeclaration → ℕ → ℕ
steps_of types name = steps_at types (place_of types name)

pub steps-fall : (types : List TypeDeclaration) → IsAcyclic types → (a b : ℕ) → superclass_of types a ≡ Some b → steps_of types b < steps_of types a
steps-fall types acyclic a b e =
    let place = place_of types in
    let same : (name : ℕ) → place name ≡ place_of types name = λ _. refl in
    let up : Contains (supertypes_of types a) b = superclass_above types a b e in
    elim (cases_Option (place_of types a)) [
      | inl none ↦ absurd (not_in_none (supertypes_of types a) b (nothing_above types place same a none) up)
      | inr at ↦ elim (cases_Option (place_of types b)) [
        | inl none ↦ rw (none, at.1) (omega arith)
        | inr above ↦ (
            let falls = height-falls (graph_of place types) (is_graph types place same) at.0 above.0 (edge_to types place same a at.0 b above.0 at.1 up above.1) (λ p. acyclic b (below_from_path types place same b b above.0 above.0 above.1 above.1 p)) in
            rw (at.1, above.1) (omega (arith, falls))
            )
      ]
    ]
