-- A graph depends on what the places of names are alone, and not on how they are looked up.
use Rattle.std.proofs.Common.{◌≡◌, ℕ, List, [], ◌∷◌, Option, map, refl, ap₂}
use Rattle.std.specs.List.{filter_map, cons_option}
use Rattle.cdi_types.specs.Nodes.{graph_of}
use Rattle.cdi_types.specs.Subtype.{supertypes_of}
use Rattle.cdi_types.specs.declared.declaration.TypeDeclaration.{TypeDeclaration}

module _ (f g : ℕ → Option ℕ) (same : (name : ℕ) → f name ≡ g name) where
  same_row : (names : List ℕ) → filter_map f names ≡ filter_map g names
  same_row [] = refl
  same_row (name ∷ names) = ap₂ cons_option (same name) (same_row names)

  same_rows : (all types : List TypeDeclaration) → map (λ d. filter_map f (supertypes_of all d.name)) types ≡ map (λ d. filter_map g (supertypes_of all d.name)) types
  same_rows all [] = refl
  same_rows all (d ∷ types) = ap₂ (λ row rows. row ∷ rows) (same_row (supertypes_of all d.name)) (same_rows all types)

  pub same_graph : (types : List TypeDeclaration) → graph_of f types ≡ graph_of g types
  same_graph types = same_rows types types
