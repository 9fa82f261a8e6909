-- The declared types as nodes of a graph, each under the index of its declaration.
use Rattle.std.specs.Prelude.{ℕ, ◌==◌, ◌≡◌, List, Option, map, position}
use Rattle.std.specs.List.{filter_map}
use Rattle.cdi_types.specs.declared.declaration.TypeDeclaration.{TypeDeclaration}
use Rattle.cdi_types.specs.declared.index.TypeIndex.{TypeIndex}
use Rattle.cdi_types.specs.Above.{place_above}
use Rattle.cdi_types.specs.Index.{place_in}
use Rattle.cdi_types.specs.Subtype.{supertypes_of}

-- the place of the first declaration of a name
abbrev pub place_of : List TypeDeclaration → ℕ → Option ℕ
place_of types name = position (λ d. d.name == name) types

-- each declaration has the edges of its name, to the places of first declarations
abbrev pub graph_of : (ℕ → Option ℕ) → List TypeDeclaration → List (List ℕ)
graph_of place types = map (λ d. filter_map place (supertypes_of types d.name)) types

pub record IsGraphOf (types : List TypeDeclaration) (index : TypeIndex) (first above : List (Option ℕ))
    (graph : List (List ℕ)) : Type 0 where
  pub places : (name : ℕ) → place_in index name ≡ place_of types name
  pub firsts : first ≡ map (λ d. place_in index d.name) types
  pub superclasses : above ≡ map (place_above (place_in index)) types
  pub edges : graph ≡ graph_of (place_in index) types
