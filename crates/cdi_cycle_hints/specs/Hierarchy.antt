-- The cycle that a type stands on which is its own supertype, in words.
use Rattle.std.specs.Prelude.{ℕ, List, [], ◌∷◌, ◌++◌, codes, slice_get, Option, Some, None}
use Rattle.std.specs.List.{flat_map}
use Rattle.cdi_deployment.specs.declared.deployment.Deployment.{Deployment}
use Rattle.cdi_cycle_hints.specs.ToldCycle.{told_cycle}
use Rattle.cdi_problems.specs.Elements.{Element}
use Rattle.cdi_problems.specs.Places.{name_text}
use Rattle.cdi_types.specs.Declarations.{declarations_of}
use Rattle.cdi_types.specs.Nodes.{graph_of, place_of}
use Rattle.cdi_types.specs.declared.declaration.TypeDeclaration.{TypeDeclaration}

-- the graph of the types, from each to what stands directly above it
abbrev pub rows_of : List TypeDeclaration → List (List ℕ)
rows_of types = graph_of (place_of types) types

abbrev pub cycle_at : List TypeDeclaration → Option ℕ → List ℕ
cycle_at types None = []
cycle_at types (Some place) = told_cycle (rows_of types) place

-- the places of the types on a cycle through one, if it stands on one
abbrev pub cycle_of : List TypeDeclaration → ℕ → List ℕ
cycle_of types name = cycle_at types (place_of types name)

abbrev pub name_by : List (List ℕ) → Option TypeDeclaration → List ℕ
name_by names None = []
name_by names (Some declared) = name_text names declared.name

-- the text of the name that is declared at a place
abbrev pub name_at : List (List ℕ) → List TypeDeclaration → ℕ → List ℕ
name_at names types place = name_by names (slice_get types place)

abbrev pub first_text : List (List ℕ) → List TypeDeclaration → ℕ → List ℕ
first_text names types place = codes "; the cycle is " ++ name_at names types place

abbrev pub names_text : List (List ℕ) → List TypeDeclaration → List ℕ → List ℕ
names_text names types places = flat_map (λ place. codes ", " ++ name_at names types place) places

abbrev pub cycle_text : List (List ℕ) → List TypeDeclaration → List ℕ → List ℕ
cycle_text names types [] = []
cycle_text names types (first ∷ others) =
    first_text names types first ++ names_text names types others

abbrev pub type_text : Deployment → ℕ → List ℕ
type_text d name = cycle_text d.names (declarations_of d) (cycle_of (declarations_of d) name)

-- the types on a cycle through an interface or a class
abbrev pub hierarchy_text : Deployment → Element → List ℕ
hierarchy_text d (Element.AnInterface i) = type_text d i.name
hierarchy_text d (Element.AClass i c) = type_text d c.name
hierarchy_text d _ = []
