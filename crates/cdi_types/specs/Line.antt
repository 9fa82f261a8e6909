-- The line of a class: it with its superclasses, the topmost first.
use Rattle.std.specs.Prelude.{ℕ, ◌==◌, ◌≡◌, List, Option, option_and_then, position, slice_get}
use Rattle.std.specs.List.{find, filter_map}
use Rattle.cdi_deployment.specs.declared.deployment.Class.{Class}
use Rattle.cdi_types.specs.declared.declaration.TypeDeclaration.{TypeDeclaration}
use Rattle.cdi_types.specs.Lineage.{IsLineage}

-- the class of a name; if several have it, the first one counts
abbrev pub class_named : List Class → ℕ → Option Class
class_named classes name = find (λ c. c.name == name) classes

-- the place of the first class of a name
abbrev pub place_named : List Class → ℕ → Option ℕ
place_named classes name = position (λ c. c.name == name) classes

-- the place of the class that a class extends; place tells the places of names
abbrev pub place_of_superclass : (ℕ → Option ℕ) → Class → Option ℕ
place_of_superclass place class = option_and_then place class.extends

-- what the class at a place extends
abbrev pub superclass_at : List Class → ℕ → Option ℕ
superclass_at classes place = option_and_then (λ c. c.extends) (slice_get classes place)

-- the classes of these that the lineage of a name names; names of no class are passed over
pub record IsLineOf (types : List TypeDeclaration) (classes : List Class) (name : ℕ)
    (line : List Class) : Type 0 where
  pub names : List ℕ
  pub lineage : IsLineage types name names
  pub named : line ≡ filter_map (class_named classes) names
