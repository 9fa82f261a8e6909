-- What the injected fields of classes need, found once for each class.
use Rattle.std.specs.Prelude.{ℕ, ◌≡◌, List, [], All, map, Some, option_map, unwrap_or, nat_eq}
use Rattle.std.specs.HashMap.{get}
use Rattle.std.specs.List.{filter_map}
use Rattle.cdi_deployment.specs.declared.deployment.Class.{Class}
use Rattle.cdi_types.specs.Line.{class_named}
use Rattle.cdi_live.specs.Needs.{needed_at}
use Rattle.cdi_live.specs.OwnPoints.{Inventory}
use Rattle.cdi_live.specs.Points.{field_point}
use Rattle.cdi_live.specs.declared.field_needs.FieldNeeds.{FieldNeeds}
use Rattle.cdi_live.specs.declared.node.Node.{Node}

-- what the injected fields need that a class declares
abbrev pub needs_of_fields : Inventory → Class → List Node
needs_of_fields s class = filter_map (needed_at s) (map field_point class.inject)

-- what a table tells of the class of a name
abbrev pub list_of : FieldNeeds → ℕ → List Node
list_of t name = unwrap_or (get nat_eq t.lists name) []

-- a table tells this of each class of the deployment, and of no other name
pub record AreFieldNeeds (s : Inventory) (t : FieldNeeds) : Type 0 where
  pub told : (name : ℕ) → get nat_eq t.lists name
      ≡ option_map (needs_of_fields s) (class_named s.enabled.classes name)

-- each class of a line is the one of its name
abbrev pub AreNamed : Inventory → List Class → Type 0
AreNamed s line = All (λ class. class_named s.enabled.classes class.name ≡ Some class) line
