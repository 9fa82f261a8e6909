-- Short words for what the definition speaks of.
use Rattle.std.specs.Prelude.{ℕ, List}
use Rattle.cdi_base.specs.declared.value.Value.{Value}
use Rattle.cdi_base.specs.declared.uses.Use.{Use}

-- a name is its number in the deployment's table of names
abbrev pub Name : Type 0
Name = ℕ

-- the values of fields, or of context data, by their names
abbrev pub Fields : Type 0
Fields = List (ℕ × Value)

-- what an injection point, a lookup or a command asks for: a type and qualifiers
pub record Asked : Type 0 where
  pub type : Name
  pub qualifiers : List Use
