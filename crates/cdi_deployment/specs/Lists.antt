-- What stands in the lists of a deployment.
use Rattle.std.specs.Prelude.{ℕ, Bool, ◌==◌, List}
use Rattle.std.specs.List.{list_any}
use Rattle.cdi_deployment.specs.declared.deployment.Class.{Class}

-- a name stands in a list of names
abbrev pub stands_in : List ℕ → ℕ → Bool
stands_in names name = list_any (λ n. n == name) names

-- a class of this name is declared
abbrev pub is_declared_class : List Class → ℕ → Bool
is_declared_class classes name = list_any (λ c. c.name == name) classes
