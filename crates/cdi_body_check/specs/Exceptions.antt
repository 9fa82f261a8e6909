-- The exceptions that a deployment declares.
use Rattle.std.specs.Prelude.{ℕ, Bool, ◌==◌, ◌&&◌, List}
use Rattle.std.specs.List.{list_any}
use Rattle.cdi_deployment.specs.declared.deployment.Exception.{Exception}

abbrev pub is_declared : List Exception → ℕ → Bool
is_declared exceptions name = list_any (λ x. x.name == name) exceptions

-- a built-in exception is unchecked
abbrev pub is_checked : List Exception → ℕ → Bool
is_checked exceptions name = list_any (λ x. (x.name == name) && x.checked) exceptions
