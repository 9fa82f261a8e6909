-- The names in steps that a deployment doesn't declare.
use Rattle.std.specs.Prelude.{Bool, List, Option, find, not}
use Rattle.cdi_deployment.specs.Lists.{stands_in}
use Rattle.cdi_deployment.specs.declared.deployment.Deployment.{Deployment}
use Rattle.cdi_name_uses.specs.Known.{known_names}
use Rattle.cdi_name_uses.specs.declared.step_name.StepName.{StepName}

-- a name is declared as what it has to be
abbrev pub is_known : Deployment → StepName → Bool
is_known d u = stands_in (known_names d u.group) u.name

abbrev pub is_unknown : Deployment → StepName → Bool
is_unknown d u = not (is_known d u)

-- the first of some names that isn't
abbrev pub first_unknown : Deployment → List StepName → Option StepName
first_unknown d used = find (is_unknown d) used
