-- The names of an element that aren't declared, or are of the wrong kind.
use Rattle.std.specs.Prelude.{Bool, List, filter, not}
use Rattle.cdi_deployment.specs.Lists.{stands_in}
use Rattle.cdi_deployment.specs.declared.deployment.Deployment.{Deployment}
use Rattle.cdi_name_uses.specs.Groups.{group_names}
use Rattle.cdi_name_uses.specs.Uses.{uses_of}
use Rattle.cdi_name_uses.specs.declared.name_use.NameUse.{NameUse}
use Rattle.cdi_problems.specs.Elements.{Element}

-- a name is of the group that it has to be of
abbrev pub is_known : Deployment → Element → NameUse → Bool
is_known d e u = stands_in (group_names d e u.group) u.name

abbrev pub unknown_among : Deployment → Element → List NameUse → List NameUse
unknown_among d e uses = filter (λ u. not (is_known d e u)) uses

-- those of the names that an element uses
abbrev pub unknown_names : Deployment → Element → List NameUse
unknown_names d e = unknown_among d e (uses_of e)
