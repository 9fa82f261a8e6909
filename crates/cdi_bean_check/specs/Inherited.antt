-- The members of a bean (Jakarta CDI 4.0, Inheritance and specialization).
use Rattle.std.specs.Prelude.{◌≡◌, List}
use Rattle.cdi_deployment.specs.declared.deployment.Class.{Class}
use Rattle.cdi_deployment.specs.declared.deployment.Member.{Member}
use Rattle.cdi_types.specs.Line.{IsLineOf}
use Rattle.cdi_types.specs.Members.{members_of}
use Rattle.cdi_types.specs.declared.declaration.TypeDeclaration.{TypeDeclaration}

-- the members of a bean, superclass first, each with the class that declares it
pub record AreMembersOf (classes : List Class) (types : List TypeDeclaration) (bean : Class)
    (has : List (Class × Member)) : Type 0 where
  pub line : List Class
  pub is_line : IsLineOf types classes bean.name line
  pub are : has ≡ members_of line
