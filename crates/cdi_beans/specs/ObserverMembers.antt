-- The members of a bean that are observers.
use Rattle.std.specs.Prelude.{◌≡◌, List}
use Rattle.cdi_deployment.specs.declared.deployment.Class.{Class}
use Rattle.cdi_deployment.specs.declared.deployment.Deployment.{Deployment}
use Rattle.cdi_deployment.specs.declared.deployment.Member.{Member}
use Rattle.cdi_types.specs.Declarations.{declarations_of}
use Rattle.cdi_types.specs.Kinds.{of_kind}
use Rattle.cdi_types.specs.declared.kind.MemberKind.TheVariants as kinds
use Rattle.cdi_bean_check.specs.Inherited.{AreMembersOf}

-- the observers among the members of a bean, superclass first, each with the class that declares it
pub record AreObserverMembersOf (d : Deployment) (bean : Class) (observers : List (Class × Member))
    : Type 0 where
  pub has : List (Class × Member)
  pub are : AreMembersOf d.classes (declarations_of d) bean has
  pub those : observers ≡ of_kind kinds.Observer has
