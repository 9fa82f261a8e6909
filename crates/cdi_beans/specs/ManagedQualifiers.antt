-- The qualifiers of managed beans.
use Rattle.std.specs.Prelude.{◌≡◌, List, ◌++◌, Option, Some, None}
use Rattle.std.specs.List.{flat_map}
use Rattle.std.specs.Rc.{rc_value}
use Rattle.std.specs.declared.rc.Rc.{Rc}
use Rattle.cdi_base.specs.declared.uses.Use.{Use}
use Rattle.cdi_deployment.specs.declared.deployment.Class.{Class}
use Rattle.cdi_quals.specs.declared.qualifier.Qualifier.{Qualifier}
use Rattle.cdi_quals.specs.declared.types.QualifierType.{QualifierType}
use Rattle.cdi_bean_check.specs.Qualifiers.{AreUsesOf, declared_uses, full_uses, specialized_bean, specializing_uses, uses_with_built_in}

-- the qualifiers that some parts hold
abbrev pub qualifiers_in : {Z : Type 0} → List (Rc (List Qualifier) Z) → List Qualifier
qualifiers_in = flat_map rc_value

-- what a bean that declares these has besides the qualifiers of the bean that it specializes, if it specializes one
abbrev pub added_uses : Option Class → List Use → List Use
added_uses None = uses_with_built_in
added_uses (Some s) = specializing_uses

abbrev pub own_uses : List Class → Class → List Use
own_uses classes c = added_uses (specialized_bean classes c) (declared_uses c.bean)

-- the qualifiers of a managed bean: its uses, each with all members of its type
pub record AreManaged (classes : List Class) (types : List QualifierType) (c : Class)
    (qualifiers : List Qualifier) : Type 0 where
  pub uses : List Use
  pub are_uses : AreUsesOf classes c uses
  pub are_full : qualifiers ≡ full_uses types uses

-- those that a managed bean has of the beans that it specializes
pub record AreSpecialized (classes : List Class) (types : List QualifierType) (c : Class)
    (qualifiers : List Qualifier) : Type 0 where
  pub uses : List Use
  pub are_uses : AreUsesOf classes c (own_uses classes c ++ uses)
  pub are_full : qualifiers ≡ full_uses types uses
