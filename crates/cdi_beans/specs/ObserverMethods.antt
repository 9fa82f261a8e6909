-- The observers of beans (Jakarta CDI 4.0, Observer methods, Observer ordering).
use Rattle.std.specs.Prelude.{ℤ, pos, ◌≡◌, ◌++◌, List, [], ◌∷◌, Option, Some, None, unwrap_or}
use Rattle.std.specs.List.{filter_map, AllZip}
use Rattle.cdi_deployment.specs.declared.deployment.Class.{Class}
use Rattle.cdi_deployment.specs.declared.deployment.Deployment.{Deployment}
use Rattle.cdi_deployment.specs.declared.deployment.Member.{Member}
use Rattle.cdi_deployment.specs.declared.deployment.Member.TheVariants as members
use Rattle.cdi_deployment.specs.declared.deployment.Observer.{Observer}
use Rattle.cdi_quals.specs.declared.types.QualifierType.{QualifierType}
use Rattle.cdi_types.specs.Declarations.{declarations_of}
use Rattle.cdi_bean_check.specs.Inherited.{AreMembersOf}
use Rattle.cdi_bean_check.specs.Qualifiers.{IsSetOf}
use Rattle.cdi_beans.specs.declared.bean.ObserverMethod.{ObserverMethod}

abbrev pub observer : Class × Member → Option (Class × Observer)
observer (c, members.Observer o) = Some (c, o)
observer (c, m) = None

-- an observer has the priority 2,500 if it declares none
abbrev pub observer_priority : Observer → ℤ
observer_priority o = unwrap_or o.priority (pos 2500)

-- an observer that a bean has, with the class that declares it
pub record IsObserverOf (d : Deployment) (qualifiers : List QualifierType) (bean : Class)
    (declared : Class × Observer) (m : ObserverMethod) : Type 0 where
  pub of_bean : m.bean ≡ bean.name
  pub of_class : m.class ≡ declared.0.name
  pub name : m.name ≡ declared.1.name
  pub type : m.ty ≡ declared.1.ty
  pub set : IsSetOf d.names qualifiers declared.1.quals m.qualifiers
  pub priority : m.priority ≡ observer_priority declared.1
  pub if_exists : m.if_exists ≡ declared.1.if_exists

-- the observers of some beans: bean by bean, those among the members that it has
pub data AreObserversOf (d : Deployment) (qualifiers : List QualifierType)
    : List Class → List ObserverMethod → Type 0 where
  none : AreObserversOf d qualifiers [] []
  next :
      {c : Class} {cs : List Class} {has : List (Class × Member)} {rest : List ObserverMethod}
      (first : List ObserverMethod) → AreMembersOf d.classes (declarations_of d) c has
      → AllZip (IsObserverOf d qualifiers c) (filter_map observer has) first
      → AreObserversOf d qualifiers cs rest
      → AreObserversOf d qualifiers (c ∷ cs) (first ++ rest)
