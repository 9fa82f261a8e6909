-- Observers of beans (Jakarta CDI 4.0, Observer methods, Conditional observer methods).
use Rattle.std.specs.Prelude.{ℕ, ◌≡◌, Bool, false, List, Option, Some, None, IsTrue, if◌then◌else◌}
use Rattle.std.specs.HashSet.{HashSet}
use Rattle.std.specs.List.{filter_map}
use Rattle.cdi_deployment.specs.declared.deployment.Class.{Class}
use Rattle.cdi_deployment.specs.declared.deployment.Member.{Member}
use Rattle.cdi_deployment.specs.declared.deployment.Member.TheVariants as members
use Rattle.cdi_deployment.specs.Member.{member_name}
use Rattle.cdi_problems.specs.Elements.{Element}
use Rattle.cdi_types.specs.declared.declaration.TypeDeclaration.{TypeDeclaration}
use Rattle.cdi_bean_check.specs.Inherited.{AreMembersOf}
use Rattle.cdi_bean_check.specs.ManagedBeans.{has_dependent_scope}
use Rattle.cdi_bean_check.specs.MemberPlaces.{MemberPlace, has_place, stands_at, IsOfSome}

abbrev pub is_conditional : Member → Bool
is_conditional (members.Observer o) = o.if_exists
is_conditional m = false

-- where a member of a class is declared, if it is a conditional observer
abbrev pub conditional_place : Class × Member → Option MemberPlace
conditional_place d = if is_conditional d.1 then Some (d.0.name, member_name d.1) else None

abbrev pub conditional_places : List (Class × Member) → List MemberPlace
conditional_places has = filter_map conditional_place has

-- a class is a bean of the dependent pseudo-scope, and has a conditional observer that is declared at a place
pub record HasConditionalAt (classes : List Class) (types : List TypeDeclaration) (bean : Class)
    (place : MemberPlace) : Type 0 where
  pub dependent : IsTrue (has_dependent_scope bean.bean)
  pub has : List (Class × Member)
  pub are : AreMembersOf classes types bean has
  pub conditional : IsTrue (stands_at (conditional_places has) place)

-- a bean of the dependent pseudo-scope has one there
abbrev pub IsConditionalAt : List Class → List TypeDeclaration → MemberPlace → Type 0
IsConditionalAt classes types place = IsOfSome (HasConditionalAt classes types) classes place

-- P10 ConditionalDependent: a Dependent bean has a conditional observer; the place is the observer where it is declared
abbrev pub IsConditionalDependent : List Class → List TypeDeclaration → Element → Type 0
IsConditionalDependent classes types (Element.AMember i c m) =
    IsConditionalAt classes types (c.name, member_name m)
IsConditionalDependent classes types _ = ⊥

-- the same of a set that has those places
abbrev pub IsMemberAt : {S : Type 0} → HashSet MemberPlace S → Element → Type 0
IsMemberAt set (Element.AMember i c m) = IsTrue (has_place set (c.name, member_name m))
IsMemberAt set _ = ⊥
