-- The beans of a deployment (Jakarta CDI 4.0, Beans).
use Rattle.std.specs.Prelude.{ℕ, ℤ, ◌≡◌, Bool, false, List, [], ◌∷◌, filter, map, Option, Some, None, option_and_then, option_map, if◌then◌else◌}
use Rattle.cdi_base.specs.declared.scope.Scope.{Scope}
use Rattle.cdi_base.specs.declared.uses.Use.{Use}
use Rattle.cdi_deployment.specs.declared.deployment.Bean.{Bean as DeclaredBean}
use Rattle.cdi_deployment.specs.declared.deployment.Class.{Class}
use Rattle.cdi_deployment.specs.declared.deployment.Deployment.{Deployment}
use Rattle.cdi_deployment.specs.declared.deployment.Member.{Member}
use Rattle.cdi_deployment.specs.declared.deployment.Member.TheVariants as members
use Rattle.cdi_deployment.specs.declared.deployment.ProducerField.{ProducerField}
use Rattle.cdi_deployment.specs.declared.deployment.ProducerMethod.{ProducerMethod}
use Rattle.cdi_deployment.specs.Member.{member_name}
use Rattle.cdi_quals.specs.declared.types.QualifierType.{QualifierType}
use Rattle.cdi_types.specs.ListsThose.{ListsThose}
use Rattle.cdi_types.specs.Declarations.{declarations_of}
use Rattle.cdi_types.specs.Subtype.{all_types}
use Rattle.cdi_bean_check.specs.BeanTypes.{IsBeanType, restriction}
use Rattle.cdi_bean_check.specs.Inherited.{AreMembersOf}
use Rattle.cdi_bean_rules.specs.Limits.{is_producer}
use Rattle.cdi_bean_check.specs.ManagedBeans.{is_bean}
use Rattle.cdi_bean_check.specs.Qualifiers.{AreUsesOf, uses_with_built_in, full_uses, specialized_bean}
use Rattle.cdi_beans.specs.declared.bean.Bean.{Bean}
use Rattle.cdi_beans.specs.declared.bean.BeanKind.{BeanKind}
use Rattle.cdi_beans.specs.declared.bean.BeanKind.TheVariants as kinds
use Rattle.cdi_beans.specs.declared.bean.BeanMember.{BeanMember}

-- what makes a bean: a class, or a producer of a class
pub data Source : Type 0 where
  AClass : Class → Source
  AProducer : Class → Member → Source

-- the producers of a class that is a bean
abbrev pub products_in : Class → List Member → List Source
products_in c ms = map (Source.AProducer c) (filter is_producer ms)

-- a class that is a bean, and then its producers
abbrev pub sources_in : Class → List Source
sources_in c = if is_bean c then Source.AClass c ∷ products_in c c.members else []

abbrev pub is_alternative : Option DeclaredBean → Bool
is_alternative None = false
is_alternative (Some b) = b.alternative

abbrev pub priority_of : Option DeclaredBean → Option ℤ
priority_of = option_and_then (λ b. b.priority)

-- what a bean takes from the class that declares it
pub record IsDeclaredBy (c : Class) (b : Bean) : Type 0 where
  pub class : b.class ≡ c.name
  pub alternative : b.alternative ≡ is_alternative c.bean
  pub priority : b.priority ≡ priority_of c.bean

-- of this kind, with the types of a type that are restricted so, with these uses of qualifiers, and this scope
pub record IsBeanWith (d : Deployment) (qualifiers : List QualifierType) (kind : BeanKind) (of : ℕ)
    (typed : Option (List ℕ)) (uses : List Use) (scope : Option Scope) (b : Bean) : Type 0 where
  pub kind_is : b.kind ≡ kind
  pub types :
      ListsThose (IsBeanType (declarations_of d) of typed) (all_types (declarations_of d)) b.types
  pub are_full : b.qualifiers ≡ full_uses qualifiers uses
  pub scope_is : scope ≡ Some b.scope

-- a member by the class that declares it and its name
abbrev pub bean_member : Class × Member → BeanMember
bean_member (c, m) = record { class = c.name; name = member_name m }

-- what a managed bean has of its class and its superclasses: the bean that it specializes, and its members, with those that it inherits
pub record IsManagedBeanOf (d : Deployment) (c : Class) (b : Bean) : Type 0 where
  pub specializes : b.specializes ≡ option_map (λ s. s.name) (specialized_bean d.classes c)
  pub has : List (Class × Member)
  pub had : AreMembersOf d.classes (declarations_of d) c has
  pub are : b.members ≡ map bean_member has

-- a product of a class's producer: declared by the class, and without members; it specializes none
pub record IsProductOf (c : Class) (b : Bean) : Type 0 where
  pub declared : IsDeclaredBy c b
  pub specializes : b.specializes ≡ None
  pub no_members : b.members ≡ []

pub data IsBeanOf (d : Deployment) (qualifiers : List QualifierType) : Source → Bean → Type 0 where
  managed : {c : Class} {uses : List Use} {b : Bean} → AreUsesOf d.classes c uses → IsDeclaredBy c b
      → IsManagedBeanOf d c b
      → IsBeanWith d qualifiers kinds.Managed c.name (restriction c.bean) uses
      (option_map (λ bean. bean.scope) c.bean) b
      → IsBeanOf d qualifiers (Source.AClass c) b
  produced : {c : Class} {p : ProducerMethod} {b : Bean} → IsProductOf c b
      → IsBeanWith d qualifiers (kinds.ProducerMethod p.name) p.ty p.typed
      (uses_with_built_in p.quals) (Some p.scope) b
      → IsBeanOf d qualifiers (Source.AProducer c (members.Producer p)) b
  held : {c : Class} {p : ProducerField} {b : Bean} → IsProductOf c b
      → IsBeanWith d qualifiers (kinds.ProducerField p.name) p.ty p.typed
      (uses_with_built_in p.quals) (Some p.scope) b
      → IsBeanOf d qualifiers (Source.AProducer c (members.ProducerField p)) b
