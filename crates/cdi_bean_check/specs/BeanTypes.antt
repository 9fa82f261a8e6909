-- Bean types (Jakarta CDI 4.0, Bean types, Restricting the bean types of a bean).
use Rattle.std.specs.Prelude.{ℕ, ◌≡◌, Bool, true, ◌==◌, ◌||◌, List, Option, Some, None, Contains, IsTrue}
use Rattle.std.specs.List.{list_any}
use Rattle.cdi_deployment.specs.declared.deployment.Bean.{Bean}
use Rattle.cdi_deployment.specs.declared.deployment.Class.{Class}
use Rattle.cdi_deployment.specs.declared.deployment.Member.{Member}
use Rattle.cdi_deployment.specs.declared.deployment.Member.TheVariants as members
use Rattle.cdi_problems.specs.Elements.{Element}
use Rattle.cdi_types.specs.declared.declaration.TypeDeclaration.{TypeDeclaration}
use Rattle.cdi_types.specs.Subtype.{IsSubtype, object}
use Rattle.cdi_bean_check.specs.ManagedBeans.{is_bean, says_specializes, extended_bean}

-- a restriction leaves the types that it lists, and Object
abbrev pub is_left : Option (List ℕ) → ℕ → Bool
is_left None type = true
is_left (Some typed) type = (type == object) || list_any (λ t. t == type) typed

-- a type of a bean whose class or product has this type and that is restricted so
pub record IsBeanType (types : List TypeDeclaration) (of : ℕ) (typed : Option (List ℕ)) (type : ℕ)
    : Type 0 where
  pub above : IsSubtype types of type
  pub left : IsTrue (is_left typed type)

-- a restriction lists a type that the bean wouldn't have anyway
pub record ListsOther (types : List TypeDeclaration) (of : ℕ) (typed : List ℕ) : Type 0 where
  pub type : ℕ
  pub listed : Contains typed type
  pub not_above : IsSubtype types of type → ⊥

abbrev pub RestrictedWrongly : List TypeDeclaration → ℕ → Option (List ℕ) → Type 0
RestrictedWrongly types of None = ⊥
RestrictedWrongly types of (Some typed) = ListsOther types of typed

abbrev pub restriction : Option Bean → Option (List ℕ)
restriction None = None
restriction (Some b) = b.typed

-- a producer that is restricted wrongly
abbrev pub IsProductWrong : List TypeDeclaration → Member → Type 0
IsProductWrong types (members.Producer p) = RestrictedWrongly types p.ty p.typed
IsProductWrong types (members.ProducerField p) = RestrictedWrongly types p.ty p.typed
IsProductWrong types _ = ⊥

-- only the producers of a bean make beans
pub record IsMemberWrong (types : List TypeDeclaration) (c : Class) (m : Member) : Type 0 where
  pub of_bean : IsTrue (is_bean c)
  pub wrong : IsProductWrong types m

-- P5 TypedNotAType: the restriction of a bean or of a bean's producer lists a type outside the unrestricted ones
abbrev pub HasTypedNotAType : List TypeDeclaration → Element → Type 0
HasTypedNotAType types (Element.AClass i c) = RestrictedWrongly types c.name (restriction c.bean)
HasTypedNotAType types (Element.AMember i c m) = IsMemberWrong types c m
HasTypedNotAType types _ = ⊥

abbrev pub IsTypeOfClass : List TypeDeclaration → Class → ℕ → Type 0
IsTypeOfClass types c type = IsBeanType types c.name (restriction c.bean) type

-- a type of a class that another hasn't
pub record IsLost (types : List TypeDeclaration) (specialized c : Class) (type : ℕ) : Type 0 where
  pub its_type : IsTypeOfClass types specialized type
  pub lost : IsTypeOfClass types c type → ⊥

pub record LacksTypeOf (types : List TypeDeclaration) (specialized c : Class) : Type 0 where
  pub type : ℕ
  pub is_lost : IsLost types specialized c type

-- a class directly specializes a bean, and lacks one of that bean's types
pub record LosesType (classes : List Class) (types : List TypeDeclaration) (c : Class)
    : Type 0 where
  pub says : IsTrue (says_specializes c.bean)
  pub specialized : Class
  pub extends_it : extended_bean classes c ≡ Some specialized
  pub lacks : LacksTypeOf types specialized c

-- P7 SpecializedTypeLost: a bean directly specializes another and lacks a bean type of that
abbrev pub HasSpecializedTypeLost : List Class → List TypeDeclaration → Element → Type 0
HasSpecializedTypeLost classes types (Element.AClass i c) = LosesType classes types c
HasSpecializedTypeLost classes types _ = ⊥
