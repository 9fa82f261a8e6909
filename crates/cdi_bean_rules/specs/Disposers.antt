-- Disposers, and the producers that they serve (Jakarta CDI 4.0, Disposer methods).
use Rattle.std.specs.Prelude.{ℕ, ◌≡◌, ◌<◌, List, Option, Some, Contains, slice_get, IsTrue}
use Rattle.cdi_base.specs.declared.uses.Use.{Use}
use Rattle.cdi_deployment.specs.declared.deployment.Class.{Class}
use Rattle.cdi_deployment.specs.declared.deployment.Disposer.{Disposer}
use Rattle.cdi_deployment.specs.declared.deployment.Member.{Member}
use Rattle.cdi_deployment.specs.declared.deployment.Member.TheVariants as members
use Rattle.cdi_problems.specs.Elements.{Element}
use Rattle.cdi_quals.specs.Qualifiers.{has_all}
use Rattle.cdi_quals.specs.declared.types.QualifierType.{QualifierType}
use Rattle.cdi_types.specs.declared.declaration.TypeDeclaration.{TypeDeclaration}
use Rattle.cdi_bean_check.specs.BeanTypes.{IsBeanType}
use Rattle.cdi_bean_check.specs.ManagedBeans.{is_bean}
use Rattle.cdi_bean_check.specs.Qualifiers.{uses_with_built_in, required_uses, full_uses}

-- a product has the type and the qualifiers of the disposed parameter
pub record Fits (types : List TypeDeclaration) (qualifiers : List QualifierType) (m : Disposer)
    (of : ℕ) (typed : Option (List ℕ)) (uses : List Use) : Type 0 where
  pub type : IsBeanType types of typed m.ty
  pub had :
      IsTrue (has_all
      (full_uses qualifiers (uses_with_built_in uses))
      (full_uses qualifiers (required_uses m.quals)))

-- a disposer serves a member of its class, which is a producer
abbrev pub Serves : List TypeDeclaration → List QualifierType → Disposer → Member → Type 0
Serves types qualifiers m (members.Producer p) = Fits types qualifiers m p.ty p.typed p.quals
Serves types qualifiers m (members.ProducerField p) = Fits types qualifiers m p.ty p.typed p.quals
Serves types qualifiers m _ = ⊥

-- a disposer serves none of these members
abbrev pub ServesNone : List TypeDeclaration → List QualifierType → List Member → Disposer → Type 0
ServesNone types qualifiers all m =
    (producer : Member) → Contains all producer → Serves types qualifiers m producer → ⊥

-- a disposer of a bean serves no member of its class
pub record ServesNothing (types : List TypeDeclaration) (qualifiers : List QualifierType)
    (c : Class) (m : Disposer) : Type 0 where
  pub of_bean : IsTrue (is_bean c)
  pub nothing : ServesNone types qualifiers c.members m

abbrev pub IsUnmatched : List TypeDeclaration → List QualifierType → Class → Member → Type 0
IsUnmatched types qualifiers c (members.Disposer m) = ServesNothing types qualifiers c m
IsUnmatched types qualifiers c _ = ⊥

-- P8 UnmatchedDisposer: a bean's disposer serves no producer
abbrev pub IsUnmatchedDisposer : List TypeDeclaration → List QualifierType → Element → Type 0
IsUnmatchedDisposer types qualifiers (Element.AMember i c m) = IsUnmatched types qualifiers c m
IsUnmatchedDisposer types qualifiers _ = ⊥

-- a member is a disposer that serves another
abbrev pub Disposes : List TypeDeclaration → List QualifierType → Member → Member → Type 0
Disposes types qualifiers (members.Disposer m) producer = Serves types qualifiers m producer
Disposes types qualifiers _ producer = ⊥

-- two of these members are disposers that serve another
pub record HasTwo (types : List TypeDeclaration) (qualifiers : List QualifierType)
    (all : List Member) (producer : Member) : Type 0 where
  pub one : ℕ
  pub other : ℕ
  pub two : one < other
  pub first : Member
  pub first_is : slice_get all one ≡ Some first
  pub first_serves : Disposes types qualifiers first producer
  pub second : Member
  pub second_is : slice_get all other ≡ Some second
  pub second_serves : Disposes types qualifiers second producer

pub record IsServedTwice (types : List TypeDeclaration) (qualifiers : List QualifierType)
    (c : Class) (producer : Member) : Type 0 where
  pub of_bean : IsTrue (is_bean c)
  pub served : HasTwo types qualifiers c.members producer

-- P9 TwoDisposers: two disposers of a bean serve one producer
abbrev pub HasTwoDisposers : List TypeDeclaration → List QualifierType → Element → Type 0
HasTwoDisposers types qualifiers (Element.AMember i c m) = IsServedTwice types qualifiers c m
HasTwoDisposers types qualifiers _ = ⊥
