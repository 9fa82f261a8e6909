-- The types of qualifiers and interceptor bindings.
use Rattle.std.specs.Prelude.{ℕ, ◌≡◌, ◌==◌, not, List, [], ◌∷◌, ◌++◌, map, Option, Some, None}
use Rattle.std.specs.List.{find, list_any}
use Rattle.cdi_base.specs.BuiltIn.{number_of}
use Rattle.cdi_base.specs.declared.built_in.BuiltIn.{BuiltIn}
use Rattle.cdi_base.specs.declared.built_in.BuiltIn.TheVariants as names
use Rattle.cdi_deployment.specs.declared.deployment.AnnotationType.{AnnotationType}
use Rattle.cdi_deployment.specs.declared.deployment.Deployment.{Deployment}
use Rattle.cdi_quals.specs.Order.{compare_names}
use Rattle.cdi_quals.specs.OrderedSet.{IsOrderedSet}
use Rattle.cdi_quals.specs.declared.types.MemberType.{MemberType}
use Rattle.cdi_quals.specs.declared.types.QualifierType.{QualifierType}

-- a member, which is binding where it isn't declared nonbinding
abbrev pub member_type : List ℕ → ℕ → MemberType
member_type nonbinding name =
    record { name = name; is_binding = not (list_any (λ n. n == name) nonbinding) }

-- the type of a declaration: its members in the order of their names, each once
pub record IsTypeOf (names : List (List ℕ)) (declared : AnnotationType) (type : QualifierType)
    : Type 0 where
  pub in_order : List ℕ
  pub ordered : IsOrderedSet (compare_names names) declared.members in_order
  pub is : type
      ≡ record { name = declared.name; members = map (member_type declared.nonbinding) in_order }

-- the types of a list of declarations
pub data AreTypesOf (names : List (List ℕ))
    : List AnnotationType → List QualifierType → Type 0 where
  none : AreTypesOf names [] []
  next :
      {d : AnnotationType} {t : QualifierType} {ds : List AnnotationType} {ts : List QualifierType}
      → IsTypeOf names d t → AreTypesOf names ds ts → AreTypesOf names (d ∷ ds) (t ∷ ts)

-- a built-in qualifier without members, and one with the member `value`
abbrev pub plain : BuiltIn → QualifierType
plain qualifier = record { name = number_of qualifier; members = [] }

abbrev pub valued : BuiltIn → QualifierType
valued qualifier =
    record { name = number_of qualifier; members = member_type [] (number_of names.Value) ∷ [] }

abbrev pub built_in_qualifiers : List QualifierType
built_in_qualifiers =
    plain names.Any ∷ plain names.Default ∷ valued names.Named ∷ valued names.Initialized
    ∷ valued names.BeforeDestroyed ∷ valued names.Destroyed ∷ []

-- the qualifier types of a deployment: those that it declares, and the built-in ones
pub record AreQualifiersOf (deployment : Deployment) (types : List QualifierType) : Type 0 where
  pub declared : List QualifierType
  pub are : AreTypesOf deployment.names deployment.qualifiers declared
  pub is : types ≡ declared ++ built_in_qualifiers

abbrev pub members_in : Option QualifierType → List MemberType
members_in None = []
members_in (Some type) = type.members

-- the members of the type with a name; one that isn't known has none
abbrev pub members_of : List QualifierType → ℕ → List MemberType
members_of types name = members_in (find (λ t. t.name == name) types)
