-- The qualifiers of beans and of points (Jakarta CDI 4.0, Qualifiers, Specialization).
use Rattle.std.specs.Prelude.{ℕ, ◌≡◌, Bool, true, false, ◌==◌, ◌&&◌, ◌||◌, List, [], ◌∷◌, ◌++◌, Option, Some, None, map, if◌then◌else◌}
use Rattle.std.specs.List.{list_all}
use Rattle.cdi_base.specs.BuiltIn.{number_of}
use Rattle.cdi_base.specs.declared.built_in.BuiltIn.{BuiltIn}
use Rattle.cdi_base.specs.declared.built_in.BuiltIn.TheVariants as names
use Rattle.cdi_base.specs.declared.uses.Use.{Use}
use Rattle.cdi_deployment.specs.declared.deployment.Bean.{Bean}
use Rattle.cdi_deployment.specs.declared.deployment.Class.{Class}
use Rattle.cdi_quals.specs.Order.{compare_qualifiers}
use Rattle.cdi_quals.specs.OrderedSet.{IsOrderedSet}
use Rattle.cdi_quals.specs.Qualifiers.{full_use}
use Rattle.cdi_quals.specs.declared.qualifier.Qualifier.{Qualifier}
use Rattle.cdi_quals.specs.declared.types.QualifierType.{QualifierType}
use Rattle.cdi_bean_check.specs.ManagedBeans.{says_specializes, extended_bean}

abbrev pub plain_use : BuiltIn → Use
plain_use n = record { name = number_of n; members = [] }

-- none but Named and Any
abbrev pub names_no_other : List Use → Bool
names_no_other uses =
    list_all (λ u. (u.name == number_of names.Named) || (u.name == number_of names.Any)) uses

abbrev pub default_if : Bool → List Use
default_if b = if b then plain_use names.Default ∷ [] else []

-- what a bean has that declares these, and specializes none
abbrev pub uses_with_built_in : List Use → List Use
uses_with_built_in declared = declared ++ plain_use names.Any ∷ default_if (names_no_other declared)

abbrev pub is_any : List Use → Bool
is_any [] = false
is_any (u ∷ us) = true

-- what a specializing bean has besides those of the bean that it specializes: it gets no Default where it declares nothing
abbrev pub specializing_uses : List Use → List Use
specializing_uses declared =
    declared ++ plain_use names.Any ∷ default_if (is_any declared && names_no_other declared)

abbrev pub declared_uses : Option Bean → List Use
declared_uses None = []
declared_uses (Some b) = b.quals

-- the bean that a class directly specializes
abbrev pub specialized_bean : List Class → Class → Option Class
specialized_bean classes c = if says_specializes c.bean then extended_bean classes c else None

-- the qualifiers of a managed bean: declared, built in, and those of the bean that it directly specializes
pub data AreUsesOf (classes : List Class) : Class → List Use → Type 0 where
  plain : {c : Class} → specialized_bean classes c ≡ None
      → AreUsesOf classes c (uses_with_built_in (declared_uses c.bean))
  specializing : {c s : Class} {uses : List Use} → specialized_bean classes c ≡ Some s
      → AreUsesOf classes s uses
      → AreUsesOf classes c (specializing_uses (declared_uses c.bean) ++ uses)

-- a point without qualifiers requires Default
abbrev pub required_uses : List Use → List Use
required_uses [] = plain_use names.Default ∷ []
required_uses (u ∷ us) = u ∷ us

-- the set of these uses, each with all members of its type
abbrev pub IsSetOf : List (List ℕ) → List QualifierType → List Use → List Qualifier → Type 0
IsSetOf names types uses set =
    IsOrderedSet (compare_qualifiers names) (map (full_use types) uses) set

-- the same as lists, for what doesn't hang on the order
abbrev pub full_uses : List QualifierType → List Use → List Qualifier
full_uses types uses = map (full_use types) uses
