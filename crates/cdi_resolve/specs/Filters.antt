-- Which beans are left at a step of resolution.
use Rattle.std.specs.Prelude.{ℕ, ℤ, ◌==◌, ◌&&◌, List, [], ◌∷◌, Bool, false, Option, Some, None, filter, slice_index_or}
use Rattle.std.specs.List.{list_any, enumerate_from}
use Rattle.std.specs.Ordering.{int_eq}
use Rattle.cdi_base.specs.BuiltIn.{number_of}
use Rattle.cdi_base.specs.declared.built_in.BuiltIn.TheVariants as names
use Rattle.cdi_bean_check.specs.Qualifiers.{full_uses}
use Rattle.cdi_beans.specs.declared.bean.Bean.{Bean}
use Rattle.cdi_beans.specs.Kinds.{is_managed}
use Rattle.cdi_quals.specs.Qualifiers.{has_all}
use Rattle.cdi_quals.specs.declared.qualifier.Qualifier.{Qualifier}
use Rattle.cdi_resolve.specs.declared.required.Required.{Required}
use Rattle.cdi_resolve.specs.declared.required.Required.TheVariants as given

abbrev pub default : Qualifier
default = record { name = number_of names.Default; members = [] }

-- no qualifier stands for Default
abbrev pub required : List Qualifier → List Qualifier
required [] = default ∷ []
required (q ∷ qs) = q ∷ qs

abbrev pub has_type : ℕ → Bean → Bool
has_type type b = list_any (λ t. t == type) b.types

abbrev pub has_required : List Qualifier → Bean → Bool
has_required qualifiers b = has_all b.qualifiers (required qualifiers)

-- a bean has the type and each required qualifier
abbrev pub fits : ℕ → List Qualifier → Bean → Bool
fits type qualifiers b = has_type type b && has_required qualifiers b

-- the required qualifiers of a question, however they are given
abbrev pub required_of : Required → List Qualifier
required_of (given.Set set) = set.now
required_of (given.Written written) = full_uses written.types.now written.uses.now

abbrev pub is_enabled : List Bool → ℕ → Bool
is_enabled enabled index = slice_index_or enabled index false

-- the enabled ones of a list of beans, with their indices
abbrev pub enabled_beans : List Bean → List Bool → List (ℕ × Bean)
enabled_beans beans enabled = filter (λ p. is_enabled enabled p.0) (enumerate_from 0 beans)

-- a managed bean of this class
abbrev pub is_bean_of : ℕ → ℕ × Bean → Bool
is_bean_of class b = is_managed b.1.kind && (b.1.class == class)

-- some beans, and which of them are enabled
pub record Candidates : Type 0 where
  pub beans : List Bean
  pub flags : List Bool

abbrev pub enabled_of : Candidates → List (ℕ × Bean)
enabled_of c = enabled_beans c.beans c.flags

abbrev pub is_priority : ℤ → Option ℤ → Bool
is_priority priority None = false
is_priority priority (Some own) = int_eq own priority

abbrev pub has_priority : ℤ → Bean → Bool
has_priority priority b = is_priority priority b.priority
