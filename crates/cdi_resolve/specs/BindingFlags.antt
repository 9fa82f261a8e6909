-- Which members of qualifiers are binding.
use Rattle.std.specs.Prelude.{ℕ, ◌≡◌, ◌==◌, Bool, List, [], map, flat_map, Option, Some, None, option_map, unwrap_or, nat_eq, if◌then◌else◌}
use Rattle.std.specs.HashMap.{get}
use Rattle.std.specs.List.{find}
use Rattle.std.specs.Option.{option_or}
use Rattle.cdi_beans.specs.declared.bean.Bean.{Bean}
use Rattle.cdi_quals.specs.declared.qualifier.Qualifier.{Qualifier}
use Rattle.cdi_resolve.specs.declared.binding_flags.BindingFlags.{BindingFlags}

abbrev pub flags_at : BindingFlags → ℕ → Option (List Bool)
flags_at flags name = get nat_eq flags.rows name

-- those of a type that isn't known are none
abbrev pub flags_of : BindingFlags → ℕ → List Bool
flags_of flags name = unwrap_or (flags_at flags name) []

abbrev pub own_flags : Qualifier → List Bool
own_flags q = map (λ m. m.is_binding) q.members

-- those of a qualifier, if it is of this type
abbrev pub flags_if : ℕ → Qualifier → Option (List Bool)
flags_if name q = if q.name == name then Some (own_flags q) else None

-- those of the first qualifier of a type
abbrev pub first_flags : ℕ → List Qualifier → Option (List Bool)
first_flags name qualifiers = option_map own_flags (find (λ q. q.name == name) qualifiers)

-- qualifiers more, behind those that are there
abbrev pub AreAdded : List Qualifier → BindingFlags → BindingFlags → Type 0
AreAdded qualifiers old new =
    (name : ℕ) → flags_at new name ≡ option_or (flags_at old name) (first_flags name qualifiers)

abbrev pub qualifiers_of : List (ℕ × Bean) → List Qualifier
qualifiers_of = flat_map (λ b. b.1.qualifiers)
