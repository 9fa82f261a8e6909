-- Digests of the values of a qualifier's members. Flags tell which of the members count.
use Rattle.std.specs.Prelude.{ℕ, ◌+◌, ◌*◌, ◌%◌, ◌^◌, Bool, List, [], ◌∷◌, Option, Some, None, fold, option_and_then, if◌then◌else◌}
use Rattle.std.specs.Int.{cast_unsigned, w64}
use Rattle.cdi_base.specs.declared.value.Value.{Value}
use Rattle.cdi_base.specs.declared.value.Value.TheVariants as values
use Rattle.cdi_quals.specs.declared.qualifier.QualifierMember.{QualifierMember}

-- a digest with a number more
abbrev pub mixed : ℕ → ℕ → ℕ
mixed digest number = ((digest * 1099511628211) % 2 ^ 64 + number) % 2 ^ 64

-- a digest with a value more
abbrev pub with_value : ℕ → Value → ℕ
with_value digest values.Null = mixed digest 0
with_value digest (values.Int n) = mixed (mixed digest 1) (cast_unsigned w64 n)
with_value digest (values.Text t) = fold mixed (mixed digest 2) t

-- a digest with the value of a member of a bean's qualifier more, if it counts
abbrev pub with_own : Bool → Value → ℕ → ℕ
with_own counts value digest = if counts then with_value digest value else digest

-- the same of the members of a bean's qualifier
abbrev pub with_all_own : List Bool → List QualifierMember → ℕ → ℕ
with_all_own [] members digest = digest
with_all_own (f ∷ flags) [] digest = digest
with_all_own (f ∷ flags) (m ∷ members) digest =
    with_all_own flags members (with_own f m.value digest)

-- a digest with the value of a required member more, if it counts; there is none if it counts and is nonbinding
abbrev pub with_required : Bool → Bool → Value → ℕ → Option ℕ
with_required counts is_binding value digest =
    if counts then (if is_binding then Some (with_value digest value) else None) else Some digest

-- the same of required members
abbrev pub with_all_required : List Bool → List QualifierMember → ℕ → Option ℕ
with_all_required [] members digest = Some digest
with_all_required (f ∷ flags) [] digest = Some digest
with_all_required (f ∷ flags) (m ∷ members) digest =
    option_and_then (with_all_required flags members) (with_required f m.is_binding m.value digest)
