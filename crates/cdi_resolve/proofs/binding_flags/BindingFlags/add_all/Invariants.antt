use Rattle.std.proofs.Common.{◌≡◌, ℕ, drop}
use Rattle.std.specs.Option.{option_or}
use Rattle.cdi_resolve.specs.BindingFlags.{flags_at, first_flags}
use Rattle.cdi_resolve.proofs.binding_flags.BindingFlags.add_all.Given as goal

abbrev pub invariant-loop-qualifier : goal.invariant-loop-qualifier
invariant-loop-qualifier l = (name : ℕ) → option_or (flags_at l.self name) (first_flags name (drop l.qualifier-index l.qualifiers)) ≡ option_or (flags_at l.fn.self name) (first_flags name l.qualifiers)
