use Rattle.std.proofs.Common.{◌≡◌, ℕ, drop}
use Rattle.std.specs.Option.{option_or}
use Rattle.cdi_beans.specs.ManagedQualifiers.{qualifiers_in}
use Rattle.cdi_resolve.specs.BindingFlags.{flags_at, first_flags}
use Rattle.cdi_resolve.proofs.binding_flags.BindingFlags.add_parts.Given as goal

abbrev pub invariant-loop-part : goal.invariant-loop-part
invariant-loop-part l = (name : ℕ) → option_or (flags_at l.self name) (first_flags name (qualifiers_in (drop l.part-index l.parts))) ≡ option_or (flags_at l.fn.self name) (first_flags name (qualifiers_in l.parts))
