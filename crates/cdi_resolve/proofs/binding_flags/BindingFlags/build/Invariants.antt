use Rattle.std.proofs.Common.{◌≡◌, ℕ}
use Rattle.std.specs.Option.{option_or}
use Rattle.cdi_resolve.specs.BindingFlags.{flags_at, first_flags, qualifiers_of}
use Rattle.cdi_resolve.specs.Filters.{enabled_beans}
use Rattle.cdi_resolve.proofs.Flags.{ahead}
use Rattle.cdi_resolve.proofs.binding_flags.BindingFlags.build.Given as goal

abbrev pub invariant-loop-place : goal.invariant-loop-place
invariant-loop-place l = (name : ℕ) → option_or (flags_at l.flags name) (first_flags name (ahead l.beans l.enabled l.place)) ≡ first_flags name (qualifiers_of (enabled_beans l.beans l.enabled))
