use Rattle.std.proofs.Common.{◌≡◌, drop}
use Rattle.cdi_quals.specs.Qualifiers.{has}
use Rattle.cdi_resolve.specs.WrittenUses.{use_with}
use Rattle.cdi_resolve.proofs.required.has_use.Given as goal

abbrev pub invariant-loop-own : goal.invariant-loop-own
invariant-loop-own l = has (drop l.own-index l.qualifiers) (use_with l.members l.written) ≡ has l.qualifiers (use_with l.members l.written)
