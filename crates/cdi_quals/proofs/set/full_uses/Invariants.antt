use Rattle.std.proofs.Common.{◌≡◌, ◌++◌, map, drop}
use Rattle.cdi_quals.specs.Qualifiers.{full_use}
use Rattle.cdi_quals.proofs.set.full_uses.Given as goal

abbrev pub invariant-loop-written : goal.invariant-loop-written
invariant-loop-written l = l.full.items ++ map (full_use l.types) (drop l.written-index l.uses) ≡ map (full_use l.types) l.uses
