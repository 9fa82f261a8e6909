use Rattle.std.proofs.Common.{◌≡◌, take}
use Rattle.cdi_bean_check.specs.Qualifiers as written
use Rattle.cdi_candidates.proofs.qualified.full_uses.Given as goal

abbrev pub invariant-loop-written : goal.invariant-loop-written
invariant-loop-written l = l.full.items ≡ written.full_uses l.types (take l.written-index l.uses)
