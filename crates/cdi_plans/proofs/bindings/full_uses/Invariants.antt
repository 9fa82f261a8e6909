use Rattle.std.proofs.Common.{◌≡◌, take}
use Rattle.cdi_bean_check.specs.Qualifiers.{full_uses}
use Rattle.cdi_plans.proofs.bindings.full_uses.Given as goal

abbrev pub invariant-loop-written : goal.invariant-loop-written
invariant-loop-written l = l.full ≡ full_uses l.types (take l.written-index l.uses)
