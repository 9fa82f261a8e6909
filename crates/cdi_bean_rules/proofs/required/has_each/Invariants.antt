use Rattle.std.proofs.Common.{◌≡◌, drop}
use Rattle.cdi_quals.specs.Qualifiers.{has_all}
use Rattle.cdi_bean_check.specs.Qualifiers.{full_uses, uses_with_built_in}
use Rattle.cdi_bean_rules.proofs.required.has_each.Given as goal

abbrev pub invariant-loop-other : goal.invariant-loop-other
invariant-loop-other l =
    has_all (full_uses l.types (uses_with_built_in l.declared)) (full_uses l.types (drop l.other-index l.others))
    ≡ has_all (full_uses l.types (uses_with_built_in l.declared)) (full_uses l.types l.others)
