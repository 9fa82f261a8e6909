use Rattle.std.proofs.Common.{◌≡◌, drop}
use Rattle.cdi_quals.specs.Qualifiers.{full_use, has}
use Rattle.cdi_bean_check.specs.Qualifiers.{full_uses}
use Rattle.cdi_bean_rules.proofs.required.have_use.Given as goal

abbrev pub invariant-loop-own : goal.invariant-loop-own
invariant-loop-own l =
    has (full_uses l.types (drop l.own-index l.uses)) (full_use l.types (record { name = l.name; members = l.given }))
    ≡ has (full_uses l.types l.uses) (full_use l.types (record { name = l.name; members = l.given }))
