use Rattle.std.proofs.Common.{◌≡◌, count_by, take}
use Rattle.cdi_bean_rules.specs.Limits.{is_producer}
use Rattle.cdi_bean_rules.proofs.limits.producers_in.Given as goal

abbrev pub invariant-loop-member : goal.invariant-loop-member
invariant-loop-member l = l.count ≡ count_by is_producer (take l.member-index l.members)
