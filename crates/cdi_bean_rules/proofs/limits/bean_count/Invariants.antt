use Rattle.std.proofs.Common.{◌≡◌, min, take}
use Rattle.cdi_bean_rules.specs.Limits.{bean_count}
use Rattle.cdi_bean_rules.proofs.limits.bean_count.Given as goal

abbrev pub invariant-loop-class : goal.invariant-loop-class
invariant-loop-class l = l.count ≡ min (bean_count (take l.class-index l.classes)) 18446744073709551615
