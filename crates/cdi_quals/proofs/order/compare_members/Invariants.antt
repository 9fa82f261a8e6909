use Rattle.std.proofs.Common.{◌≡◌, drop}
use Rattle.cdi_quals.specs.Order.{compare_members}
use Rattle.cdi_quals.proofs.order.compare_members.Given as goal

abbrev pub invariant-loop-i : goal.invariant-loop-i
invariant-loop-i l = compare_members (drop l.i l.a) (drop l.i l.b) ≡ compare_members l.a l.b
