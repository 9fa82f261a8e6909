use Rattle.std.proofs.Common.{◌≡◌, take}
use Rattle.cdi_problem_hints.proofs.asked.each.Given as goal

abbrev pub invariant-loop-point : goal.invariant-loop-point
invariant-loop-point l = l.asked ≡ take l.point-index l.params
