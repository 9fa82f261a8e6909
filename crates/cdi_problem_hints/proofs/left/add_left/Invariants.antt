use Rattle.std.proofs.Common.{◌≡◌, ◌++◌, take}
use Rattle.cdi_problem_hints.specs.Left as spec
use Rattle.cdi_problem_hints.proofs.left.add_left.Given as goal

abbrev pub invariant-loop-point : goal.invariant-loop-point
invariant-loop-point l =
    l.places ≡ l.initial.places ++ spec.several_left l.tables (take l.point-index l.points)
