use Rattle.std.proofs.Common.{◌≡◌, take}
use Rattle.cdi_planner.proofs.copies.copy_points.Given as goal

abbrev pub invariant-loop-point : goal.invariant-loop-point
invariant-loop-point l = l.copies ≡ take l.point-index l.points
