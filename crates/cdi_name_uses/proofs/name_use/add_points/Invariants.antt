use Rattle.std.proofs.Common.{◌≡◌, ◌++◌, map, take}
use Rattle.cdi_name_uses.specs.Uses as spec
use Rattle.cdi_name_uses.proofs.name_use.add_points.Given as goal

abbrev pub invariant-loop-point : goal.invariant-loop-point
invariant-loop-point l = l.uses ≡ l.initial.uses ++ spec.points_uses (take l.point-index l.points)
