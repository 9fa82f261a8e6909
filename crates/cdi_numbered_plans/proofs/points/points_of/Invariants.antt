use Rattle.std.proofs.Common.{◌≡◌, map, take}
use Rattle.cdi_numbered_plans.specs.Numbered.{AsksNumbered, point_by}
use Rattle.cdi_numbered_plans.proofs.points.points_of.Given as goal

-- those of the points that were looked at
abbrev pub invariant-loop-point : goal.invariant-loop-point
invariant-loop-point l = (l.all ≡ map (point_by l.numbering) (take l.point-index l.points)) × AsksNumbered l.numbering l.lookup.now
