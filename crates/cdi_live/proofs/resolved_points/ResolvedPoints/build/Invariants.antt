use Rattle.std.proofs.Common.{◌≡◌}
use Rattle.cdi_live.proofs.resolved_points.ResolvedPoints.build.Given as goal

abbrev pub invariant-loop-element : goal.invariant-loop-element
invariant-loop-element l = l.points ≡ l.initial.points
