use Rattle.std.proofs.Common.{◌≡◌}
use Rattle.cdi_live.proofs.resolved_points.ResolvedPoints.add_params.Given as goal

abbrev pub invariant-loop-point : goal.invariant-loop-point
invariant-loop-point l = l.self ≡ l.initial.self
