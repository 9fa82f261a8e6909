use Rattle.std.proofs.Common.{◌≡◌, ◌++◌, take}
use Rattle.cdi_cycle_hints.specs.Needs as spec
use Rattle.cdi_cycle_hints.proofs.needs.add_params.Given as goal

abbrev pub invariant-loop-point : goal.invariant-loop-point
invariant-loop-point l =
    l.needs ≡ l.initial.needs ++ spec.points_needs l.tables (take l.point-index l.params)
