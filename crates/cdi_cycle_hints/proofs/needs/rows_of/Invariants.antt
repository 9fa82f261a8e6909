use Rattle.std.proofs.Common.{◌≡◌, ◌++◌, map, drop}
use Rattle.cdi_cycle_hints.specs.Needs as spec
use Rattle.cdi_cycle_hints.proofs.needs.rows_of.Given as goal

abbrev pub invariant-loop-bean : goal.invariant-loop-bean
invariant-loop-bean l =
    l.rows ++ map (spec.bean_needs l.deployment l.tables) (drop l.bean-index l.bean-items)
    ≡ spec.needs_of l.deployment l.tables
