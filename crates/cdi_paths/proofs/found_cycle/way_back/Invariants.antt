use Rattle.std.proofs.Common.{◌≡◌, ◌-◌, ◌++◌, ◌∷◌, length}
use Rattle.cdi_paths.specs.CycleThrough as spec
use Rattle.cdi_paths.proofs.found_cycle.way_back.Given as goal

abbrev pub invariant-loop : goal.invariant-loop
invariant-loop l =
    l.nodes ++ spec.way l.goal l.hops (length l.hops - l.counter) l.last
    ≡ l.goal ∷ spec.way l.goal l.hops (length l.hops) l.goal
