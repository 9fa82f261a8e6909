use Rattle.std.proofs.Common.{◌≡◌, ◌-◌, length}
use Rattle.cdi_paths.specs.CycleThrough as spec
use Rattle.cdi_paths.proofs.found_cycle.hops_to.Given as goal

abbrev pub invariant-loop : goal.invariant-loop
invariant-loop l =
    spec.hops_after l.goal l.graph (length l.graph - l.counter) l.hops.items ≡ spec.hops_to l.goal l.graph
