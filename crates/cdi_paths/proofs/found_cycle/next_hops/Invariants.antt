use Rattle.std.proofs.Common.{◌≡◌, ◌++◌, drop, map}
use Rattle.std.specs.List.{enumerate_from}
use Rattle.cdi_paths.specs.CycleThrough as spec
use Rattle.cdi_paths.proofs.found_cycle.next_hops.Given as goal

abbrev pub invariant-loop-node : goal.invariant-loop-node
invariant-loop-node l =
    l.next.items ++ map (λ p. spec.next_hop l.goal l.hops p.0 p.1) (enumerate_from l.node (drop l.node l.graph))
    ≡ spec.next_hops l.goal l.graph l.hops
