use Rattle.std.proofs.Common.{length}
use Rattle.cdi_paths.proofs.Groups.{IsSorting}
use Rattle.cdi_paths.proofs.cycles.cycle_marks.Given as goal

abbrev pub invariant-loop-root : goal.invariant-loop-root
invariant-loop-root l = record { sorting : IsSorting l.graph l.sources.items l.order.items l.seen.items l.on_cycle.items }

abbrev pub decreases-loop-root : goal.decreases-loop-root
decreases-loop-root l = length l.order.items
