use Rattle.std.proofs.Common.{◌+◌, length}
use Rattle.cdi_paths.specs.Marks.{unmarked_count}
use Rattle.cdi_paths.proofs.Walks.{IsWalking}
use Rattle.cdi_paths.proofs.walk.mark_from.Given as goal

abbrev pub invariant-loop-node : goal.invariant-loop-node
invariant-loop-node l = record { walking : IsWalking l.graph l.root l.fn.marks l.marks l.ahead.items }

abbrev pub decreases-loop-node : goal.decreases-loop-node
decreases-loop-node l = unmarked_count l.marks + length l.ahead.items
