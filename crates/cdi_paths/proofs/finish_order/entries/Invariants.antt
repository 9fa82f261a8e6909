use Rattle.cdi_paths.specs.Steps.{HasEntries}
use Rattle.cdi_paths.proofs.finish_order.entries.Given as goal

abbrev pub invariant-loop-node : goal.invariant-loop-node
invariant-loop-node l = record { so_far : HasEntries l.node l.steps.items }
