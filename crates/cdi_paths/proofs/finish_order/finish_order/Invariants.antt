use Rattle.std.proofs.Common.{◌+◌, length}
use Rattle.cdi_paths.proofs.Order.{IsOrdering, work}
use Rattle.cdi_paths.proofs.finish_order.finish_order.Given as goal

abbrev pub invariant-loop-step : goal.invariant-loop-step
invariant-loop-step l = record { ordering : IsOrdering l.graph l.marks.items l.steps.items l.order.items }

abbrev pub decreases-loop-step : goal.decreases-loop-step
decreases-loop-step l = work l.graph l.marks.items + length l.steps.items
