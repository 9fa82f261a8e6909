use Rattle.cdi_types.proofs.LineSteps.{Rises, stops_left}
use Rattle.cdi_types.proofs.class_index.ClassIndex.line_from.Given as goal

abbrev pub invariant-loop-next : goal.invariant-loop-next
invariant-loop-next l = Rises l.graph l.self l.fn.name l.next l.found

abbrev pub decreases-loop-next : goal.decreases-loop-next
decreases-loop-next l = stops_left l.graph l.next
