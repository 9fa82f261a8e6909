use Rattle.std.proofs.Common.{take}
use Rattle.cdi_place_index.specs.PlaceIndex.{AreElementRows}
use Rattle.cdi_problems.specs.Elements.{shown}
use Rattle.cdi_place_index.proofs.index.element_rows.Given as goal

abbrev pub invariant-loop-element : goal.invariant-loop-element
invariant-loop-element l = AreElementRows (shown (take l.element-index l.elements)) l.rows
