use Rattle.std.proofs.Common.{take}
use Rattle.cdi_problems.specs.Elements.{shown}
use Rattle.cdi_problems.specs.Findings.{ListPlacesWhere}
use Rattle.cdi_problems.proofs.finding.list_places.Given as goal

abbrev pub invariant-loop-element : goal.invariant-loop-element
invariant-loop-element g l = ListPlacesWhere (g.R.Rule.holds_at l.rule) (shown (take l.element-index l.elements)) l.found
