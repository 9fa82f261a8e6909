use Rattle.std.proofs.Common.{◌≡◌, take}
use Rattle.cdi_numbered_plans.specs.Numbered.{AsksNumbered, steps_by}
use Rattle.cdi_numbered_plans.proofs.steps.steps_of.Given as goal

-- those of the steps that were looked at
abbrev pub invariant-loop-step : goal.invariant-loop-step
invariant-loop-step l = (l.all ≡ steps_by l.numbering (take l.step-index l.steps)) × AsksNumbered l.numbering l.lookup.now
