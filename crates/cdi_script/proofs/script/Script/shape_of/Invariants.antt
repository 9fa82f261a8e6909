use Rattle.std.proofs.Common.{◌≡◌, drop, fold}
use Rattle.cdi_script.specs.Listed.{shape_of}
use Rattle.cdi_script.specs.Step.{with_action}
use Rattle.cdi_script.proofs.script.Script.shape_of.Given as goal

abbrev pub invariant-loop-step : goal.invariant-loop-step
invariant-loop-step l = fold (λ shape step. with_action shape step.action) l.shape (drop l.step-index l.step-items) ≡ shape_of l.self
