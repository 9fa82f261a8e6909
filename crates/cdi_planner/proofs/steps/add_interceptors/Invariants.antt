use Rattle.std.proofs.Common.{◌≡◌, ◌++◌, map, take}
use Rattle.cdi_plans.specs.declared.plan.Step.TheVariants as steps
use Rattle.cdi_planner.proofs.steps.add_interceptors.Given as goal

abbrev pub invariant-loop-place : goal.invariant-loop-place
invariant-loop-place l = l.steps ≡ l.initial.steps ++ map steps.Intercept (take l.place-index l.places)
