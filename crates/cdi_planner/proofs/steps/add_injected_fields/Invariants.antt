use Rattle.std.proofs.Common.{◌≡◌, ◌++◌, map, take}
use Rattle.cdi_planner.specs.Steps.{injection}
use Rattle.cdi_planner.proofs.steps.add_injected_fields.Given as goal

abbrev pub invariant-loop-field : goal.invariant-loop-field
invariant-loop-field l = l.steps ≡ l.initial.steps ++ map injection (take l.field-index l.fields)
