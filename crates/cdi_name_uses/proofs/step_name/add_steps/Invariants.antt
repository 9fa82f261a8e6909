use Rattle.std.proofs.Common.{◌≡◌, ◌++◌, take}
use Rattle.std.specs.List.{flat_map, enumerate_from}
use Rattle.cdi_name_uses.specs.StepNames as spec
use Rattle.cdi_name_uses.proofs.step_name.add_steps.Given as goal

abbrev pub invariant-loop-index : goal.invariant-loop-index
invariant-loop-index l =
    l.used ≡ l.initial.used ++ flat_map spec.step_names (enumerate_from 0 (take l.index l.steps))
