use Rattle.std.proofs.Common.{◌≡◌, ◌++◌, map, take}
use Rattle.cdi_paths.specs.declared.finish_order.Step.TheVariants.{Enter}
use Rattle.cdi_paths.proofs.finish_order.add_entries.Given as goal

abbrev pub invariant-loop-target : goal.invariant-loop-target
invariant-loop-target l = l.steps.items ≡ l.fn.steps.items ++ map Enter (take l.target-index l.targets)
