use Rattle.std.proofs.Common.{take}
use Rattle.cdi_paths.specs.Marks.{HasMarked}
use Rattle.cdi_paths.proofs.walk.mark_targets.Given as goal

abbrev pub invariant-loop-target : goal.invariant-loop-target
invariant-loop-target l = record { so_far : HasMarked (take l.target-index l.targets) l.fn.marks l.marks l.fn.ahead.items l.ahead.items }
