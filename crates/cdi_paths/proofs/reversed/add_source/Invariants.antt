use Rattle.std.proofs.Common.{take}
use Rattle.cdi_paths.specs.Reversed.{HasSource}
use Rattle.cdi_paths.proofs.reversed.add_source.Given as goal

abbrev pub invariant-loop-target : goal.invariant-loop-target
invariant-loop-target l = record { so_far : HasSource l.node (take l.target-index l.targets) l.fn.rows l.rows }
