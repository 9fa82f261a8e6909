use Rattle.std.proofs.Common.{take}
use Rattle.cdi_name_check.specs.NameSets.{HasNames}
use Rattle.cdi_name_check.specs.UnknownName.{is_declared}
use Rattle.cdi_name_check.proofs.unknown_name.name_sets.annotation_names.Given as goal

abbrev pub invariant-loop-declared : goal.invariant-loop-declared
invariant-loop-declared l = HasNames (is_declared (take l.declared-index l.types)) l.set
