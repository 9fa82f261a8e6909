use Rattle.std.proofs.Common.{take}
use Rattle.cdi_name_check.specs.NameSets.{HasPairs}
use Rattle.cdi_name_check.specs.UnknownName.{has_member}
use Rattle.cdi_name_check.proofs.unknown_name.name_sets.members_of.Given as goal

abbrev pub invariant-loop-declared : goal.invariant-loop-declared
invariant-loop-declared l = HasPairs (has_member (take l.declared-index l.types)) l.set
