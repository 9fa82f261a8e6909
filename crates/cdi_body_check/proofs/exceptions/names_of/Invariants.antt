use Rattle.std.proofs.Common.{take}
use Rattle.cdi_body_check.specs.Exceptions.{is_declared}
use Rattle.cdi_name_check.specs.NameSets.{HasNames}
use Rattle.cdi_body_check.proofs.exceptions.names_of.Given as goal

abbrev pub invariant-loop-exception : goal.invariant-loop-exception
invariant-loop-exception l = HasNames (is_declared (take l.exception-index l.exceptions)) l.set
