use Rattle.std.proofs.Common.{take}
use Rattle.cdi_body_check.specs.Exceptions.{is_checked}
use Rattle.cdi_name_check.specs.NameSets.{HasNames}
use Rattle.cdi_run_tables.proofs.exceptions.checked_exceptions.Given as goal

abbrev pub invariant-loop-exception : goal.invariant-loop-exception
invariant-loop-exception l = HasNames (is_checked (take l.exception-index l.exceptions)) l.names
