-- How a run of the program ends.
use Rattle.std.specs.Prelude.{ℕ, Option, Some, None, Result, Ok, Err}
use Rattle.cdi_base.specs.declared.reply.Cause.{Cause}
use Rattle.cdi_shell.specs.declared.ending.Ending.{Ending}
use Rattle.cdi_shell.specs.declared.ending.Ending.TheVariants as endings
use Rattle.cdi_lines.specs.declared.fault.ServeFault.{ServeFault}
use Rattle.cdi_lines.specs.declared.fault.ServeFault.TheVariants as faults

-- the exit status
abbrev pub status_of : Ending → ℕ
status_of endings.Fine = 0
status_of endings.Refused = 1
status_of (endings.Fault _ _) = 3
status_of (endings.Halted _) = 4

-- where a container was served so, and may have halted
abbrev pub after_serving : {T : Type 0} → Result T ServeFault → Option Cause → Ending
after_serving (Err fault) halted = endings.Fault fault halted
after_serving (Ok _) (Some cause) = endings.Halted cause
after_serving (Ok _) None = endings.Fine

-- where the lines of a refusal were written so
abbrev pub after_refusal : {T E : Type 0} → Result T E → Ending
after_refusal (Ok _) = endings.Refused
after_refusal (Err _) = endings.Fault faults.Write None

-- where memory ran out before anything was read or written
abbrev pub starved : Ending
starved = endings.Fault faults.Memory None

-- the fault that the run ended with, if it did
abbrev pub outcome_of : Ending → Result (Unit {0}) ServeFault
outcome_of (endings.Fault fault halted) = Err fault
outcome_of endings.Fine = Ok tt
outcome_of endings.Refused = Ok tt
outcome_of (endings.Halted cause) = Ok tt
