-- How a report on a deployment ends.
use Rattle.std.specs.Prelude.{ℕ, Result, Ok, Err}
use Rattle.cdi_lines.specs.declared.fault.ServeFault.{ServeFault}
use Rattle.cdi_report.specs.declared.verdict.Verdict.{Verdict}
use Rattle.cdi_report.specs.declared.verdict.Verdict.TheVariants as verdicts

-- the exit status
abbrev pub status_of : Verdict → ℕ
status_of verdicts.Accepted = 0
status_of verdicts.Refused = 1
status_of (verdicts.Fault _) = 3

-- the fault that the report ended with, if it did
abbrev pub outcome_of : Verdict → Result (Unit {0}) ServeFault
outcome_of (verdicts.Fault fault) = Err fault
outcome_of verdicts.Accepted = Ok tt
outcome_of verdicts.Refused = Ok tt
