-- What is told on standard error.
use Rattle.std.specs.Prelude.{◌≡◌, ℕ, List, Option, Some, None, Result, Ok, Err, IsTrue, OnOk}
use Rattle.std.specs.Io.KnownBytes.{Keeps}
use Rattle.cdi_lines.specs.Ends.{Tells, WritesAll}
use Rattle.cdi_lines.specs.Faults.{fault_text}
use Rattle.cdi_lines.specs.declared.sink.WriteFailed.{WriteFailed}
use Rattle.cdi_lines.specs.declared.fault.ServeFault.{ServeFault}
use Rattle.cdi_lines.specs.declared.fault.ServeFault.TheVariants as faults
use Rattle.cdi_positions.specs.RepeatedKey.{repeated_text}
use Rattle.cdi_positions.specs.declared.repeated_keys.RepeatedKey.{RepeatedKey}
use Rattle.cdi_prepare.specs.Hint.{IsHintFor}
use Rattle.cdi_prepare.specs.HintText.{hint_text}
use Rattle.cdi_prepare.specs.declared.hint.Hint.{Hint}
use Rattle.cdi_report.specs.declared.verdict.Verdict.{Verdict}
use Rattle.cdi_report.specs.declared.verdict.Verdict.TheVariants as verdicts
use Rattle.cdi_shell.specs.declared.ending.Ending.{Ending}
use Rattle.cdi_shell.specs.declared.ending.Ending.TheVariants as endings
use Rattle.cdi_prepare.specs.Ready.{readied_in}
use Rattle.cdi_findings.specs.Warnings.{IsWarningFor}
use Rattle.cdi_program.specs.Advice.{IsAdviceFor}
use Rattle.cdi_program.specs.Lines.{IsFileLine, cause_line}
use Rattle.cdi_program.specs.Streams.{Output}

-- Writing a text and passing it on came to this. Where it failed, a front part of the text is written, and the output has
-- failed.
pub record Passes (text : List ℕ) (result : Result (Unit {0}) WriteFailed) (old new : Output) : Type 0 where
  pub written : WritesAll old.held new.held result text
  pub failed : Tells result old.has_failed new.has_failed
  pub passed_on : OnOk result (IsTrue new.is_passed_on)

-- the text is written and passed on, as far as the output lets
abbrev pub PassesOn : List ℕ → Output → Output → Type 0
PassesOn text old new = (result : Result (Unit {0}) WriteFailed) × Passes text result old new

abbrev pub TellsFault : ServeFault → Output → Output → Type 0
TellsFault fault old new = PassesOn (cause_line (fault_text fault)) old new

-- A cause that lies in a file is told, which is written so if it is known how; or that memory ran out.
pub data TellsOfFile (file : List ℕ) (cause : Option (List ℕ)) (old new : Output) : Type 0 where
  tells : (line : List ℕ) → IsFileLine file cause line → PassesOn line old new
      → TellsOfFile file cause old new
  starves : TellsFault faults.Memory old new → TellsOfFile file cause old new

-- The hints for the problems of the deployment that these bytes are, or why they are none, are told; or that memory ran out.
pub data Advises (file bytes : List ℕ) (old new : Output) : Type 0 where
  advises : (advice : List ℕ) → IsAdviceFor file bytes (readied_in bytes) advice
      → PassesOn advice old new → Advises file bytes old new
  starves : TellsFault faults.Memory old new → Advises file bytes old new

-- the hint for a deployment that can't be read, or else those for its problems
abbrev pub TellsHint : List ℕ → List ℕ → Option Hint → Output → Output → Type 0
TellsHint file bytes None old new = Advises file bytes old new
TellsHint file bytes (Some hint) old new = TellsOfFile file (hint_text hint) old new

-- These bytes were refused: the hint for them is told, or those for their problems; or that memory ran out.
pub data TellsRefused (file bytes : List ℕ) (old new : Output) : Type 0 where
  tells : (hint : Option Hint) → IsHintFor bytes hint → TellsHint file bytes hint old new
      → TellsRefused file bytes old new
  starves : TellsFault faults.Memory old new → TellsRefused file bytes old new

-- what is told of a key that stands twice, at a position of the text
abbrev pub WarnsOf : List ℕ → Option RepeatedKey → Output → Output → Type 0
WarnsOf file None old new = new ≡ old
WarnsOf file (Some warning) old new = TellsOfFile file (repeated_text warning) old new

-- The warning for these bytes is told, if there is one; or that memory ran out.
pub data Warns (file bytes : List ℕ) (old new : Output) : Type 0 where
  warns : (warning : Option RepeatedKey) → IsWarningFor bytes warning → WarnsOf file warning old new
      → Warns file bytes old new
  starves : TellsFault faults.Memory old new → Warns file bytes old new

-- the warning, and then what is told of bytes that were refused
pub record WarnsAndTells (file bytes : List ℕ) (old new : Output) : Type 0 where
  pub between : Output
  pub warns : Warns file bytes old between
  pub tells : TellsRefused file bytes between new

-- A fault is told; else the warning, and what is told of a deployment that is refused.
abbrev pub TellsEnding : List ℕ → List ℕ → Ending → Output → Output → Type 0
TellsEnding file bytes endings.Fine old new = Warns file bytes old new
TellsEnding file bytes endings.Refused old new = WarnsAndTells file bytes old new
TellsEnding file bytes (endings.Fault fault halted) old new = TellsFault fault old new
TellsEnding file bytes (endings.Halted cause) old new = Warns file bytes old new

-- the same for a report
abbrev pub TellsVerdict : List ℕ → List ℕ → Verdict → Output → Output → Type 0
TellsVerdict file bytes verdicts.Accepted old new = Warns file bytes old new
TellsVerdict file bytes verdicts.Refused old new = WarnsAndTells file bytes old new
TellsVerdict file bytes (verdicts.Fault fault) old new = TellsFault fault old new

-- an output is asked to pass all on, whether it can or not
pub record IsFlushed (old new : Output) : Type 0 where
  pub result : Result (Unit {0}) WriteFailed
  pub kept : Keeps old.held new.held
  pub failed : Tells result old.has_failed new.has_failed
  pub passed_on : OnOk result (IsTrue new.is_passed_on)

-- the output is as the run left it, but after a fault it is asked once more to pass all on
abbrev pub IsLeft : Result (Unit {0}) ServeFault → Output → Output → Type 0
IsLeft (Ok _) old new = new ≡ old
IsLeft (Err _) old new = IsFlushed old new
