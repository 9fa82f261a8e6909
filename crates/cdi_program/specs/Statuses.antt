-- The exit statuses that are not those of a run or a report.
use Rattle.std.specs.Prelude.{ℕ, zero, suc, Bool, true, false}
use Rattle.clap.specs.declared.error.kind.ErrorKind.{ErrorKind}
use Rattle.clap.specs.declared.error.kind.ErrorKind.TheVariants as kinds

-- they ask for help or for the version
abbrev pub is_shown : ErrorKind → Bool
is_shown kinds.DisplayHelp = true
is_shown kinds.DisplayVersion = true
is_shown _ = false

-- 0 where they ask for help or the version, and 2 where they are wrong; where memory ran out, that of a fault
abbrev pub status_of : ErrorKind → ℕ
status_of kinds.DisplayHelp = 0
status_of kinds.DisplayVersion = 0
status_of kinds.OutOfMemory = 3
status_of _ = 2

-- 1 if the deployment is refused and what was found is written, and else the status of writing it
abbrev pub status_of_findings : Bool → ℕ → ℕ
status_of_findings false shown = shown
status_of_findings true zero = 1
status_of_findings true (suc n) = suc n
