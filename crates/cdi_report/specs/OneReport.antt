-- A report is told by the bytes of the deployment.
use Rattle.std.specs.Prelude.{◌≡◌, ℕ, List, Option, Some}
use Rattle.cdi_report.specs.Reports.{ReportsOn}
use Rattle.cdi_report.specs.declared.verdict.Verdict.{Verdict}
use Rattle.cdi_report.specs.declared.verdict.Verdict.TheVariants as verdicts

-- no write failed, and memory did not run out
abbrev pub IsSettled : Verdict → Type 0
IsSettled (verdicts.Fault fault) = ⊥
IsSettled verdict = Unit {0}

-- the same was written, and the verdict is the same
pub record SameReport (held_after other_after : Option (List ℕ)) (verdict other : Verdict)
    : Type 0 where
  pub written : held_after ≡ other_after
  pub verdict_is : verdict ≡ other

-- two reports on the same bytes, whose output goes behind the same bytes
abbrev pub OneReport : Type 0
OneReport =
    (bytes held : List ℕ) (held_after other_after : Option (List ℕ)) (verdict other : Verdict)
    → IsSettled verdict → IsSettled other
    → ReportsOn bytes (Some held) held_after verdict → ReportsOn bytes (Some held) other_after other
    → SameReport held_after other_after verdict other
