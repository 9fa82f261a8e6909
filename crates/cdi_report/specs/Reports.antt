-- What is told of the bytes of a deployment.
use Rattle.std.specs.Prelude.{◌≡◌, ℕ, Bool, true, false, List, [], ◌∷◌, codes, Option, Result, Ok, Err}
use Rattle.std.specs.List.{flat_map}
use Rattle.cdi_bodies.specs.declared.shape.Shape.{Shape}
use Rattle.cdi_check.specs.Problems.{AreProblemsOf}
use Rattle.cdi_deployment.specs.declared.deployment.Deployment.{Deployment}
use Rattle.cdi_lines.specs.declared.fault.ServeFault.TheVariants as faults
use Rattle.cdi_lines.specs.declared.sink.WriteFailed.{WriteFailed}
use Rattle.cdi_lines.specs.Ends.{WritesAll}
use Rattle.cdi_prepare.specs.declared.scripts.NamedScript.{NamedScript}
use Rattle.cdi_prepare.specs.FaultText.{line}
use Rattle.cdi_prepare.specs.Ready.{Readied, readied_in}
use Rattle.cdi_prepare.specs.Scripts.{registered, shape_under}
use Rattle.cdi_problems.specs.declared.problem.Problem.{Problem}
use Rattle.cdi_problems.specs.Words.{problem_text}
use Rattle.cdi_report.specs.declared.verdict.Verdict.{Verdict}
use Rattle.cdi_report.specs.declared.verdict.Verdict.TheVariants as verdicts

abbrev pub problem_line : List (List ℕ) → Problem → List ℕ
problem_line names problem = line (problem_text names problem)

abbrev pub problem_lines : List (List ℕ) → List Problem → List ℕ
problem_lines names problems = flat_map (problem_line names) problems

-- one line that it is accepted if there is no problem, else one for each
abbrev pub AreFindings : List (List ℕ) → List Problem → List ℕ → Bool → Type 0
AreFindings names [] lines is_accepted = (lines ≡ codes "accepted\n") × (is_accepted ≡ true)
AreFindings names (p ∷ ps) lines is_accepted =
    (lines ≡ problem_lines names (p ∷ ps)) × (is_accepted ≡ false)

-- these are the problems of a deployment whose bodies are scripts: each has the shape of the script of its name
pub record AreProblemsWith (scripts : List NamedScript) (d : Deployment) (problems : List Problem)
    : Type 0 where
  pub shape_of : ℕ → Option Shape
  pub shapes : (name : ℕ) → shape_of name ≡ shape_under scripts name
  pub are : AreProblemsOf d shape_of problems

-- the problems of a deployment whose bodies are its scripts are told
pub record Judges (r : Readied) (lines : List ℕ) (is_accepted : Bool) : Type 0 where
  pub problems : List Problem
  pub are : AreProblemsWith (registered r.scripts) r.deployment problems
  pub are_findings : AreFindings r.deployment.names problems lines is_accepted

-- the verdict if the lines were written so
abbrev pub verdict_of : {T E : Type 0} → Result T E → Bool → Verdict
verdict_of (Ok _) true = verdicts.Accepted
verdict_of (Ok _) false = verdicts.Refused
verdict_of (Err _) is_accepted = verdicts.Fault faults.Write

-- these lines are written, or if that failed a front part of them
pub record Writes (lines : List ℕ) (is_accepted : Bool)
    (held held_after : Option (List ℕ)) (verdict : Verdict) : Type 0 where
  pub result : Result (Unit {0}) WriteFailed
  pub written : WritesAll held held_after result lines
  pub is_verdict : verdict ≡ verdict_of result is_accepted

-- the problems of a deployment are told, and that is written
pub record TellsProblems (r : Readied) (held held_after : Option (List ℕ)) (verdict : Verdict)
    : Type 0 where
  pub lines : List ℕ
  pub is_accepted : Bool
  pub judges : Judges r lines is_accepted
  pub writes : Writes lines is_accepted held held_after verdict

-- the line of a deployment or a script that can't be read is written, or the problems of the others are told
abbrev pub Told : Result Readied (List ℕ) → Option (List ℕ) → Option (List ℕ) → Verdict → Type 0
Told (Err fault) held held_after verdict = Writes fault false held held_after verdict
Told (Ok r) held held_after verdict = TellsProblems r held held_after verdict

-- what is told of the bytes is written; or memory ran out, and nothing is
pub data ReportsOn (bytes : List ℕ) (held held_after : Option (List ℕ)) (verdict : Verdict)
    : Type 0 where
  starves : held_after ≡ held → verdict ≡ verdicts.Fault faults.Memory
      → ReportsOn bytes held held_after verdict
  tells : Told (readied_in bytes) held held_after verdict
      → ReportsOn bytes held held_after verdict
