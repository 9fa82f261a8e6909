-- The hints for the problems of a deployment, as lines on standard error.
use Rattle.std.specs.Prelude.{◌≡◌, ℕ, ◌-◌, List, [], ◌∷◌, ◌++◌, codes, decimal, length, min, take, nat_eq, Option, Some, None, Result, Ok, Err, IfSome, if◌then◌else◌}
use Rattle.cdi_deployment.specs.declared.deployment.Deployment.{Deployment}
use Rattle.cdi_positions.specs.Position.{IsPositionIn}
use Rattle.cdi_positions.specs.declared.position.Position.{Position}
use Rattle.cdi_prepare.specs.Ready.{Readied}
use Rattle.cdi_prepare.specs.Scripts.{registered}
use Rattle.cdi_problem_hints.specs.Hints.{problem_hint}
use Rattle.cdi_problem_hints.specs.Subjects.{Subject}
use Rattle.cdi_problems.specs.declared.problem.Problem.{Problem}
use Rattle.cdi_findings.specs.Faults.{fault_name, unhinted_text}
use Rattle.cdi_findings.specs.Tables.{AreTablesFor}
use Rattle.cdi_program.specs.Lines.{file_line}
use Rattle.cdi_report.specs.Reports.{AreProblemsWith}
use Rattle.cdi_report.specs.Reviews.{names_of}
use Rattle.cdi_resolve.specs.declared.bean_tables.BeanTables.{BeanTables}
use Rattle.cdi_name_uses.specs.declared.step_name.ScriptNames.{ScriptNames}

-- what stands in front of a hint: the position of a text, if one is known
abbrev pub position_front : Option Position → List ℕ
position_front None = []
position_front (Some p) =
    (codes "line " ++ (decimal p.line ++ (codes ", column " ++ decimal p.column))) ++ codes ": "

-- the line of the hint for a problem
abbrev pub hint_line : List ℕ → Subject → Problem → Option Position → List ℕ
hint_line file s p position = file_line file (position_front position ++ problem_hint s p)

-- the lines of the hints for problems, in their order, each with a position of the text if one is known
pub data AreHintLines (file bytes : List ℕ) (s : Subject) : List Problem → List ℕ → Type 0 where
  none : AreHintLines file bytes s [] []
  more : (problems : List Problem) (lines : List ℕ) (p : Problem) (position : Option Position)
      → IfSome position (IsPositionIn bytes) → AreHintLines file bytes s problems lines
      → AreHintLines file bytes s (problems ++ p ∷ []) (lines ++ hint_line file s p position)

-- so many problems more have no hint
abbrev pub rest_line : List ℕ → ℕ → List ℕ
rest_line file count =
    if nat_eq count 0 then []
    else file_line file (codes "and " ++ (decimal count ++ codes " more problems"))

-- how many problems get a hint: 50 at most
abbrev pub hinted : List Problem → ℕ
hinted problems = min (length problems) 50

-- a line for each of these, and how many there are more
pub record IsAdviceText (file bytes : List ℕ) (s : Subject) (problems : List Problem)
    (advice : List ℕ) : Type 0 where
  pub lines : List ℕ
  pub are_lines : AreHintLines file bytes s (take (hinted problems) problems) lines
  pub is : advice ≡ lines ++ rest_line file (length problems - hinted problems)

-- that of a deployment whose scripts use these names
pub record IsAdviceWith (file bytes : List ℕ) (d : Deployment) (scripts : List ScriptNames)
    (problems : List Problem) (advice : List ℕ) : Type 0 where
  pub tables : Option BeanTables
  pub are_tables : AreTablesFor d problems tables
  pub is_text :
      IsAdviceText file bytes (record { deployment = d; scripts = scripts; tables = tables })
      problems advice

-- that of the problems of a deployment whose bodies are its scripts
pub record IsAdviceOn (file bytes : List ℕ) (r : Readied) (advice : List ℕ) : Type 0 where
  pub problems : List Problem
  pub are : AreProblemsWith (registered r.scripts) r.deployment problems
  pub is_advice : IsAdviceWith file bytes r.deployment (names_of r.scripts) problems advice

-- that of a fault for which there is no hint
abbrev pub fault_advice : List ℕ → Result Readied (List ℕ) → List ℕ
fault_advice file read = file_line file (unhinted_text (fault_name read))

-- that of bytes, by what they are read as
abbrev pub IsAdviceFor : List ℕ → List ℕ → Result Readied (List ℕ) → List ℕ → Type 0
IsAdviceFor file bytes (Err fault) advice = advice ≡ fault_advice file (Err fault)
IsAdviceFor file bytes (Ok r) advice = IsAdviceOn file bytes r advice
