-- The drawing of the deployment that bytes are.
use Rattle.std.specs.Prelude.{◌≡◌, ℕ, List, length, nat_lt, string_bytes, Option, None, Result, Ok, Err, IsSomeAnd}
use Rattle.cdi_candidates.specs.Tables.{AreTables}
use Rattle.cdi_deployment.specs.declared.deployment.Deployment.{Deployment}
use Rattle.cdi_pictures.specs.Pictures.{picture}
use Rattle.cdi_prepare.specs.Ready.{Readied}
use Rattle.cdi_prepare.specs.Scripts.{registered}
use Rattle.cdi_problems.specs.declared.problem.Problem.{Problem}
use Rattle.cdi_program.specs.declared.drawing.Drawing.{Drawing}
use Rattle.cdi_report.specs.Reports.{AreProblemsWith}
use Rattle.cdi_resolve.specs.declared.bean_tables.BeanTables.{BeanTables}

-- the picture of a deployment with these problems, which is refused if there is one
pub record IsDrawingWith (d : Deployment) (problems : List Problem) (drawing : Drawing)
    : Type 0 where
  pub tables : Option BeanTables
  pub are_tables : AreTables d tables
  pub text :
      string_bytes drawing.text
      ≡ picture (record { deployment = d; tables = tables; problems = problems })
  pub is_refused : drawing.is_refused ≡ nat_lt 0 (length problems)

-- that of a deployment that was read, whose bodies are its scripts
pub record IsDrawingOf (r : Readied) (drawing : Drawing) : Type 0 where
  pub problems : List Problem
  pub are : AreProblemsWith (registered r.scripts) r.deployment problems
  pub is : IsDrawingWith r.deployment problems drawing

-- none of bytes that can't be read
abbrev pub IsDrawing : Result Readied (List ℕ) → Option Drawing → Type 0
IsDrawing (Err line) drawing = drawing ≡ None
IsDrawing (Ok r) drawing = IsSomeAnd drawing (IsDrawingOf r)
