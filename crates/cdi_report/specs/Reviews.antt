-- The problems of the deployment that bytes are.
use Rattle.std.specs.Prelude.{◌≡◌, ℕ, List, map, Option, None, Result, Ok, Err, IsSomeAnd}
use Rattle.cdi_prepare.specs.Ready.{Readied}
use Rattle.cdi_prepare.specs.Scripts.{registered}
use Rattle.cdi_prepare.specs.declared.scripts.NamedScript.{NamedScript}
use Rattle.cdi_report.specs.Reports.{AreProblemsWith}
use Rattle.cdi_report.specs.declared.reviewing.Review.{Review}
use Rattle.cdi_name_uses.specs.StepNames.{script_names}
use Rattle.cdi_name_uses.specs.declared.step_name.ScriptNames.{ScriptNames}

-- the names that the steps of scripts use, script by script
abbrev pub names_of : List NamedScript → List ScriptNames
names_of scripts = map (λ s. script_names s.name s.script) scripts

-- a deployment that was read, the names that its scripts use, and its problems, if its bodies are its scripts
pub record IsReview (r : Readied) (review : Review) : Type 0 where
  pub deployment : review.deployment ≡ r.deployment
  pub scripts : review.scripts ≡ names_of r.scripts
  pub are : AreProblemsWith (registered r.scripts) r.deployment review.problems

-- none if it can't be read
abbrev pub Reviews : Result Readied (List ℕ) → Option Review → Type 0
Reviews (Err fault) review = review ≡ None
Reviews (Ok r) review = IsSomeAnd review (IsReview r)
