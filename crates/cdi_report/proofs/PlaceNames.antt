-- The places of the problems of a deployment that was read are told by names, since what holds of each such deployment is known.
use Rattle.std.proofs.Common.{ℕ, List, All, IfOk}
use Rattle.std.proofs.lemmas.List.Elements.{All-from_recursion}
use Rattle.std.proofs.lemmas.Result.{IfOk-weaker}
use Rattle.cdi_prepare.specs.Ready.{Readied, readied_in}
use Rattle.cdi_prepare.specs.Scripts.{registered}
use Rattle.cdi_problems.specs.declared.problem.Problem.{Problem}
use Rattle.cdi_report.specs.PlaceNames.{PlacesHaveNames}
use Rattle.cdi_report.specs.Reports.{AreProblemsWith}
use Rattle.cdi_report.proofs.LateProblems.{problems-told}
use Rattle.cdi_report.proofs.ToldPlaces.{IsTold}
use Rattle.cdi_report.specs.Facts.{HasFacts}

-- the problems of a deployment with its scripts
abbrev TellsAll : Readied → Type 0
TellsAll r = (problems : List Problem) → AreProblemsWith (registered r.scripts) r.deployment problems → All (IsTold r.deployment) problems

tells-all : (r : Readied) → HasFacts r.deployment → TellsAll r
tells-all r facts problems told =
    All-from_recursion (IsTold r.deployment) problems (problems-told r.deployment facts told.shape_of problems told.are)

pub places_have_names : ((bytes : List ℕ) → IfOk (readied_in bytes) (λ r. HasFacts r.deployment)) → PlacesHaveNames
places_have_names facts bytes =
    IfOk-weaker (readied_in bytes) (λ r. HasFacts r.deployment) TellsAll tells-all (facts bytes)
