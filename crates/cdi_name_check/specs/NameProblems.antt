-- The problems that are looked for before all others.
use Rattle.std.specs.Prelude.{◌≡◌, ◌++◌, List}
use Rattle.cdi_base.specs.declared.place.Place.{Place}
use Rattle.cdi_deployment.specs.declared.deployment.Deployment.{Deployment}
use Rattle.cdi_name_check.specs.CyclicHierarchy.{IsCyclicHierarchy}
use Rattle.cdi_name_check.specs.DuplicateName.{HasDuplicateName}
use Rattle.cdi_name_check.specs.UnknownName.{HasUnknownName}
use Rattle.cdi_problems.specs.Elements.{elements_of}
use Rattle.cdi_problems.specs.Findings.{ArePlacesOf, ArePlacesAfter}
use Rattle.cdi_problems.specs.Words.{problems_at}
use Rattle.cdi_problems.specs.declared.problem.Problem.{Problem}
use Rattle.cdi_problems.specs.declared.problem.ProblemKind.TheVariants as kinds
use Rattle.cdi_types.specs.Declarations.{declarations_of}

-- duplicate names, unknown names, cyclic hierarchies: each where it holds, in the order of the places
pub record AreNameProblems (d : Deployment) (problems : List Problem) : Type 0 where
  pub duplicate : List Place
  pub are_duplicate : ArePlacesAfter HasDuplicateName (elements_of d) duplicate
  pub unknown : List Place
  pub are_unknown : ArePlacesOf (HasUnknownName d) (elements_of d) unknown
  pub cyclic : List Place
  pub are_cyclic : ArePlacesOf (IsCyclicHierarchy (declarations_of d)) (elements_of d) cyclic
  pub are : problems
      ≡ problems_at kinds.DuplicateName duplicate ++ problems_at kinds.UnknownName unknown
      ++ problems_at kinds.CyclicHierarchy cyclic
