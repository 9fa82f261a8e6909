-- The problems at places of elements and of sites, of a deployment with these facts, are told by names.
use Rattle.std.proofs.Common.{List, []}
use Rattle.std.specs.List.{AllByRecursion}
use Rattle.cdi_base.specs.declared.place.Place.{Place}
use Rattle.cdi_body_check.specs.Findings.{ArePlacesOf as AreSitesOf}
use Rattle.cdi_body_check.specs.Sites.{Site, sites_of}
use Rattle.cdi_deployment.specs.declared.deployment.Deployment.{Deployment}
use Rattle.cdi_problems.specs.Elements.{Element, elements_of, place_of}
use Rattle.cdi_problems.specs.Findings.{ArePlacesAfter, ArePlacesOf, Placed}
use Rattle.cdi_problems.specs.declared.problem.Problem.{Problem}
use Rattle.cdi_problems.specs.declared.problem.ProblemKind.{ProblemKind}
use Rattle.cdi_report.specs.PlaceNames.{HasNames}
use Rattle.cdi_report.proofs.ElementNames.{elements-tell}
use Rattle.cdi_report.proofs.FoundPlaces.{IsAt, each_placed, problems_found}
use Rattle.cdi_report.proofs.Having.{Having}
use Rattle.cdi_report.proofs.SiteNames.{sites-tell}
use Rattle.cdi_report.specs.Facts.{HasFacts}

-- its place is told by names, if it has one
abbrev pub IsTold : Deployment → Problem → Type 0
IsTold d = IsAt (HasNames d.names)

abbrev pub AreTold : Deployment → List Problem → Type 0
AreTold d problems = AllByRecursion (IsTold d) problems

module _ (d : Deployment) (facts : HasFacts d) where
  abbrev pub at_elements : {P : Element → Type 0} {found : List Place} (kind : ProblemKind) → ArePlacesOf P (elements_of d) found
      → Having (IsTold d)
  at_elements kind are = problems_found (HasNames d.names) kind are (elements-tell d facts)

  -- of an element with those before it
  abbrev pub at_placed : {P : Placed → Type 0} {found : List Place} (kind : ProblemKind) → ArePlacesAfter P (elements_of d) found
      → Having (IsTold d)
  at_placed kind are =
      problems_found (HasNames d.names) kind are
      (each_placed (λ e. HasNames d.names (place_of e)) [] (elements_of d) (elements-tell d facts))

  abbrev pub at_sites : {P : Site → Type 0} {found : List Place} (kind : ProblemKind) → AreSitesOf P (sites_of d) found
      → Having (IsTold d)
  at_sites kind are = problems_found (HasNames d.names) kind are (sites-tell d facts)
