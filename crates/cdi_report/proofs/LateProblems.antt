-- All problems of a deployment with these facts are told by names: those of the last tier, and those before.
use Rattle.std.proofs.Common.{ℕ, List, ◌++◌, Option, sym, subst}
use Rattle.cdi_bodies.specs.declared.shape.Shape.{Shape}
use Rattle.cdi_check.specs.Late.{AreBodyProblems, AreEnabledProblems, ArePointProblems, AreProblemsIn}
use Rattle.cdi_check.specs.Problems.{AreProblemsOf}
use Rattle.cdi_live.specs.OwnPoints.{Inventory}
use Rattle.cdi_deployment.specs.declared.deployment.Deployment.{Deployment}
use Rattle.cdi_enable.specs.Enablement.{Enablement}
use Rattle.cdi_problems.specs.declared.problem.Problem.{Problem}
use Rattle.cdi_problems.specs.declared.problem.ProblemKind.TheVariants as kinds
use Rattle.cdi_report.proofs.EarlyProblems.{early-told}
use Rattle.cdi_report.proofs.Having.{◌and◌}
use Rattle.cdi_report.proofs.ToldPlaces.{AreTold, IsTold, at_elements, at_sites}
use Rattle.cdi_report.proofs.Each.{each_append}
use Rattle.cdi_report.specs.Facts.{HasFacts}

module _ (d : Deployment) (facts : HasFacts d) (shape_of : ℕ → Option Shape) where
  bodies-told : {s : Inventory} (problems : List Problem) → AreBodyProblems d shape_of s problems → AreTold d problems
  bodies-told problems a =
      subst (AreTold d) (sym a.are)
      (
      at_sites d facts kinds.UnknownBody a.are_unknown
      and at_sites d facts kinds.BodyOutsideShape a.are_outside
      and at_sites d facts kinds.ProceedNotAllowed a.are_proceeding
      and at_sites d facts kinds.CheckedLifecycle a.are_checked
      ).each

  points-told : {s : Inventory} (problems : List Problem) → ArePointProblems d s problems → AreTold d problems
  points-told problems a =
      subst (AreTold d) (sym a.are)
      (
      at_elements d facts kinds.Unsatisfied a.are_unsatisfied
      and at_elements d facts kinds.Ambiguous a.are_ambiguous
      and at_elements d facts kinds.Unproxyable a.are_unproxyable
      ).each

  enabled-told : {e : Enablement} {s : Inventory} (problems : List Problem) → AreEnabledProblems d e s problems → AreTold d problems
  enabled-told problems a =
      subst (AreTold d) (sym a.are)
      (
      at_elements d facts kinds.InconsistentSpecialization a.are_inconsistent
      and at_elements d facts kinds.DependentCycle a.are_cyclic
      and at_elements d facts kinds.FinalIntercepted a.are_intercepted
      ).each

  in-told : {e : Enablement} {s : Inventory} (problems : List Problem) → AreProblemsIn d shape_of e s problems → AreTold d problems
  in-told problems a =
      subst (AreTold d) (sym a.are)
      (each_append (IsTold d) (a.of_bodies ++ a.of_points) a.of_enabled
      (each_append (IsTold d) a.of_bodies a.of_points (bodies-told a.of_bodies a.are_of_bodies) (points-told a.of_points a.are_of_points))
      (enabled-told a.of_enabled a.are_of_enabled))

  pub problems-told : (problems : List Problem) → AreProblemsOf d shape_of problems → AreTold d problems
  problems-told problems (AreProblemsOf.early h) = early-told d facts problems h.are
  problems-told problems (AreProblemsOf.late h) = in-told problems h.are
