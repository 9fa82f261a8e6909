-- The problems of names and of beans, of a deployment with these facts, are told by names.
use Rattle.std.proofs.Common.{List, sym, subst}
use Rattle.cdi_bean_rules.specs.Tiers.{AreBeanProblems, AreTooMany}
use Rattle.cdi_beans.specs.Problems.{AreEarlyProblemsOf}
use Rattle.cdi_deployment.specs.declared.deployment.Deployment.{Deployment}
use Rattle.cdi_name_check.specs.NameProblems.{AreNameProblems}
use Rattle.cdi_problems.specs.declared.problem.Problem.{Problem}
use Rattle.cdi_problems.specs.declared.problem.ProblemKind.TheVariants as kinds
use Rattle.cdi_quals.specs.declared.types.QualifierType.{QualifierType}
use Rattle.cdi_report.proofs.Having.{Having, ◌and◌}
use Rattle.cdi_report.proofs.ToldPlaces.{AreTold, IsTold, at_elements, at_placed}
use Rattle.cdi_report.specs.Facts.{HasFacts}

module _ (d : Deployment) (facts : HasFacts d) where
  names-told : (problems : List Problem) → AreNameProblems d problems → AreTold d problems
  names-told problems a =
      subst (AreTold d) (sym a.are)
      (
      at_placed d facts kinds.DuplicateName a.are_duplicate
      and at_elements d facts kinds.UnknownName a.are_unknown
      and at_elements d facts kinds.CyclicHierarchy a.are_cyclic
      ).each

  -- that there are too many is told without a place
  excess-told : {problems : List Problem} → AreTooMany d problems → AreTold d problems
  excess-told (AreTooMany.too_many h) = (tt, tt)
  excess-told (AreTooMany.few n) = tt

  abbrev excess : {problems : List Problem} → AreTooMany d problems → Having (IsTold d)
  excess {problems} are = record { items = problems; each = excess-told are }

  beans-told : {qualifiers : List QualifierType} (problems : List Problem) → AreBeanProblems d qualifiers problems → AreTold d problems
  beans-told problems a =
      subst (AreTold d) (sym a.are)
      (
      at_elements d facts kinds.DuplicateName a.are_repeated
      and at_elements d facts kinds.AbstractBean a.are_abstract
      and at_elements d facts kinds.TypedNotAType a.are_typed
      and at_elements d facts kinds.SpecializesNothing a.are_specializing
      and at_elements d facts kinds.SpecializedTypeLost a.are_losing
      and at_elements d facts kinds.UnmatchedDisposer a.are_unmatched
      and at_elements d facts kinds.TwoDisposers a.are_twice_disposed
      and at_elements d facts kinds.ConditionalDependent a.are_conditional
      and at_elements d facts kinds.TwoBindingsOfOneType a.are_twice_bound
      and excess a.are_excess
      ).each

  pub early-told : (problems : List Problem) → AreEarlyProblemsOf d problems → AreTold d problems
  early-told problems (AreEarlyProblemsOf.of_names h) = names-told problems h
  early-told problems (AreEarlyProblemsOf.of_beans q none h) = beans-told problems h
