-- The problems of beans, and in which order all are looked for.
use Rattle.std.specs.Prelude.{◌≡◌, ◌++◌, List, [], ◌∷◌, None}
use Rattle.cdi_base.specs.declared.place.Place.{Place}
use Rattle.cdi_deployment.specs.declared.deployment.Deployment.{Deployment}
use Rattle.cdi_problems.specs.Elements.{Element, elements_of}
use Rattle.cdi_problems.specs.Findings.{ArePlacesOf, PlacesIn}
use Rattle.cdi_problems.specs.Words.{problems_at}
use Rattle.cdi_problems.specs.declared.problem.Problem.{Problem}
use Rattle.cdi_problems.specs.declared.problem.ProblemKind.{ProblemKind}
use Rattle.cdi_problems.specs.declared.problem.ProblemKind.TheVariants as kinds
use Rattle.cdi_quals.specs.declared.types.QualifierType.{QualifierType}
use Rattle.cdi_types.specs.Declarations.{declarations_of}
use Rattle.cdi_bean_check.specs.BeanTypes.{HasTypedNotAType, HasSpecializedTypeLost}
use Rattle.cdi_bean_check.specs.BindingLists.{HasTwoBindingsOfOneType}
use Rattle.cdi_bean_rules.specs.Disposers.{IsUnmatchedDisposer, HasTwoDisposers}
use Rattle.cdi_bean_rules.specs.Limits.{HasTooMany}
use Rattle.cdi_bean_check.specs.ManagedBeans.{bean_names, IsAbstractBean, SpecializesNothing}
use Rattle.cdi_bean_rules.specs.Observers.{IsConditionalDependent}
use Rattle.cdi_bean_check.specs.Repeated.{RepeatsSuperclass}

-- there are too many, and the one problem says so; or there aren't, and nothing does
pub data AreTooMany (d : Deployment) : List Problem → Type 0 where
  too_many : HasTooMany d.classes (declarations_of d)
      → AreTooMany d ((record { kind = kinds.TooMany; place = None }) ∷ [])
  few : ¬ HasTooMany d.classes (declarations_of d) → AreTooMany d []

-- to a list are added the problems of a kind, where it holds of some elements
pub record AddsProblems (P : Element → Type 0) (elements : List Element) (kind : ProblemKind)
    (old new : List Problem) : Type 0 where
  pub places : List Place
  pub are : ArePlacesOf P elements places
  pub adds : new ≡ old ++ problems_at kind places

-- and that there are too many, if there are
pub record AddsExcess (d : Deployment) (old new : List Problem) : Type 0 where
  pub excess : List Problem
  pub are : AreTooMany d excess
  pub adds : new ≡ old ++ excess

-- the problems of beans: each where it holds, by number and then in the order of the places
pub record AreBeanProblems (d : Deployment) (qualifiers : List QualifierType)
    (problems : List Problem) : Type 0 where
  pub repeated : List Place
  pub are_repeated : PlacesIn d (RepeatsSuperclass d.classes (declarations_of d)) repeated
  pub abstract_beans : List Place
  pub are_abstract : PlacesIn d IsAbstractBean abstract_beans
  pub typed : List Place
  pub are_typed : PlacesIn d (HasTypedNotAType (declarations_of d)) typed
  pub specializing : List Place
  pub are_specializing : PlacesIn d (SpecializesNothing (bean_names d.classes)) specializing
  pub losing : List Place
  pub are_losing : PlacesIn d (HasSpecializedTypeLost d.classes (declarations_of d)) losing
  pub unmatched : List Place
  pub are_unmatched : PlacesIn d (IsUnmatchedDisposer (declarations_of d) qualifiers) unmatched
  pub twice_disposed : List Place
  pub are_twice_disposed :
      PlacesIn d (HasTwoDisposers (declarations_of d) qualifiers) twice_disposed
  pub conditional : List Place
  pub are_conditional :
      PlacesIn d (IsConditionalDependent d.classes (declarations_of d)) conditional
  pub twice_bound : List Place
  pub are_twice_bound : PlacesIn d HasTwoBindingsOfOneType twice_bound
  pub excess : List Problem
  pub are_excess : AreTooMany d excess
  pub are :
      problems
      ≡ problems_at kinds.DuplicateName repeated ++ problems_at kinds.AbstractBean abstract_beans
      ++ problems_at kinds.TypedNotAType typed
      ++ problems_at kinds.SpecializesNothing specializing
      ++ problems_at kinds.SpecializedTypeLost losing
      ++ problems_at kinds.UnmatchedDisposer unmatched
      ++ problems_at kinds.TwoDisposers twice_disposed
      ++ problems_at kinds.ConditionalDependent conditional
      ++ problems_at kinds.TwoBindingsOfOneType twice_bound ++ excess
