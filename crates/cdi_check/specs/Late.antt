-- The last tier of problems: those of a deployment whose names and beans have none.
use Rattle.std.specs.Prelude.{ℕ, ◌≡◌, ◌++◌, Bool, List, Option, map}
use Rattle.cdi_base.specs.declared.place.Place.{Place}
use Rattle.cdi_beans.specs.Problems.{IsMadeOf}
use Rattle.cdi_beans.specs.declared.bean.BeanList.{BeanList}
use Rattle.cdi_bodies.specs.declared.shape.Shape.{Shape}
use Rattle.cdi_body_check.specs.CheckedLifecycle.{HasCheckedLifecycle}
use Rattle.cdi_body_check.specs.Findings.{ArePlacesOf as AreSitesOf}
use Rattle.cdi_body_check.specs.ProceedNotAllowed.{HasProceedNotAllowed}
use Rattle.cdi_body_check.specs.Sites.{Site, sites_of}
use Rattle.cdi_body_check.specs.UnknownBody.{HasUnknownBody}
use Rattle.cdi_plans.specs.Bindings.{class_bindings}
use Rattle.cdi_live.specs.Cycles.{HasDependentCycle}
use Rattle.cdi_live.specs.OwnPoints.{Inventory}
use Rattle.cdi_deployment.specs.declared.deployment.Deployment.{Deployment}
use Rattle.cdi_enable.specs.Enablement.{Enablement, enablement_of, AreFlags}
use Rattle.cdi_live.specs.PointProblems.{HasPointProblem}
use Rattle.cdi_live.specs.declared.point_problem.PointProblem.{PointProblem}
use Rattle.cdi_live.specs.declared.point_problem.PointProblem.TheVariants as points
use Rattle.cdi_problems.specs.Elements.{Element, elements_of}
use Rattle.cdi_problems.specs.Findings.{PlacesIn}
use Rattle.cdi_problems.specs.Words.{problems_at}
use Rattle.cdi_problems.specs.declared.problem.Problem.{Problem}
use Rattle.cdi_problems.specs.declared.problem.ProblemKind.TheVariants as kinds
use Rattle.cdi_quals.specs.Types.{AreQualifiersOf, AreTypesOf}
use Rattle.cdi_quals.specs.declared.types.QualifierType.{QualifierType}
use Rattle.cdi_resolve.specs.Filters.{enabled_beans}
use Rattle.cdi_shape_check.specs.Application.{Application}
use Rattle.cdi_shape_check.specs.BodyOutsideShape.{HasBodyOutsideShape}
use Rattle.cdi_types.specs.Declarations.{declarations_of}
use Rattle.cdi_check.specs.BeanRules.{HasInconsistentSpecialization, HasFinalIntercepted}

-- what a deployment with this bean list is, where these flags tell which beans are enabled
abbrev pub setting_of : Deployment → BeanList → List Bool → List QualifierType → List QualifierType
    → Inventory
setting_of d list flags qualifiers bindings =
    record {
      qualifiers = qualifiers;
      interceptors = d.interceptors;
      enabled =
          record {
            classes = d.classes;
            types = declarations_of d;
            beans = enabled_beans list.beans flags;
            interceptors = list.interceptors;
          };
      chains = record {
        classes = map (class_bindings bindings) d.classes;
        interceptors = list.interceptors;
      };
      disposers = list.disposers;
    }

abbrev pub SitesIn : Deployment → (Site → Type 0) → List Place → Type 0
SitesIn d P found = AreSitesOf P (sites_of d) found

-- what the shapes of bodies may name
abbrev pub application_in : Deployment → Inventory → Application
application_in d s =
    record { deployment = d; qualifiers = s.qualifiers; enabled = s.enabled.beans }

-- P13 BodyOutsideShape, at the places where it holds
abbrev pub AreOutsideShape : Deployment → (ℕ → Option Shape) → Inventory → List Place → Type 0
AreOutsideShape d shape_of s found =
    SitesIn d (HasBodyOutsideShape (application_in d s) s.enabled shape_of) found

-- the problems of bodies
pub record AreBodyProblems (d : Deployment) (shape_of : ℕ → Option Shape) (s : Inventory)
    (problems : List Problem) : Type 0 where
  pub unknown : List Place
  pub are_unknown : SitesIn d (HasUnknownBody s.enabled shape_of) unknown
  pub outside : List Place
  pub are_outside : AreOutsideShape d shape_of s outside
  pub proceeding : List Place
  pub are_proceeding : SitesIn d (HasProceedNotAllowed s.enabled shape_of) proceeding
  pub checked : List Place
  pub are_checked : SitesIn d (HasCheckedLifecycle d.exceptions s.enabled shape_of) checked
  pub are :
      problems
      ≡ problems_at kinds.UnknownBody unknown ++ problems_at kinds.BodyOutsideShape outside
      ++ problems_at kinds.ProceedNotAllowed proceeding
      ++ problems_at kinds.CheckedLifecycle checked

-- to a list are added the problems of bodies
pub record AddsBodyProblems (d : Deployment) (shape_of : ℕ → Option Shape) (s : Inventory)
    (old new : List Problem) : Type 0 where
  pub added : List Problem
  pub are : AreBodyProblems d shape_of s added
  pub adds : new ≡ old ++ added

abbrev pub ArePointPlaces : PointProblem → Deployment → Inventory → List Place → Type 0
ArePointPlaces problem d s found = PlacesIn d (HasPointProblem problem s.qualifiers s.enabled) found

-- the problems of injection points
pub record ArePointProblems (d : Deployment) (s : Inventory) (problems : List Problem) : Type 0 where
  pub unsatisfied : List Place
  pub are_unsatisfied : ArePointPlaces points.Unsatisfied d s unsatisfied
  pub ambiguous : List Place
  pub are_ambiguous : ArePointPlaces points.Ambiguous d s ambiguous
  pub unproxyable : List Place
  pub are_unproxyable : ArePointPlaces points.Unproxyable d s unproxyable
  pub are :
      problems
      ≡ problems_at kinds.Unsatisfied unsatisfied ++ problems_at kinds.Ambiguous ambiguous
      ++ problems_at kinds.Unproxyable unproxyable

pub record AddsPointProblems (d : Deployment) (s : Inventory) (old new : List Problem) : Type 0 where
  pub added : List Problem
  pub are : ArePointProblems d s added
  pub adds : new ≡ old ++ added

-- the problems of enabled beans and interceptors
pub record AreEnabledProblems (d : Deployment) (e : Enablement) (s : Inventory)
    (problems : List Problem) : Type 0 where
  pub inconsistent : List Place
  pub are_inconsistent : PlacesIn d (HasInconsistentSpecialization e) inconsistent
  pub cyclic : List Place
  pub are_cyclic : PlacesIn d (HasDependentCycle s) cyclic
  pub intercepted : List Place
  pub are_intercepted : PlacesIn d (HasFinalIntercepted s.enabled s.chains) intercepted
  pub are :
      problems
      ≡ problems_at kinds.InconsistentSpecialization inconsistent
      ++ problems_at kinds.DependentCycle cyclic
      ++ problems_at kinds.FinalIntercepted intercepted

pub record AddsEnabledProblems (d : Deployment) (e : Enablement) (s : Inventory)
    (old new : List Problem) : Type 0 where
  pub added : List Problem
  pub are : AreEnabledProblems d e s added
  pub adds : new ≡ old ++ added

-- all of them, by number and then in the order of the places
pub record AreProblemsIn (d : Deployment) (shape_of : ℕ → Option Shape) (e : Enablement)
    (s : Inventory) (problems : List Problem) : Type 0 where
  pub of_bodies : List Problem
  pub are_of_bodies : AreBodyProblems d shape_of s of_bodies
  pub of_points : List Problem
  pub are_of_points : ArePointProblems d s of_points
  pub of_enabled : List Problem
  pub are_of_enabled : AreEnabledProblems d e s of_enabled
  pub are : problems ≡ of_bodies ++ of_points ++ of_enabled

-- the last tier of problems of a deployment with its bean list and with these registered bodies
pub record AreLateProblems (d : Deployment) (shape_of : ℕ → Option Shape) (problems : List Problem)
    : Type 0 where
  pub list : BeanList
  pub made : IsMadeOf d list
  pub qualifiers : List QualifierType
  pub are_qualifiers : AreQualifiersOf d qualifiers
  pub bindings : List QualifierType
  pub are_bindings : AreTypesOf d.names d.bindings bindings
  pub flags : List Bool
  pub are_flags : AreFlags (enablement_of list) flags
  pub are :
      AreProblemsIn d shape_of (enablement_of list) (setting_of d list flags qualifiers bindings)
      problems
