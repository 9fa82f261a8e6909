-- Problems that are added one kind after another.
use Rattle.std.proofs.Common.{ℕ, ◌≡◌, ◌∙◌, List, [], ◌++◌, Option, refl, ap, subst, append_assoc}
use Rattle.cdi_base.specs.declared.place.Place.{Place}
use Rattle.cdi_bodies.specs.declared.shape.Shape.{Shape}
use Rattle.cdi_body_check.specs.CheckedLifecycle.{HasCheckedLifecycle}
use Rattle.cdi_body_check.specs.Findings.{ArePlacesOf as AreSitesOf}
use Rattle.cdi_body_check.specs.ProceedNotAllowed.{HasProceedNotAllowed}
use Rattle.cdi_body_check.specs.Sites.{Site, sites_of}
use Rattle.cdi_body_check.specs.UnknownBody.{HasUnknownBody}
use Rattle.cdi_live.specs.Cycles.{HasDependentCycle}
use Rattle.cdi_live.specs.OwnPoints.{Inventory}
use Rattle.cdi_deployment.specs.declared.deployment.Deployment.{Deployment}
use Rattle.cdi_enable.specs.Enablement.{Enablement}
use Rattle.cdi_live.specs.declared.point_problem.PointProblem.TheVariants as points
use Rattle.cdi_problems.specs.Elements.{Element, elements_of}
use Rattle.cdi_problems.specs.Findings.{ArePlacesOf}
use Rattle.cdi_problems.specs.Words.{problems_at}
use Rattle.cdi_problems.specs.declared.problem.Problem.{Problem}
use Rattle.cdi_problems.specs.declared.problem.ProblemKind.TheVariants as kinds
use Rattle.cdi_check.specs.BeanRules.{HasInconsistentSpecialization, HasFinalIntercepted}
use Rattle.cdi_check.specs.Late.{ArePointPlaces, AreOutsideShape, AddsBodyProblems, AddsPointProblems, AddsEnabledProblems, AreProblemsIn}

pub three : (old p q r first second third : List Problem) → first ≡ old ++ p → second ≡ first ++ q → third ≡ second ++ r
    → third ≡ old ++ (p ++ q ++ r)
three old p q r first second third a b c =
    c ∙ ap (λ ps. ps ++ r) (b ∙ ap (λ ps. ps ++ q) a ∙ append_assoc old p q) ∙ append_assoc old (p ++ q) r

pub four : (old p q r s first second third fourth : List Problem) → first ≡ old ++ p → second ≡ first ++ q → third ≡ second ++ r
    → fourth ≡ third ++ s → fourth ≡ old ++ (p ++ q ++ r ++ s)
four old p q r s first second third fourth a b c d =
    d ∙ ap (λ ps. ps ++ s) (three old p q r first second third a b c) ∙ append_assoc old (p ++ q ++ r) s

pub adds_bodies : (d : Deployment) (shape_of : ℕ → Option Shape) (s : Inventory) (sites : List Site) → sites ≡ sites_of d → (old first second third new : List Problem)
    (unknown outside proceeding checked : List Place)
    → AreSitesOf (HasUnknownBody s.enabled shape_of) sites unknown
    → AreOutsideShape d shape_of s outside
    → AreSitesOf (HasProceedNotAllowed s.enabled shape_of) sites proceeding
    → AreSitesOf (HasCheckedLifecycle d.exceptions s.enabled shape_of) sites checked
    → first ≡ old ++ problems_at kinds.UnknownBody unknown
    → second ≡ first ++ problems_at kinds.BodyOutsideShape outside
    → third ≡ second ++ problems_at kinds.ProceedNotAllowed proceeding
    → new ≡ third ++ problems_at kinds.CheckedLifecycle checked
    → AddsBodyProblems d shape_of s old new
adds_bodies d shape_of s sites all old first second third new unknown outside proceeding checked u o p c a b e f =
    let added : List Problem =
    problems_at kinds.UnknownBody unknown ++ problems_at kinds.BodyOutsideShape outside ++ problems_at kinds.ProceedNotAllowed proceeding
    ++ problems_at kinds.CheckedLifecycle checked in
    record {
      added = added;
      are =
          record {
            unknown = unknown;
            are_unknown = subst (λ ss. AreSitesOf (HasUnknownBody s.enabled shape_of) ss unknown) all u;
            outside = outside;
            are_outside = o;
            proceeding = proceeding;
            are_proceeding = subst (λ ss. AreSitesOf (HasProceedNotAllowed s.enabled shape_of) ss proceeding) all p;
            checked = checked;
            are_checked = subst (λ ss. AreSitesOf (HasCheckedLifecycle d.exceptions s.enabled shape_of) ss checked) all c;
            are = refl;
          };
      adds =
          four old (problems_at kinds.UnknownBody unknown) (problems_at kinds.BodyOutsideShape outside)
          (problems_at kinds.ProceedNotAllowed proceeding) (problems_at kinds.CheckedLifecycle checked) first second third new a b e f;
    }

pub adds_points : (d : Deployment) (s : Inventory) (old first second new : List Problem) (unsatisfied ambiguous unproxyable : List Place)
    → ArePointPlaces points.Unsatisfied d s unsatisfied
    → ArePointPlaces points.Ambiguous d s ambiguous
    → ArePointPlaces points.Unproxyable d s unproxyable
    → first ≡ old ++ problems_at kinds.Unsatisfied unsatisfied
    → second ≡ first ++ problems_at kinds.Ambiguous ambiguous
    → new ≡ second ++ problems_at kinds.Unproxyable unproxyable
    → AddsPointProblems d s old new
adds_points d s old first second new unsatisfied ambiguous unproxyable u v w a b c =
    let added : List Problem =
    problems_at kinds.Unsatisfied unsatisfied ++ problems_at kinds.Ambiguous ambiguous ++ problems_at kinds.Unproxyable unproxyable in
    record {
      added = added;
      are =
          record {
            unsatisfied = unsatisfied;
            are_unsatisfied = u;
            ambiguous = ambiguous;
            are_ambiguous = v;
            unproxyable = unproxyable;
            are_unproxyable = w;
            are = refl;
          };
      adds =
          three old (problems_at kinds.Unsatisfied unsatisfied) (problems_at kinds.Ambiguous ambiguous)
          (problems_at kinds.Unproxyable unproxyable) first second new a b c;
    }

pub adds_enabled : (d : Deployment) (e : Enablement) (s : Inventory) (elements : List Element) → elements ≡ elements_of d
    → (old first second new : List Problem) (inconsistent cyclic intercepted : List Place)
    → ArePlacesOf (HasInconsistentSpecialization e) elements inconsistent
    → ArePlacesOf (HasDependentCycle s) elements cyclic
    → ArePlacesOf (HasFinalIntercepted s.enabled s.chains) elements intercepted
    → first ≡ old ++ problems_at kinds.InconsistentSpecialization inconsistent
    → second ≡ first ++ problems_at kinds.DependentCycle cyclic
    → new ≡ second ++ problems_at kinds.FinalIntercepted intercepted
    → AddsEnabledProblems d e s old new
adds_enabled d e s elements all old first second new inconsistent cyclic intercepted u v w a b c =
    let added : List Problem =
    problems_at kinds.InconsistentSpecialization inconsistent ++ problems_at kinds.DependentCycle cyclic
    ++ problems_at kinds.FinalIntercepted intercepted in
    record {
      added = added;
      are =
          record {
            inconsistent = inconsistent;
            are_inconsistent = subst (λ es. ArePlacesOf (HasInconsistentSpecialization e) es inconsistent) all u;
            cyclic = cyclic;
            are_cyclic = subst (λ es. ArePlacesOf (HasDependentCycle s) es cyclic) all v;
            intercepted = intercepted;
            are_intercepted = subst (λ es. ArePlacesOf (HasFinalIntercepted s.enabled s.chains) es intercepted) all w;
            are = refl;
          };
      adds =
          three old (problems_at kinds.InconsistentSpecialization inconsistent) (problems_at kinds.DependentCycle cyclic)
          (problems_at kinds.FinalIntercepted intercepted) first second new a b c;
    }

pub all_added : (d : Deployment) (shape_of : ℕ → Option Shape) (e : Enablement) (s : Inventory) (old first second new : List Problem)
    → old ≡ []
    → AddsBodyProblems d shape_of s old first
    → AddsPointProblems d s first second
    → AddsEnabledProblems d e s second new
    → AreProblemsIn d shape_of e s new
all_added d shape_of e s old first second new none bodies points enabled =
    record {
      of_bodies = bodies.added;
      are_of_bodies = bodies.are;
      of_points = points.added;
      are_of_points = points.are;
      of_enabled = enabled.added;
      are_of_enabled = enabled.are;
      are =
          three [] bodies.added points.added enabled.added first second new (bodies.adds ∙ ap (λ ps. ps ++ bodies.added) none) points.adds
          enabled.adds;
    }
