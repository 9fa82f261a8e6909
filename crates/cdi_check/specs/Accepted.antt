-- What holds of an accepted deployment, on which its container relies.
use Rattle.std.specs.Prelude.{ℕ, ◌≡◌, Bool, List, Option, IsTrue, IsSome}
use Rattle.std.specs.List.{All}
use Rattle.cdi_beans.specs.Problems.{IsMadeOf}
use Rattle.cdi_beans.specs.declared.bean.BeanList.{BeanList}
use Rattle.cdi_bodies.specs.declared.shape.Shape.{Shape}
use Rattle.cdi_body_check.specs.CheckedLifecycle.{HasCheckedLifecycle}
use Rattle.cdi_body_check.specs.ProceedNotAllowed.{HasProceedNotAllowed}
use Rattle.cdi_body_check.specs.Sites.{Site, sites_of, is_live, body_of}
use Rattle.cdi_live.specs.Cycles.{HasDependentCycle}
use Rattle.cdi_live.specs.OwnPoints.{Inventory}
use Rattle.cdi_deployment.specs.declared.deployment.Deployment.{Deployment}
use Rattle.cdi_deployment.specs.declared.deployment.Point.{Point}
use Rattle.cdi_enable.specs.Enablement.{Enablement, enablement_of, AreFlags}
use Rattle.cdi_live.specs.Enabled.{Enabled}
use Rattle.cdi_live.specs.PointProblems.{resolved, HasPointProblem}
use Rattle.cdi_live.specs.Points.{points_of, IsLive}
use Rattle.cdi_live.specs.declared.point_problem.PointProblem.TheVariants as points
use Rattle.cdi_problems.specs.Elements.{Element, elements_of}
use Rattle.cdi_quals.specs.Types.{AreQualifiersOf, AreTypesOf}
use Rattle.cdi_quals.specs.declared.types.QualifierType.{QualifierType}
use Rattle.cdi_resolve.specs.declared.resolution.Resolution.TheVariants.{One}
use Rattle.cdi_shape_check.specs.BodyOutsideShape.{HasBodyOutsideShape}
use Rattle.cdi_check.specs.BeanRules.{HasInconsistentSpecialization, HasFinalIntercepted}
use Rattle.cdi_check.specs.Late.{setting_of, application_in}

-- P holds of none of them
abbrev pub HoldsOfNone : {X : Type 0} → (X → Type 0) → List X → Type 0
HoldsOfNone P items = All (λ x. P x → ⊥) items

-- a point resolves to one bean
abbrev pub IsResolved : List QualifierType → Enabled → Point → Type 0
IsResolved qualifiers e p = (bean : ℕ) × (resolved qualifiers e p ≡ One bean)

-- each point of an element resolves to one bean, if the element is live
abbrev pub AreResolved : List QualifierType → Enabled → Element → Type 0
AreResolved qualifiers e x = IsLive e x → All (IsResolved qualifiers e) (points_of x)

-- what has a body has a registered one, if it is live
abbrev pub IsRegistered : Enabled → (ℕ → Option Shape) → Site → Type 0
IsRegistered e shape_of s = IsTrue (is_live e s) → IsSome (shape_of (body_of s))

-- What is live has its bodies. They name nothing in their shapes that isn't there, go on with a chain in methods of interceptors alone,
-- and throw no checked exception in a callback.
pub record AreBodiesSound (d : Deployment) (shape_of : ℕ → Option Shape) (s : Inventory)
    : Type 0 where
  pub registered : All (IsRegistered s.enabled shape_of) (sites_of d)
  pub in_shape :
      HoldsOfNone (HasBodyOutsideShape (application_in d s) s.enabled shape_of) (sites_of d)
  pub none_proceeds : HoldsOfNone (HasProceedNotAllowed s.enabled shape_of) (sites_of d)
  pub none_checked : HoldsOfNone (HasCheckedLifecycle d.exceptions s.enabled shape_of) (sites_of d)

-- Each live point resolves to one bean, for which there can be a proxy if it needs one.
pub record ArePointsSound (d : Deployment) (s : Inventory) : Type 0 where
  pub resolved : All (AreResolved s.qualifiers s.enabled) (elements_of d)
  pub proxyable :
      HoldsOfNone (HasPointProblem points.Unproxyable s.qualifiers s.enabled) (elements_of d)

-- No two enabled beans specialize one, no dependent bean needs itself, and no bean of a final class is intercepted.
pub record AreBeansSound (d : Deployment) (e : Enablement) (s : Inventory) : Type 0 where
  pub consistent : HoldsOfNone (HasInconsistentSpecialization e) (elements_of d)
  pub acyclic : HoldsOfNone (HasDependentCycle s) (elements_of d)
  pub interceptable : HoldsOfNone (HasFinalIntercepted s.enabled s.chains) (elements_of d)

-- a deployment that is accepted with its registered bodies
pub record IsAccepted (d : Deployment) (shape_of : ℕ → Option Shape) : Type 0 where
  pub list : BeanList
  pub made : IsMadeOf d list
  pub qualifiers : List QualifierType
  pub are_qualifiers : AreQualifiersOf d qualifiers
  pub bindings : List QualifierType
  pub are_bindings : AreTypesOf d.names d.bindings bindings
  pub flags : List Bool
  pub are_flags : AreFlags (enablement_of list) flags
  pub bodies : AreBodiesSound d shape_of (setting_of d list flags qualifiers bindings)
  pub points : ArePointsSound d (setting_of d list flags qualifiers bindings)
  pub beans : AreBeansSound d (enablement_of list) (setting_of d list flags qualifiers bindings)
