-- The problems of injection points (Jakarta CDI 4.0, Unsatisfied and ambiguous dependencies, Unproxyable bean types).
use Rattle.std.specs.Prelude.{ℕ, ◌≡◌, Bool, false, not, List, Option, Some, None, IsTrue}
use Rattle.cdi_base.specs.Maps.{at}
use Rattle.cdi_bean_check.specs.ManagedBeans.{is_dependent}
use Rattle.cdi_bean_check.specs.Qualifiers.{full_uses}
use Rattle.cdi_beans.specs.declared.bean.Bean.{Bean}
use Rattle.cdi_deployment.specs.declared.deployment.Class.{Class}
use Rattle.cdi_deployment.specs.declared.deployment.Point.{Point}
use Rattle.cdi_live.specs.Enabled.{Enabled}
use Rattle.cdi_types.specs.Line.{class_named}
use Rattle.cdi_problems.specs.Elements.{Element}
use Rattle.cdi_quals.specs.declared.types.QualifierType.{QualifierType}
use Rattle.cdi_resolve.specs.Resolution.{resolution}
use Rattle.cdi_resolve.specs.declared.resolution.Resolution.{Resolution}
use Rattle.cdi_resolve.specs.declared.resolution.Resolution.TheVariants.{Nothing, One, Many}
use Rattle.cdi_live.specs.Points.{HasLivePoint}
use Rattle.cdi_live.specs.declared.point_problem.PointProblem.{PointProblem}
use Rattle.cdi_live.specs.declared.point_problem.PointProblem.TheVariants as problems

-- what a point resolves to
abbrev pub resolved : List QualifierType → Enabled → Point → Resolution
resolved qualifiers e p = resolution p.ty (full_uses qualifiers p.quals) e.beans

abbrev pub is_final : Option Class → Bool
is_final None = false
is_final (Some c) = c.is_final

-- a bean that a client proxy stands for
abbrev pub is_normal : Option Bean → Bool
is_normal None = false
is_normal (Some b) = not (is_dependent b.scope)

-- a point of a final class resolves to a bean of a normal scope
pub record AsksForProxy (qualifiers : List QualifierType) (e : Enabled) (p : Point) : Type 0 where
  pub final : IsTrue (is_final (class_named e.classes p.ty))
  pub bean : ℕ
  pub one : resolved qualifiers e p ≡ One bean
  pub normal : IsTrue (is_normal (at e.beans bean))

-- a point has a problem
abbrev pub HasProblem : PointProblem → List QualifierType → Enabled → Point → Type 0
HasProblem problems.Unsatisfied qualifiers e p = resolved qualifiers e p ≡ Nothing
HasProblem problems.Ambiguous qualifiers e p = resolved qualifiers e p ≡ Many
HasProblem problems.Unproxyable qualifiers e p = AsksForProxy qualifiers e p

-- P16 Unsatisfied, P17 Ambiguous, P18 Unproxyable: a live point resolves to nothing, or to many beans; or it asks for a proxy of a
-- final class
abbrev pub HasPointProblem : PointProblem → List QualifierType → Enabled → Element → Type 0
HasPointProblem problem qualifiers e x = HasLivePoint e (HasProblem problem qualifiers e) x
