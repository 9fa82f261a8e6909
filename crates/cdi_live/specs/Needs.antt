-- Which instances are needed for which (Jakarta CDI 4.0, Dependent pseudo-scope): a dependent one needs others of its own.
use Rattle.std.specs.Prelude.{ℕ, ◌≡◌, ◌&&◌, Bool, false, List, ◌++◌, map, Option, Some, None, Contains, if◌then◌else◌}
use Rattle.std.specs.List.{filter_map}
use Rattle.cdi_base.specs.Maps.{at}
use Rattle.cdi_bean_check.specs.ManagedBeans.{is_dependent}
use Rattle.cdi_beans.specs.declared.bean.Bean.{Bean}
use Rattle.cdi_beans.specs.declared.bean.BeanKind.TheVariants as kinds
use Rattle.cdi_plans.specs.Chains.{interceptors_of}
use Rattle.cdi_deployment.specs.declared.deployment.Point.{Point}
use Rattle.cdi_live.specs.Enabled.{Enabled}
use Rattle.cdi_resolve.specs.Filters.{is_bean_of}
use Rattle.cdi_live.specs.PointProblems.{resolved}
use Rattle.cdi_resolve.specs.declared.resolution.Resolution.{Resolution}
use Rattle.cdi_resolve.specs.declared.resolution.Resolution.TheVariants.{Nothing, One, Many}
use Rattle.cdi_live.specs.OwnPoints.{Inventory, AreManagedPoints, product_points, product_name, interceptor_points}
use Rattle.cdi_live.specs.declared.node.Node.{Node}
use Rattle.cdi_live.specs.declared.node.Node.TheVariants as nodes

abbrev pub is_dependent_bean : Option Bean → Bool
is_dependent_bean None = false
is_dependent_bean (Some b) = is_dependent b.scope

abbrev pub dependent_bean : Enabled → Resolution → Option Node
dependent_bean e Nothing = None
dependent_bean e (One bean) =
    if is_dependent_bean (at e.beans bean) then Some (nodes.Bean bean) else None
dependent_bean e Many = None

-- what a point needs an instance of: a dependent bean that it resolves to
abbrev pub needed_at : Inventory → Point → Option Node
needed_at s p = dependent_bean s.enabled (resolved s.qualifiers s.enabled p)

-- to a list is added what the points of a managed bean need
pub record AddsManaged (s : Inventory) (b : Bean) (old new : List Node) : Type 0 where
  pub points : List Point
  pub are : AreManagedPoints s b points
  pub adds : new ≡ old ++ filter_map (needed_at s) points

-- a dependent managed bean of a class
abbrev pub declaring_bean : ℕ → ℕ × Bean → Option Node
declaring_bean class b =
    if is_bean_of class b && is_dependent b.1.scope then Some (nodes.Bean b.0) else None

-- What an instance of a bean or of an interceptor needs: dependent beans at its points; a managed bean also its interceptors, and a
-- product the bean that declares it.
pub data NeedsThose (s : Inventory) : Node → List Node → Type 0 where
  managed : {i : ℕ} {b : Bean} {points : List Point} → at s.enabled.beans i ≡ Some b
      → b.kind ≡ kinds.Managed → AreManagedPoints s b points
      → NeedsThose s (nodes.Bean i)
      (filter_map (needed_at s) points
      ++ map (λ k. nodes.Interceptor k) (interceptors_of s.chains b))
  product : {i name : ℕ} {b : Bean} → at s.enabled.beans i ≡ Some b
      → product_name b.kind ≡ Some name
      → NeedsThose s (nodes.Bean i)
      (filter_map (needed_at s) (product_points s b name)
      ++ filter_map (declaring_bean b.class) s.enabled.beans)
  interceptor : {k : ℕ}
      → NeedsThose s (nodes.Interceptor k) (filter_map (needed_at s) (interceptor_points s k))

pub record Needs (s : Inventory) (x y : Node) : Type 0 where
  pub those : List Node
  pub needs : NeedsThose s x those
  pub listed : Contains those y

-- directly, or through others
pub data NeedsInTurn (s : Inventory) : Node → Node → Type 0 where
  directly : {x y : Node} → Needs s x y → NeedsInTurn s x y
  further : {x y z : Node} → Needs s x y → NeedsInTurn s y z → NeedsInTurn s x z
