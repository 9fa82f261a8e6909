-- Dependent instances that need themselves.
use Rattle.std.specs.Prelude.{ℕ, ◌≡◌, Bool, false, ◌==◌, ◌&&◌, List, Option, Some, None, IsTrue, ◌↔◌, slice_index_or}
use Rattle.std.specs.List.{Any, enumerate_from, list_any}
use Rattle.cdi_beans.specs.declared.bean.Bean.{Bean}
use Rattle.cdi_beans.specs.declared.bean.EnabledInterceptor.{EnabledInterceptor}
use Rattle.cdi_live.specs.Enabled.{Enabled}
use Rattle.cdi_resolve.specs.Filters.{is_bean_of}
use Rattle.cdi_deployment.specs.Member.{member_name}
use Rattle.cdi_problems.specs.Elements.{Element}
use Rattle.cdi_live.specs.Needs.{NeedsInTurn}
use Rattle.cdi_live.specs.OwnPoints.{Inventory, product_name}
use Rattle.cdi_live.specs.declared.cycles.NeedyFlags.{NeedyFlags}
use Rattle.cdi_live.specs.declared.node.Node.TheVariants as nodes

abbrev pub is_name : ℕ → Option ℕ → Bool
is_name name None = false
is_name name (Some n) = n == name

-- the product of a class's producer
abbrev pub is_product_of : ℕ → ℕ → ℕ × Bean → Bool
is_product_of class name b = is_name name (product_name b.1.kind) && (b.1.class == class)

abbrev pub BeanNeedsItself : Inventory → ℕ → Type 0
BeanNeedsItself s i = NeedsInTurn s (nodes.Bean i) (nodes.Bean i)

abbrev pub InterceptorNeedsItself : Inventory → ℕ → Type 0
InterceptorNeedsItself s k = NeedsInTurn s (nodes.Interceptor k) (nodes.Interceptor k)

-- an enabled managed bean of a class needs itself
pub record IsNeedyBean (s : Inventory) (class : ℕ) (b : ℕ × Bean) : Type 0 where
  pub is : IsTrue (is_bean_of class b)
  pub itself : BeanNeedsItself s b.0

-- the enabled product of a class's producer needs itself
pub record IsNeedyProduct (s : Inventory) (class name : ℕ) (b : ℕ × Bean) : Type 0 where
  pub is : IsTrue (is_product_of class name b)
  pub itself : BeanNeedsItself s b.0

pub record IsNeedyInterceptor (s : Inventory) (name : ℕ) (j : ℕ × EnabledInterceptor) : Type 0 where
  pub is : j.1.name ≡ name
  pub itself : InterceptorNeedsItself s j.0

-- P20 DependentCycle: an enabled dependent bean or interceptor lies on a cycle of such alone
abbrev pub HasDependentCycle : Inventory → Element → Type 0
HasDependentCycle s (Element.AClass i c) = Any (IsNeedyBean s c.name) s.enabled.beans
HasDependentCycle s (Element.AMember i c m) =
    Any (IsNeedyProduct s c.name (member_name m)) s.enabled.beans
HasDependentCycle s (Element.AnInterceptor i j) =
    Any (IsNeedyInterceptor s j.name) (enumerate_from 0 s.enabled.interceptors)
HasDependentCycle s _ = ⊥

-- what a list of flags says of an index
abbrev pub flag : List Bool → ℕ → Bool
flag flags i = slice_index_or flags i false

-- flags tell which beans and interceptors need themselves
pub record AreNeedy (s : Inventory) (flags : NeedyFlags) : Type 0 where
  pub beans : (i : ℕ) → IsTrue (flag flags.beans i) ↔ BeanNeedsItself s i
  pub interceptors : (k : ℕ) → IsTrue (flag flags.interceptors k) ↔ InterceptorNeedsItself s k

-- the product of a class's producer has a flag
abbrev pub is_needy_product : NeedyFlags → ℕ → ℕ → ℕ × Bean → Bool
is_needy_product flags class name b = is_product_of class name b && flag flags.beans b.0

abbrev pub has_needy_product : NeedyFlags → List (ℕ × Bean) → ℕ → ℕ → Bool
has_needy_product flags beans class name = list_any (is_needy_product flags class name) beans

-- the same by flags
abbrev pub HasFlaggedCycle : Enabled → NeedyFlags → Element → Type 0
HasFlaggedCycle e flags (Element.AClass i c) =
    IsTrue (list_any (λ b. is_bean_of c.name b && flag flags.beans b.0) e.beans)
HasFlaggedCycle e flags (Element.AMember i c m) =
    IsTrue (has_needy_product flags e.beans c.name (member_name m))
HasFlaggedCycle e flags (Element.AnInterceptor i j) =
    IsTrue (list_any (λ k. (k.1.name == j.name) && flag flags.interceptors k.0)
    (enumerate_from 0 e.interceptors))
HasFlaggedCycle e flags _ = ⊥
