-- The chains of a bean, and the interceptors of which its plan makes instances.
use Rattle.std.specs.Prelude.{ℕ, ◌≡◌, List, Option, Some, slice_get}
use Rattle.cdi_base.specs.declared.place.InterceptorMethod.{InterceptorMethod}
use Rattle.cdi_base.specs.declared.place.InterceptorMethod.TheVariants as methods
use Rattle.cdi_beans.specs.declared.bean.Bean.{Bean}
use Rattle.cdi_beans.specs.declared.bean.BeanMember.{BeanMember}
use Rattle.cdi_beans.specs.declared.bean.EnabledInterceptor.{EnabledInterceptor}
use Rattle.cdi_plans.specs.Chains.{ChainTables, method_of, invoke_chain, life_chain}
use Rattle.cdi_deployment.specs.declared.deployment.Class.{Class}
use Rattle.cdi_deployment.specs.declared.deployment.Constructor.{Constructor}
use Rattle.cdi_planner.specs.Steps.{steps_of}
use Rattle.cdi_run_tables.specs.Machine.{machine_steps}
use Rattle.cdi_ledger.specs.Whose.{IsIn}
use Rattle.cdi_whole.specs.Fits.{intercepted_by}

-- the interceptor is enabled, and has the method
pub record HasRole (t : ChainTables) (i : ℕ) (role : InterceptorMethod) : Type 0 where
  pub interceptor : EnabledInterceptor
  pub enabled : slice_get t.interceptors i ≡ Some interceptor
  pub body : ℕ
  pub has : method_of role interceptor ≡ Some body

-- in the chain of a member of a bean stand enabled interceptors with an around-invoke method, which the plan makes
abbrev pub InvokesPlanned : Type 0
InvokesPlanned =
    (t : ChainTables) (ids : ℕ → Option ℕ) (constructor : Option Constructor) (b : Bean)
    (line : List Class) (m : BeanMember) (i : ℕ)
    → IsIn m b.members → IsIn i (invoke_chain t b.class m)
    → HasRole t i methods.AroundInvoke
    × IsIn i (intercepted_by (machine_steps ids (steps_of t constructor b line)))

-- those of the lifecycle
abbrev pub IsLifecycle : InterceptorMethod → Type 0
IsLifecycle methods.AroundInvoke = ⊥
IsLifecycle _ = Unit {0}

-- and in those of its lifecycle ones with that method
abbrev pub LivesPlanned : Type 0
LivesPlanned =
    (t : ChainTables) (ids : ℕ → Option ℕ) (constructor : Option Constructor) (b : Bean)
    (line : List Class) (role : InterceptorMethod) (i : ℕ)
    → IsLifecycle role → IsIn i (life_chain t b.class role)
    → HasRole t i role
    × IsIn i (intercepted_by (machine_steps ids (steps_of t constructor b line)))
