-- What the steps of products are told by, and how disposers are called, one after the other (Jakarta CDI 4.0, *Disposer methods*).
use Rattle.std.specs.Prelude.{ℕ, ◌≡◌, ◌+◌, [], ◌∷◌, Bool, true, false, Option, Some, None, option_map, slice_get}
use Rattle.std.specs.Global.{Box}
use Rattle.cdi_base.specs.declared.value.Value.{Value}
use Rattle.cdi_base.specs.declared.value.Value.TheVariants as values
use Rattle.cdi_store.specs.declared.instance.Component.{Component}
use Rattle.cdi_store.specs.declared.instance.Component.TheVariants as components
use Rattle.cdi_machine.specs.Tables.{Tables, Member, Product}
use Rattle.cdi_machine.specs.World.{World}
use Rattle.cdi_steps.specs.ContainerCalls.{dispose_of, product_at}
use Rattle.cdi_steps.specs.Meanings.{dispose_quietly}
use Rattle.cdi_steps.specs.Ranks.{disposal_rank}
use Rattle.cdi_steps.specs.Steps.{Steps}
use Rattle.cdi_steps.specs.declared.task.Callee.TheVariants as callees
use Rattle.cdi_steps.specs.declared.task.ContainerCall.{ContainerCall}
use Rattle.cdi_steps.specs.declared.task.Disposal.{Disposal}
use Rattle.cdi_steps.specs.declared.task.Frame.TheVariants as frames
use Rattle.cdi_steps.specs.declared.task.Next.{Next}
use Rattle.cdi_steps.specs.declared.task.Next.TheVariants as nexts
use Rattle.cdi_steps.specs.declared.task.Task.TheVariants as tasks

abbrev pub is_null : Value → Bool
is_null values.Null = true
is_null v = false

-- the bean of a component, if that is a product
abbrev pub product_bean : Tables → Component → Option ℕ
product_bean t (components.Bean b) = option_map (λ (p : Product). b) (product_at t b)
product_bean t (components.Interceptor i) = None

-- the bean that declares the disposer at a place, if there is one
abbrev pub declaring_at : Option Product → ℕ → Option ℕ
declaring_at None at = None
declaring_at (Some p) at = option_map (λ (m : Member). p.declaring) (slice_get p.disposers at)

-- the disposer that is next is called, and the others wait behind it
pub record CallsDisposer (d : Disposal) (declaring : ℕ) (next : Next) : Type 0 where
  pub called : Box ContainerCall
  pub others : Box Disposal
  pub called_is : called.value
      ≡ record {
        declaring = declaring;
        callee = callees.Disposer d.bean d.next;
        args = d.value ∷ [];
      }
  pub others_is : others.value ≡ record d { next = d.next + 1 }
  pub next_is : next ≡ nexts.Needs (tasks.Calling called) (frames.Disposing others)

-- the disposers that are left dispose of the product, and then its dependents are destroyed, in any world
pub record Disposes (t : Tables) (d : Disposal) (next : Next) : Type 0 where
  pub steps : (w : World)
      → Steps t (dispose_quietly d.number (dispose_of t d)) (disposal_rank d) w next w
