-- The destroy act of a body (Jakarta CDI 4.0, *Programmatic lookup*: Instance.destroy).
use Rattle.std.specs.Prelude.{ℕ, zero, suc, List, [], ◌∷◌, Bool, true, false, not, ◌||◌, Option, Some, None, nat_eq}
use Rattle.cdi_base.specs.declared.built_in.BuiltIn.TheVariants as built_in
use Rattle.cdi_base.specs.Maps.{at}
use Rattle.cdi_contexts.specs.declared.context.Held.{Held}
use Rattle.cdi_contexts.specs.declared.context.Held.TheVariants.{Is, Making}
use Rattle.cdi_store.specs.declared.instance.Owner.TheVariants as owners
use Rattle.cdi_store.specs.declared.instance.Phase.TheVariants as phases
use Rattle.cdi_store.specs.declared.references.Reference.{Reference}
use Rattle.cdi_store.specs.declared.references.Reference.TheVariants.{Direct, Proxy}
use Rattle.cdi_store.specs.declared.references.Reference.TheVariants.{Empty as NoReference}
use Rattle.cdi_store.specs.declared.instance.Instance.{Instance}
use Rattle.cdi_machine.specs.World.{World, Invocation, instance_at}
use Rattle.cdi_machine.specs.Programs.{Task, Given, Prog, see, call, finish, raise, require, bean_at, context, ◌>>=◌, ◌>>◌}
use Rattle.cdi_machine.specs.Contexts.{stays}

abbrev pub dependent_of : Option Instance → Option ℕ
dependent_of None = None
dependent_of (Some o) =
    elim o.owner [
      | owners.Context c ↦ None
      | owners.Instance m ↦ elim (stays (Some o)) [ true ↦ Some m | false ↦ None ]
      | owners.Borrower ↦ None
    ]

-- The one is the other, or owned by it, directly or through others. Owners have smaller numbers, so the number bounds the
-- steps.
abbrev pub belongs : ℕ → World → ℕ → ℕ → Bool
belongs zero w m n = nat_eq m n
belongs (suc k) w m n =
    nat_eq m n || elim (dependent_of (instance_at w m)) [ None ↦ false | Some o ↦ belongs k w o n ]

abbrev pub any_belongs : World → List ℕ → ℕ → Bool
any_belongs w [] n = false
any_belongs w (m ∷ ms) n = belongs m w m n || any_belongs w ms n

abbrev pub any_target : World → List Invocation → ℕ → Bool
any_target w [] n = false
any_target w (v ∷ vs) n = belongs v.target w v.target n || any_target w vs n

-- neither it nor what it owns, and whose destruction hasn't begun, is the target of an invocation or has a running body
abbrev pub is_idle : World → ℕ → Bool
is_idle w n = not (any_target w w.invocations n || any_belongs w w.bodies n)

abbrev pub destroy_idle : ℕ → Prog Given
destroy_idle n = see λ t w. do
  require (is_idle w n) built_in.IllegalStateException
  call (Task.Destroy n)

-- the instance is made, and its destruction hasn't begun
abbrev pub is_made : Option Instance → Bool
is_made None = false
is_made (Some o) =
    elim o.phase [ phases.New ↦ false | phases.Ready ↦ true | phases.Leaving ↦ false ]

abbrev pub require_made : ℕ → Prog (Unit {0})
require_made n = see λ t w. require (is_made (instance_at w n)) built_in.IllegalStateException

abbrev pub destroy_held : Option Held → Prog Given
destroy_held None = finish
destroy_held (Some Making) = raise built_in.IllegalStateException
destroy_held (Some (Is n)) = destroy_idle n

abbrev pub destroy_by : Reference → Prog Given
destroy_by NoReference = raise built_in.NullPointerException
destroy_by (Direct n) = do
  require_made n
  destroy_idle n
destroy_by (Proxy b) = do
  bean ← bean_at b
  c ← context bean.scope
  destroy_held (at c.has.holds b)
