-- Contextual instances and references (Jakarta CDI 4.0, *Contextual instance of a bean* and *Contextual reference for a bean*).
use Rattle.std.specs.Prelude.{ℕ, List, [], ◌∷◌, Bool, true, false, Option, Some, None}
use Rattle.cdi_base.specs.declared.scope.Scope.{Scope}
use Rattle.cdi_base.specs.declared.scope.Scope.TheVariants as scopes
use Rattle.cdi_base.specs.declared.built_in.BuiltIn.TheVariants as built_in
use Rattle.cdi_base.specs.Maps.{at}
use Rattle.cdi_contexts.specs.declared.context.Status.TheVariants.{Ending, Open}
use Rattle.cdi_contexts.specs.declared.context.Held.{Held}
use Rattle.cdi_contexts.specs.declared.context.Held.TheVariants.{Is, Making}
use Rattle.cdi_store.specs.declared.instance.Phase.TheVariants as phases
use Rattle.cdi_store.specs.declared.instance.Owner.{Owner}
use Rattle.cdi_store.specs.declared.instance.Owner.TheVariants as owners
use Rattle.cdi_store.specs.declared.references.Reference.{Reference}
use Rattle.cdi_store.specs.declared.references.Reference.TheVariants.{Direct, Proxy}
use Rattle.cdi_store.specs.declared.references.Reference.TheVariants.{Empty as NoReference}
use Rattle.cdi_store.specs.declared.instance.Instance.{Instance}
use Rattle.cdi_machine.specs.Words.{Asked}
use Rattle.cdi_machine.specs.World.{instance_at}
use Rattle.cdi_machine.specs.Programs.{ActiveContext, Given, Number, Create, Prog, ret, see, call, raise, require, bean_at, context, resolve, require_number, ◌>>=◌, ◌>>◌}
use Rattle.cdi_machine.specs.Programs.Task.{Obtain}

-- The instance that is there. One that is being made can't be had, and none is made in a context that is ending.
abbrev pub find_or_create : ℕ → ActiveContext → Option Held → Prog Given
find_or_create b c (Some (Is n)) = ret (Number n)
find_or_create b c (Some Making) = raise built_in.CreationException
find_or_create b c None =
    elim c.has.status [
      | Open ↦ call (Create b (owners.Context c.context))
      | Ending ↦ raise built_in.ContextNotActiveException
    ]

-- the contextual instance of a bean (Jakarta CDI 4.0, *The active context object for a scope*)
abbrev pub obtain : ℕ → Prog Given
obtain b = do
  bean ← bean_at b
  c ← context bean.scope
  find_or_create b c (at c.has.holds b)

abbrev pub is_normal : Scope → Bool
is_normal scopes.Dependent = false
is_normal _ = true

abbrev pub direct_reference : Given → Reference
direct_reference (Number n) = Direct n
direct_reference _ = NoReference

-- A normal scope gives a proxy and creates nothing (Jakarta CDI 4.0, *Client proxies*). A dependent bean gives a new
-- instance, which belongs to the owner (Jakarta CDI 4.0, *Dependent objects*).
abbrev pub refer_to : ℕ → Owner → Prog Reference
refer_to b owner = do
  bean ← bean_at b
  elim (is_normal bean.scope) [
    | true ↦ ret (Proxy b)
    | false ↦ do
      made ← call (Create b owner)
      ret (direct_reference made)
  ]

-- the reference of an injection point
abbrev pub resolve_point : Asked → Owner → Prog Reference
resolve_point point owner = do
  b ← resolve point
  refer_to b owner

abbrev pub resolve_points : List Asked → Owner → Prog (List Reference)
resolve_points [] owner = ret []
resolve_points (point ∷ points) owner = do
  r ← resolve_point point owner
  rs ← resolve_points points owner
  ret (r ∷ rs)

-- its destruction hasn't begun
abbrev pub stays : Option Instance → Bool
stays None = false
stays (Some o) = elim o.phase [ phases.New ↦ true | phases.Ready ↦ true | phases.Leaving ↦ false ]

abbrev pub require_living : ℕ → Prog ℕ
require_living n =
    see λ t w. require (stays (instance_at w n)) built_in.IllegalStateException >> ret n

-- the instance, at each use of a reference
abbrev pub reach_instance : Reference → Prog ℕ
reach_instance NoReference = raise built_in.NullPointerException
reach_instance (Direct n) = require_living n
reach_instance (Proxy b) = do
  there ← call (Obtain b)
  require_number there
