-- Whose each live instance is.
use Rattle.std.specs.Prelude.{ℕ, ◌≡◌, ◌<◌, ◌⊎◌, List, [], ◌∷◌, Option, Some, None}
use Rattle.cdi_base.specs.Maps.{at}
use Rattle.cdi_store.specs.declared.instance.Component.{Component}
use Rattle.cdi_store.specs.declared.instance.Component.TheVariants as components
use Rattle.cdi_store.specs.declared.instance.Context.{Context}
use Rattle.cdi_store.specs.declared.instance.Instance.{Instance}
use Rattle.cdi_store.specs.declared.instance.Owner.{Owner}
use Rattle.cdi_store.specs.declared.instance.Owner.TheVariants as owners
use Rattle.cdi_store.specs.declared.instance.Phase.TheVariants as phases
use Rattle.cdi_store.specs.declared.references.Reference.TheVariants.{Direct}
use Rattle.cdi_store.specs.Live.{Instances}
use Rattle.cdi_contexts.specs.declared.context.Held.TheVariants.{Is}
use Rattle.cdi_contexts.specs.Contexts.{Active, context_at}
use Rattle.cdi_machine.specs.Words.{Name}
use Rattle.cdi_machine.specs.World.{World, instance_at}

abbrev pub IsIn : {X : Type 0} → X → List X → Type 0
IsIn x [] = ⊥
IsIn x (y ∷ ys) = (y ≡ x) ⊎ IsIn x ys

-- the context has it for its bean
abbrev pub IsHeld : Option Active → Component → ℕ → Type 0
IsHeld None component n = ⊥
IsHeld (Some a) (components.Bean b) n = at a.holds b ≡ Some (Is n)
IsHeld (Some a) (components.Interceptor i) n = ⊥

-- the instance m lives and has it among its dependents
abbrev pub DependsOn : Instances → ℕ → ℕ → Type 0
DependsOn instances m n = (o : Instance) × (at instances m ≡ Some o) × IsIn n o.dependents

-- it stands where its owner says
abbrev pub StandsAtHome : World → ℕ → Component → Owner → Type 0
StandsAtHome w n component (owners.Context c) = IsHeld (context_at w.contexts c) component n
StandsAtHome w n component (owners.Instance m) = (m < n) × DependsOn w.instances m n
StandsAtHome w n component owners.Borrower = ⊥

-- Nothing is being made or destroyed. Each live instance stands where its owner says, and nothing stands anywhere else:
-- what a context has is an instance of the bean that is the context's, and a dependent is its owner's.
pub record IsTidy (w : World) : Type 0 where
  pub ready : (n : ℕ) (o : Instance) → instance_at w n ≡ Some o → o.phase ≡ phases.Ready
  pub home : (n : ℕ) (o : Instance) → instance_at w n ≡ Some o
      → StandsAtHome w n o.component o.owner
  pub held : (c : Context) (a : Active) (b n : ℕ) → context_at w.contexts c ≡ Some a
      → at a.holds b ≡ Some (Is n)
      → (o : Instance) × (instance_at w n ≡ Some o) × (o.component ≡ components.Bean b)
      × (o.owner ≡ owners.Context c)
  pub depends : (m n : ℕ) → DependsOn w.instances m n
      → (o : Instance) × (instance_at w n ≡ Some o) × (o.owner ≡ owners.Instance m)

-- an injected field that refers to a live instance refers to a dependent of its own
abbrev pub RefersToItsOwn : World → Type 0
RefersToItsOwn w =
    (n m : ℕ) (o p : Instance) (field : Name) → instance_at w n ≡ Some o
    → at o.references field ≡ Some (Direct m)
    → instance_at w m ≡ Some p
    → p.owner ≡ owners.Instance n
