-- What the locals and the parameters of a running body refer to.
use Rattle.std.specs.Prelude.{ℕ, ◌≡◌, List, Some, None, slice_get}
use Rattle.cdi_base.specs.Maps.{at}
use Rattle.cdi_store.specs.declared.instance.Instance.{Instance}
use Rattle.cdi_store.specs.declared.instance.Owner.{Owner}
use Rattle.cdi_store.specs.declared.instance.Owner.TheVariants as owners
use Rattle.cdi_store.specs.declared.instance.Phase.TheVariants as phases
use Rattle.cdi_store.specs.declared.references.Reference.TheVariants.{Direct}
use Rattle.cdi_machine.specs.Tables.{Tables}
use Rattle.cdi_machine.specs.World.{World, instance_at, at_begin}
use Rattle.cdi_machine.specs.Commands.{Command, task}
use Rattle.cdi_machine.specs.Programs.{Running, Task, Given, Prog}
use Rattle.cdi_machine.specs.Runs.{Legal, Outcome, Runs}
use Rattle.cdi_machine.specs.Container.{State, refusal}
use Rattle.cdi_ledger.specs.Ledger.{Item}
use Rattle.cdi_ledger.specs.Stories.{Story}

abbrev pub OfBody : (Running → World → Type 0) → Task → World → Type 0
OfBody P (Task.Acts b) w = P b w
OfBody P _ w = Unit {0}

-- it holds of each body of the run, in the world in which it gives its next act
abbrev pub AtBodies : (Running → World → Type 0) → {tables : Tables} {legal : Legal} {Starved : Type 0}
    {p : Prog Given} {w v : World} {o : Outcome}
    → Runs tables legal Starved p w o v → Type 0
AtBodies P Runs.returns = Unit {0}
AtBodies P Runs.throws = Unit {0}
AtBodies P Runs.cuts = Unit {0}
AtBodies P (Runs.misses r) = AtBodies P r
AtBodies P (Runs.sees r) = AtBodies P r
AtBodies P (Runs.changes r) = AtBodies P r
AtBodies P (Runs.writes l r) = AtBodies P r
AtBodies P (Runs.is_full l) = Unit {0}
AtBodies P (Runs.marks r) = AtBodies P r
AtBodies P (Runs.does a l r) = AtBodies P r
AtBodies P (Runs.picks i l c r) = AtBodies P r
AtBodies P (Runs.calls {t = t} {w = w} r1 r) = OfBody P t w × (AtBodies P r1 × AtBodies P r)
AtBodies P (Runs.starves s) = Unit {0}

-- a local that refers to a live instance itself refers to a dependent of the body's instance
abbrev pub LooksUpItsOwn : Running → World → Type 0
LooksUpItsOwn b w =
    (k m : ℕ) (p : Instance) → at b.locals k ≡ Some (Direct m) → instance_at w m ≡ Some p
    → p.owner ≡ owners.Instance b.instance

abbrev pub LocalsAreOwn : Tables → Legal → Type 0
LocalsAreOwn tables legal =
    (s : State) (h : List Item) (c : Command) (o : Outcome) (v : World) → Story tables legal s h
    → refusal tables s c ≡ None
    → (r : Runs tables legal ⊥ (task c) (at_begin s.world) o v)
    → AtBodies LooksUpItsOwn r

-- whose a dependent instance is that a body has for a parameter: the body's own instance's (of a constructor or an initializer),
-- that of a product that is being made (of a producer), or it is there for the time of an invocation (of a disposer or an
-- observer)
pub data IsReceivers (b : Running) (w : World) : Owner → Type 0 where
  own : IsReceivers b w (owners.Instance b.instance)
  product : {n : ℕ} {o : Instance} → instance_at w n ≡ Some o → o.phase ≡ phases.New
      → IsReceivers b w (owners.Instance n)
  temporary : IsReceivers b w owners.Borrower

abbrev pub ReceivesItsOwn : Running → World → Type 0
ReceivesItsOwn b w =
    (k m : ℕ) (p : Instance) → slice_get b.references k ≡ Some (Direct m)
    → instance_at w m ≡ Some p
    → IsReceivers b w p.owner

abbrev pub ParametersAreOwn : Tables → Legal → Type 0
ParametersAreOwn tables legal =
    (s : State) (h : List Item) (c : Command) (o : Outcome) (v : World) → Story tables legal s h
    → refusal tables s c ≡ None
    → (r : Runs tables legal ⊥ (task c) (at_begin s.world) o v)
    → AtBodies ReceivesItsOwn r
