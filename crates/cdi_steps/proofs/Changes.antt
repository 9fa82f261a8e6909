-- What changes of the world leave alone: the invocations under way, and the bodies that these are about.
use Rattle.std.proofs.Common.{◌≡◌, List, [], ◌∷◌, ℕ, refl, sym, subst, true, Option, Some, None}
use Rattle.std.specs.List.{AllByRecursion}
use Rattle.cdi_store.specs.declared.instance.Component.{Component}
use Rattle.cdi_store.specs.declared.instance.Owner.{Owner}
use Rattle.cdi_store.specs.declared.instance.Owner.TheVariants as owners
use Rattle.cdi_store.specs.declared.instance.Instance.{Instance}
use Rattle.cdi_store.specs.declared.references.Reference.{Reference}
use Rattle.cdi_machine.specs.Words.{Name}
use Rattle.cdi_machine.specs.Tables.{Tables}
use Rattle.cdi_machine.specs.World.{World, Change, Invocation, after_change, instance_at, below, on_top, for_instance, with_owned, without_owned, without_making, with_instances}
use Rattle.cdi_store.specs.Live.{with_leaving, with_ready}
use Rattle.cdi_base.specs.declared.value.Value.{Value}
use Rattle.cdi_base.specs.Maps.{without, put}
use Rattle.cdi_steps.specs.Known.{AllInvoked, HasKnownBodies}

-- an instance may leave and a target be invoked in either order
pub leave_enter : (n : ℕ) (i : Invocation) (w : World)
    → after_change (Change.Enter i) (after_change (Change.Leave n) w) ≡ after_change (Change.Leave n) (after_change (Change.Enter i) w)
leave_enter n i w = by (instance_at w n)
  where
    by_owner : (component : Component) (owner : Owner)
        → after_change (Change.Enter i) (without_owned n component owner (with_instances (with_leaving n) w))
        ≡ without_owned n component owner (with_instances (with_leaving n) (after_change (Change.Enter i) w))
    by_owner component (owners.Context c) = refl
    by_owner component (owners.Instance m) = refl
    by_owner component owners.Borrower = refl

    by : (x : Option Instance)
        → after_change (Change.Enter i) (for_instance w x λ o. without_owned n o.component o.owner (with_instances (with_leaving n) w))
        ≡ for_instance (after_change (Change.Enter i) w) x λ o. without_owned n o.component o.owner (with_instances (with_leaving n) (after_change (Change.Enter i) w))
    by None = refl
    by (Some o) = by_owner o.component o.owner

-- ---- the invocations stay

pub make_invocations : (component : Component) (owner : Owner) (fields : _) (w : World) → (after_change (Change.Make component owner fields) w).invocations ≡ w.invocations
make_invocations component (owners.Context c) fields w = refl
make_invocations component (owners.Instance m) fields w = refl
make_invocations component owners.Borrower fields w = refl

pub settle_invocations : (n : ℕ) (w : World) → (after_change (Change.Settle n) w).invocations ≡ w.invocations
settle_invocations n w = by (instance_at w n)
  where
    by_owner : (component : Component) (owner : Owner) → (with_owned n component owner (with_instances (with_ready n) w)).invocations ≡ w.invocations
    by_owner component (owners.Context c) = refl
    by_owner component (owners.Instance m) = refl
    by_owner component owners.Borrower = refl

    by : (x : Option Instance) → (for_instance w x λ o. with_owned n o.component o.owner (with_instances (with_ready n) w)).invocations ≡ w.invocations
    by None = refl
    by (Some o) = by_owner o.component o.owner

pub discard_invocations : (n : ℕ) (w : World) → (after_change (Change.Discard n) w).invocations ≡ w.invocations
discard_invocations n w = by (instance_at w n)
  where
    by_owner : (component : Component) (owner : Owner) → (without_making component owner (with_instances (without n) w)).invocations ≡ w.invocations
    by_owner component (owners.Context c) = refl
    by_owner component (owners.Instance m) = refl
    by_owner component owners.Borrower = refl

    by : (x : Option Instance) → (for_instance w x λ o. without_making o.component o.owner (with_instances (without n) w)).invocations ≡ w.invocations
    by None = refl
    by (Some o) = by_owner o.component o.owner

pub leave_invocations : (n : ℕ) (w : World) → (after_change (Change.Leave n) w).invocations ≡ w.invocations
leave_invocations n w = by (instance_at w n)
  where
    by_owner : (component : Component) (owner : Owner) → (without_owned n component owner (with_instances (with_leaving n) w)).invocations ≡ w.invocations
    by_owner component (owners.Context c) = refl
    by_owner component (owners.Instance m) = refl
    by_owner component owners.Borrower = refl

    by : (x : Option Instance) → (for_instance w x λ o. without_owned n o.component o.owner (with_instances (with_leaving n) w)).invocations ≡ w.invocations
    by None = refl
    by (Some o) = by_owner o.component o.owner

-- ---- their bodies stay known

module _ {t : Tables} where
  pub same_invoked : {w v : World} → v.invocations ≡ w.invocations → AllInvoked t w → AllInvoked t v
  same_invoked e h = record { all = subst (λ vs. AllByRecursion (HasKnownBodies t) vs) (sym e) h.all }

  pub enter_invoked : {i : Invocation} {w : World} → HasKnownBodies t i → AllInvoked t w → AllInvoked t (after_change (Change.Enter i) w)
  enter_invoked i h = record { all = (i, h.all) }

  pub exit_invoked : {w : World} → AllInvoked t w → AllInvoked t (after_change Change.Exit w)
  exit_invoked {w} h = record { all = by w.invocations h.all }
    where
      by : (vs : List Invocation) → AllByRecursion (HasKnownBodies t) vs → AllByRecursion (HasKnownBodies t) (below vs)
      by [] h = tt
      by (v ∷ vs) h = h.1

  pub reach_invoked : {w : World} → AllInvoked t w → AllInvoked t (after_change Change.Reach w)
  reach_invoked {w} h = record { all = by w.invocations h.all }
    where
      by : (vs : List Invocation) → AllByRecursion (HasKnownBodies t) vs → AllByRecursion (HasKnownBodies t) (on_top (λ i. record i { completed = true }) vs)
      by [] h = tt
      by (v ∷ vs) h = (record { bodies = h.0.bodies }, h.1)

  pub provide_invoked : (rs : List Reference) {w : World} → AllInvoked t w → AllInvoked t (after_change (Change.Provide rs) w)
  provide_invoked rs {w} h = record { all = by w.invocations h.all }
    where
      by : (vs : List Invocation) → AllByRecursion (HasKnownBodies t) vs → AllByRecursion (HasKnownBodies t) (on_top (λ i. record i { references = rs }) vs)
      by [] h = tt
      by (v ∷ vs) h = (record { bodies = h.0.bodies }, h.1)

  pub keep_invoked : (key : Name) (x : Value) {w : World} → AllInvoked t w → AllInvoked t (after_change (Change.Keep key x) w)
  keep_invoked key x {w} h = record { all = by w.invocations h.all }
    where
      by : (vs : List Invocation) → AllByRecursion (HasKnownBodies t) vs → AllByRecursion (HasKnownBodies t) (on_top (λ i. record i { data_of = put key x i.data_of }) vs)
      by [] h = tt
      by (v ∷ vs) h = (record { bodies = h.0.bodies }, h.1)

  -- an invocation is entered, and then an instance leaves
  pub called_invoked : (n : ℕ) {i : Invocation} {w u v : World} → u ≡ after_change (Change.Enter i) w → v ≡ after_change (Change.Leave n) u → HasKnownBodies t i → AllInvoked t w → AllInvoked t v
  called_invoked n {i} {w} e f k h = rw (f, e) (same_invoked (leave_invocations n (after_change (Change.Enter i) w)) (enter_invoked k h))
