-- A home that is changed before the instance is, as the definition changes it after.
use Rattle.std.proofs.Common.{◌≡◌, ℕ, Option, Some, None, refl, ap}
use Rattle.cdi_base.specs.Maps.{at, without}
use Rattle.cdi_store.specs.declared.instance.Component.{Component}
use Rattle.cdi_store.specs.declared.instance.Component.TheVariants as components
use Rattle.cdi_store.specs.declared.instance.Owner.{Owner}
use Rattle.cdi_store.specs.declared.instance.Owner.TheVariants as owners
use Rattle.cdi_store.specs.declared.instance.Instance.{Instance}
use Rattle.cdi_store.specs.Live.{with_ready, with_leaving}
use Rattle.cdi_machine.specs.World.{World, Change, after_change, for_instance, with_instances, with_owned, without_making, without_owned}
use Rattle.cdi_world.specs.Reached.{with_home, without_home, without_context_home}
use Rattle.cdi_store.proofs.Absent.{leaving_absent, ready_absent, without-absent}

pub settled : (w : World) (n : ℕ)
    → with_instances (with_ready n) (with_home n w) ≡ after_change (Change.Settle n) w
settled w n = by (at w.instances n) refl
  where
    of : (component : Component) (owner : Owner)
        → with_instances (with_ready n) (with_owned n component owner w)
        ≡ with_owned n component owner (with_instances (with_ready n) w)
    of (components.Bean b) (owners.Context c) = refl
    of (components.Interceptor i) (owners.Context c) = refl
    of component (owners.Instance m) = refl
    of component owners.Borrower = refl

    by : (o : Option Instance) → at w.instances n ≡ o
        → with_instances (with_ready n) (for_instance w o (λ o. with_owned n o.component o.owner w))
        ≡ for_instance w o (λ o. with_owned n o.component o.owner (with_instances (with_ready n) w))
    by None e = ap (λ live. let v : World = record w { instances = live } in v) (ready_absent w.instances n e)
    by (Some o) e = of o.component o.owner

pub left : (w : World) (n : ℕ)
    → with_instances (with_leaving n) (without_home n w) ≡ after_change (Change.Leave n) w
left w n = by (at w.instances n) refl
  where
    of : (component : Component) (owner : Owner)
        → with_instances (with_leaving n) (without_owned n component owner w)
        ≡ without_owned n component owner (with_instances (with_leaving n) w)
    of (components.Bean b) (owners.Context c) = refl
    of (components.Interceptor i) (owners.Context c) = refl
    of component (owners.Instance m) = refl
    of component owners.Borrower = refl

    by : (o : Option Instance) → at w.instances n ≡ o
        → with_instances (with_leaving n) (for_instance w o (λ o. without_owned n o.component o.owner w))
        ≡ for_instance w o (λ o. without_owned n o.component o.owner (with_instances (with_leaving n) w))
    by None e = ap (λ live. let v : World = record w { instances = live } in v) (leaving_absent w.instances n e)
    by (Some o) e = of o.component o.owner

pub discarded : (w : World) (n : ℕ)
    → with_instances (without n) (without_context_home n w) ≡ after_change (Change.Discard n) w
discarded w n = by (at w.instances n) refl
  where
    of : (component : Component) (owner : Owner)
        → with_instances (without n) (without_making component owner w)
        ≡ without_making component owner (with_instances (without n) w)
    of (components.Bean b) (owners.Context c) = refl
    of (components.Interceptor i) (owners.Context c) = refl
    of component (owners.Instance m) = refl
    of component owners.Borrower = refl

    by : (o : Option Instance) → at w.instances n ≡ o
        → with_instances (without n) (for_instance w o (λ o. without_making o.component o.owner w))
        ≡ for_instance w o (λ o. without_making o.component o.owner (with_instances (without n) w))
    by None e = ap (λ live. let v : World = record w { instances = live } in v) (without-absent w.instances n e)
    by (Some o) e = of o.component o.owner
