use Rattle.std.proofs.Common.{refl, ap, ◌∙◌, arith}
use Rattle.cdi_steps.specs.declared.task.Groups.{Groups}
use Rattle.cdi_steps.proofs.Made.{settled}
use Rattle.cdi_steps.proofs.Results.{map_ok}
use Rattle.cdi_events.proofs.KnownObservers.{groups_known}
use Rattle.cdi_events.proofs.ObserverSteps.{published_as}
use Rattle.cdi_events.proofs.observers.deliver.Goals as goal

pub notify_next-requires : goal.notify_next-requires
notify_next-requires g c =
    rw (c.in_ok-groups-2.ensures.ok, c.from_first-left.ensures, c.into_vec.ensures)
    (groups_known (g.T.Tables.tables c.args.tables.now) c.into_inner-class.result.class c.as_slice.result.now c.in_ok-groups.groups c.in_ok-groups.ensures.heard c.in_ok-groups.ensures.resolved)

pub returns : goal.returns
returns g c =
    let same = ap (λ (k : Groups). k.value) c.in_ok-groups-2.ensures.ok in
    let left = ap (λ (k : Groups). k.left) c.in_ok-groups-2.ensures.ok ∙ c.from_first-left.ensures ∙ c.into_vec.ensures in
    map_ok c.notify_next.result (λ next s. settled (published_as (g.T.Tables.tables c.args.tables.now) c.args.event c.in_ok-groups-2.groups.value (g.W.Contents.world c.args.world.now) (rw (left, ← c.into_inner-class.ensures, ← c.as_slice.ensures) c.in_ok-groups.ensures.heard) (rw (same, c.into_inner-class.ensures) refl)) s (omega arith)) c.notify_next.ensures
