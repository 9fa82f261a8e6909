use Rattle.std.proofs.Common.{◌≡◌, ◌∙◌, sym, ap, slice_get, arith}
use Rattle.std.proofs.Math.Facts.{to_z-of_z}
use Rattle.cdi_event_tables.proofs.Placed.{inserted_there, merged_there, place_within}
use Rattle.cdi_event_tables.specs.Observers.{has_priority, place_of}
use Rattle.cdi_event_tables.proofs.observer_groups.add_observer.Goals as goal

pub returns-then-has_priority : goal.returns-then-has_priority
returns-then-has_priority c =
    let gs = c.args.groups.now.items in
    let p = c.args.priority in
    let n = c.place_of-place.result in
    let at : n ≡ place_of p gs = (rw (to_z-of_z c.ranges.priority) at c.place_of-place.ensures) ∙ ap (place_of p) c.as_slice.ensures.value in
    let there = sym ((rw (to_z-of_z c.ranges.priority) at c.has_priority.ensures) ∙ ap (λ xs. has_priority p (slice_get xs n)) c.as_slice-2.ensures.value) ∙ c.if-has_priority.true in
    rw c.in_ok-push.ensures.ok (merged_there p c.args.observer gs n at c.index_mut.result.now c.index_mut.ensures.value there)

pub insert-requires : goal.insert-requires
insert-requires c =
    let gs = c.args.groups.now.items in
    let p = c.args.priority in
    let at : c.place_of-place.result ≡ place_of p gs = (rw (to_z-of_z c.ranges.priority) at c.place_of-place.ensures) ∙ ap (place_of p) c.as_slice.ensures.value in
    omega (arith, at, place_within p gs)

pub returns : goal.returns
returns c =
    let gs = c.args.groups.now.items in
    let p = c.args.priority in
    let n = c.place_of-place.result in
    let at : n ≡ place_of p gs = (rw (to_z-of_z c.ranges.priority) at c.place_of-place.ensures) ∙ ap (place_of p) c.as_slice.ensures.value in
    let other = sym ((rw (to_z-of_z c.ranges.priority) at c.has_priority.ensures) ∙ ap (λ xs. has_priority p (slice_get xs n)) c.as_slice-2.ensures.value) ∙ c.if-has_priority.false in
    rw (c.in_ok-insert.ensures.items, c.in_ok-push-2.ensures.ok, c.empty-observers.ensures, to_z-of_z c.ranges.priority) (inserted_there p c.args.observer gs n at other)
