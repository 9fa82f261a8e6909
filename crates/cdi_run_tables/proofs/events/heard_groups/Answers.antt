use Rattle.cdi_event_tables.specs.Observers.{is_heard_by}
use Rattle.cdi_run_tables.proofs.Hearing.{no_group, one_group}
use Rattle.cdi_run_tables.proofs.events.heard_groups.Goals as goal
use Rattle.cdi_run_tables.proofs.events.heard_groups.Goals.{then-not-is_empty+in_ok-push, else-not-is_empty}

pub loop-place-preserved : goal.loop-place-preserved
loop-place-preserved c =
    let event = c.args.event.now in
    let hears = is_heard_by event.declared.now event.class event.qualifiers.now in
    let planned = c.args.planned.now in
    let groups = c.args.groups.now in
    let i = c.loop-place in
    let observers = c.index-groups-place.result in
    let heard = c.in_ok-heard.heard in
    let told = rw c.as_slice.ensures at c.in_ok-heard.ensures in
    elim c.if-not-is_empty.branch [
      | then-not-is_empty+in_ok-push w ↦ rw (w.all-is, w.in_ok-push.ensures.ok)
          (one_group hears planned groups i.place observers c.loop-place-test.true c.index-groups-place.is i.all i.invariant heard told c.is_empty.result c.is_empty.ensures w.if-not-is_empty.true)
      | else-not-is_empty w ↦ rw w.all-is
          (no_group hears planned groups i.place observers c.loop-place-test.true c.index-groups-place.is i.all i.invariant heard told c.is_empty.result c.is_empty.ensures w.if-not-is_empty.false)
    ]
