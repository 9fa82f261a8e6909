use Rattle.std.proofs.Common.{◌≡◌, take}
use Rattle.cdi_event_tables.specs.Observers.{is_heard_by}
use Rattle.cdi_run_tables.specs.Observers.{heard_groups}
use Rattle.cdi_run_tables.proofs.events.heard_groups.Given as goal

-- those of the groups that were looked at
abbrev pub invariant-loop-place : goal.invariant-loop-place
invariant-loop-place l = l.all ≡ heard_groups (is_heard_by l.event.declared.now l.event.class l.event.qualifiers.now) l.planned (take l.place l.groups)
