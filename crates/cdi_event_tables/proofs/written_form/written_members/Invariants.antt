use Rattle.std.proofs.Common.{◌≡◌, map, take}
use Rattle.cdi_event_tables.specs.Events.{written_member}
use Rattle.cdi_event_tables.proofs.written_form.written_members.Given as goal

-- those of the members that were looked at
abbrev pub invariant-loop-member : goal.invariant-loop-member
invariant-loop-member l = l.written ≡ map written_member (take l.member-index l.members)
