use Rattle.std.proofs.Common.{◌≡◌, filter, map, take}
use Rattle.cdi_event_tables.specs.Events.{is_not_any, written_use}
use Rattle.cdi_event_tables.proofs.written_form.written_but_any.Given as goal

-- those of the qualifiers that were looked at
abbrev pub invariant-loop-qualifier : goal.invariant-loop-qualifier
invariant-loop-qualifier l = l.written ≡ map written_use (filter is_not_any (take l.qualifier-index l.qualifiers))
