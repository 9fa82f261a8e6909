-- The qualifiers of an event are written as a set.
use Rattle.std.proofs.Common.{map, filter, not, ap}
use Rattle.cdi_base.specs.declared.uses.Use.{Use}
use Rattle.cdi_bodies.specs.Events.{is_any}
use Rattle.cdi_event_tables.proofs.Written.{ordered_are}
use Rattle.cdi_event_tables.specs.Events.{written_use}
use Rattle.cdi_quals.specs.Qualifiers.{full_use}
use Rattle.cdi_accepted.specs.Ties.{WrittenAre}

pub written_are : WrittenAre
written_are t uses set is =
    let given = map (full_use t.tables.declared.qualifiers) (filter (λ (u : Use). not (is_any u)) uses) in
    ap (map written_use) (ordered_are t.deployment.names given set is)
