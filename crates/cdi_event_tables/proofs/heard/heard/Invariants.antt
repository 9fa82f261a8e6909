use Rattle.std.proofs.Common.{◌≡◌, filter, map, take}
use Rattle.cdi_event_tables.specs.Observers.{is_heard_by}
use Rattle.cdi_event_tables.proofs.heard.heard.Given as goal

-- those of the observers that were asked
abbrev pub invariant-loop-observer : goal.invariant-loop-observer
invariant-loop-observer l = map (λ o. o.now) l.heard ≡ filter (is_heard_by l.declared l.class l.qualifiers) (take l.observer-index l.observers)
