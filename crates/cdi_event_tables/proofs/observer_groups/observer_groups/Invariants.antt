use Rattle.std.proofs.Common.{◌≡◌, drop}
use Rattle.std.specs.Prelude.{fold}
use Rattle.cdi_event_tables.specs.Observers.{observer_groups, with_next}
use Rattle.cdi_event_tables.proofs.observer_groups.observer_groups.Given as goal

-- the groups so far, and the observers that are left
abbrev pub invariant-loop-observer : goal.invariant-loop-observer
invariant-loop-observer l =
    fold (with_next l.fn.planner l.resolver l.ids) l.groups.items (drop l.observer-index l.observers) ≡ observer_groups l.fn.planner l.resolver l.ids l.observers
