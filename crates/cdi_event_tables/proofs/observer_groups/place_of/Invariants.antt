use Rattle.std.proofs.Common.{◌≡◌, ◌+◌, drop}
use Rattle.cdi_event_tables.specs.Observers.{place_of}
use Rattle.cdi_event_tables.proofs.observer_groups.place_of.Given as goal

-- the place among those that are left
abbrev pub invariant-loop-place : goal.invariant-loop-place
invariant-loop-place l = l.place + place_of l.priority (drop l.place l.groups) ≡ place_of l.priority l.groups
