use Rattle.std.proofs.Common.{◌≡◌, ◌++◌, drop}
use Rattle.cdi_observers.specs.Runs.{groups_from, groups_in}
use Rattle.cdi_observers.proofs.group.groups_of.Given as goal

abbrev pub invariant-loop-observer : goal.invariant-loop-observer
invariant-loop-observer l = l.groups ++ groups_from l.group (drop l.observer-index l.rest) ≡ groups_in l.observers
