use Rattle.std.proofs.Common.{◌≡◌, drop}
use Rattle.cdi_planner.specs.Observers.{observer_named}
use Rattle.cdi_planner.proofs.observer.observer_named.Given as goal

abbrev pub invariant-loop-member : goal.invariant-loop-member
invariant-loop-member l = observer_named l.name (drop l.member-index l.members) ≡ observer_named l.name l.members
