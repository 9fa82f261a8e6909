use Rattle.std.proofs.Common.{take}
use Rattle.std.specs.List.{filter_map}
use Rattle.cdi_beans.specs.Adds.{Adds}
use Rattle.cdi_beans.specs.ObserverMethods.{IsObserverOf, observer}
use Rattle.cdi_beans.proofs.observers.add_observers.Given as goal

abbrev pub invariant-loop-member : goal.invariant-loop-member
invariant-loop-member l = Adds (IsObserverOf l.tables.deployment.now l.tables.qualifiers.now l.bean) (filter_map observer (take l.member-index l.members)) l.initial.observers l.observers
