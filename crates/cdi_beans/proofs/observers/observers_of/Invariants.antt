use Rattle.std.proofs.Common.{filter, take}
use Rattle.cdi_bean_check.specs.ManagedBeans.{is_bean}
use Rattle.cdi_beans.specs.ObserverMethods.{AreObserversOf}
use Rattle.cdi_beans.proofs.observers.observers_of.Given as goal

abbrev pub invariant-loop-class : goal.invariant-loop-class
invariant-loop-class l = AreObserversOf l.tables.deployment.now l.tables.qualifiers.now (filter is_bean (take l.class-index l.class-items)) l.observers
