use Rattle.std.proofs.Common.{[], filter, take}
use Rattle.std.specs.List.{flat_map}
use Rattle.cdi_bean_check.specs.ManagedBeans.{is_bean}
use Rattle.cdi_beans.specs.Adds.{Adds}
use Rattle.cdi_beans.specs.DisposerMethods.{IsDisposerOf, disposers_in}
use Rattle.cdi_beans.proofs.disposers.disposers_of.Given as goal

abbrev pub invariant-loop-class : goal.invariant-loop-class
invariant-loop-class l = Adds (IsDisposerOf l.tables.deployment.now l.tables.qualifiers.now) (flat_map disposers_in (filter is_bean (take l.class-index l.class-items))) [] l.disposers
