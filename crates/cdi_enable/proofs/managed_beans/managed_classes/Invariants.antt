use Rattle.std.proofs.Common.{◌≡◌, ◌++◌, drop}
use Rattle.cdi_enable.specs.Enablement.{classes_of, managed_beans}
use Rattle.cdi_enable.proofs.managed_beans.managed_classes.Given as goal

abbrev pub invariant-loop-bean : goal.invariant-loop-bean
invariant-loop-bean l = l.classes ++ classes_of (managed_beans (drop l.bean-index l.beans)) ≡ classes_of (managed_beans l.beans)
