use Rattle.std.proofs.Common.{◌≡◌, ◌++◌, drop, map}
use Rattle.cdi_enable.specs.Enablement.{managed_bean, managed_beans}
use Rattle.cdi_enable.proofs.managed_beans.managed_beans.Given as goal

abbrev pub invariant-loop-bean : goal.invariant-loop-bean
invariant-loop-bean l = l.managed ++ map (managed_bean l.classes l.selected) (managed_beans (drop l.bean-index l.beans)) ≡ map (managed_bean l.classes l.selected) (managed_beans l.beans)
