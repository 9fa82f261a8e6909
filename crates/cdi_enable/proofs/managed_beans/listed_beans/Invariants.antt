use Rattle.std.proofs.Common.{◌≡◌, ◌++◌, drop, map}
use Rattle.cdi_enable.specs.Enablement.{listed_bean}
use Rattle.cdi_enable.proofs.managed_beans.listed_beans.Given as goal

abbrev pub invariant-loop-bean : goal.invariant-loop-bean
invariant-loop-bean l = l.listed ++ map listed_bean (drop l.bean-index l.beans) ≡ map listed_bean l.beans
