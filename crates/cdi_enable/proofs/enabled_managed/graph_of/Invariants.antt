use Rattle.std.proofs.Common.{◌≡◌, ◌++◌, drop}
use Rattle.cdi_enable.specs.Enabled.{graph_of}
use Rattle.cdi_enable.proofs.enabled_managed.graph_of.Given as goal

abbrev pub invariant-loop-bean : goal.invariant-loop-bean
invariant-loop-bean l = l.graph ++ graph_of (drop l.bean-index l.beans) ≡ graph_of l.beans
