use Rattle.std.proofs.Common.{take}
use Rattle.cdi_live.specs.Cycles.{has_needy_product}
use Rattle.cdi_live.proofs.cycle_rule.needy_products.Given as goal
use Rattle.cdi_name_check.specs.NameSets.{HasPairs}

abbrev pub invariant-loop-bean : goal.invariant-loop-bean
invariant-loop-bean l = HasPairs (has_needy_product l.flags (take l.bean-index l.beans)) l.set
