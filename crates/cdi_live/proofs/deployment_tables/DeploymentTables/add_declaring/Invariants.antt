use Rattle.std.proofs.Common.{◌≡◌, ◌++◌, take}
use Rattle.std.specs.List.{filter_map}
use Rattle.cdi_live.specs.Needs.{declaring_bean}
use Rattle.cdi_live.proofs.deployment_tables.DeploymentTables.add_declaring.Given as goal

abbrev pub invariant-loop-bean : goal.invariant-loop-bean
invariant-loop-bean l = l.needs ≡ l.initial.needs ++ filter_map (declaring_bean l.class) (take l.bean-index l.beans)
