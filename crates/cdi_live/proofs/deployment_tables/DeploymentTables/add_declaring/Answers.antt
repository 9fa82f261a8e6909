use Rattle.std.proofs.Common.{arith}
use Rattle.std.proofs.lemmas.Grind.{common_steps}
use Rattle.std.proofs.lemmas.List.Elements.{filter_map-append}
use Rattle.cdi_live.proofs.deployment_tables.DeploymentTables.add_declaring.Goals as goal

pub loop-bean-preserved : goal.loop-bean-preserved
loop-bean-preserved c = grind (arith, common_steps, filter_map-append)
