use Rattle.std.proofs.Common.{filter}
use Rattle.std.specs.List.{filter_map, flat_map}
use Rattle.cdi_live.specs.Needs.{needed_at}
use Rattle.cdi_live.specs.OwnPoints.{disposer_points, serves}
use Rattle.cdi_live.specs.Settings.{setting_of}
use Rattle.cdi_live.proofs.Growing.{grows, filter_flat_mapped}
use Rattle.cdi_live.proofs.deployment_tables.DeploymentTables.add_disposers.Goals as goal

pub loop-disposer-preserved : goal.loop-disposer-preserved
loop-disposer-preserved c =
    let f = needed_at (setting_of c.args.self.now) in
    let h = disposer_points c.args.self.now.classes.now in
    let p = serves c.args.class c.args.name in
    grows (λ ms. filter_map f (flat_map h (filter p ms))) (filter_flat_mapped f h p) c.as_slice-disposers.result.now c.loop-disposer.disposer-index c.disposer-item.result c.loop-disposer-test.true c.disposer-item.is c.args.needs.now c.loop-disposer.needs c.add_disposer.new.needs c.loop-disposer.invariant c.in_ok-add_disposer.ensures
