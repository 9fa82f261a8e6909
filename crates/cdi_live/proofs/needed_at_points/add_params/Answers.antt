use Rattle.std.specs.List.{filter_map}
use Rattle.std.proofs.lemmas.List.Elements.{filter_map-append}
use Rattle.cdi_live.specs.Needs.{needed_at}
use Rattle.cdi_live.specs.Settings.{setting_of}
use Rattle.cdi_live.proofs.Growing.{grows}
use Rattle.cdi_live.proofs.needed_at_points.add_params.Goals as goal

pub loop-point-preserved : goal.loop-point-preserved
loop-point-preserved c =
    let f = needed_at (setting_of c.args.tables.now) in
    grows (filter_map f) (filter_map-append f) c.args.params.now c.loop-point.point-index c.point-item.result c.loop-point-test.true c.point-item.is c.args.needs.now c.loop-point.needs c.add_needed.new.needs c.loop-point.invariant (rw c.as_slice.ensures at c.in_ok-add_needed.ensures)
