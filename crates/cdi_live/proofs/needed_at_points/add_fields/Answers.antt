use Rattle.std.proofs.Common.{map}
use Rattle.std.specs.List.{filter_map}
use Rattle.cdi_live.specs.Points.{field_point}
use Rattle.cdi_live.specs.Needs.{needed_at}
use Rattle.cdi_live.specs.Settings.{setting_of}
use Rattle.cdi_live.proofs.Growing.{grows, mapped}
use Rattle.cdi_live.proofs.needed_at_points.add_fields.Goals as goal

pub loop-field-preserved : goal.loop-field-preserved
loop-field-preserved c =
    let f = needed_at (setting_of c.args.tables.now) in
    grows (λ xs. filter_map f (map field_point xs)) (mapped f field_point) c.args.fields.now c.loop-field.field-index c.field-item.result c.loop-field-test.true c.field-item.is c.args.needs.now c.loop-field.needs c.add_needed.new.needs c.loop-field.invariant (rw c.as_slice.ensures at c.in_ok-add_needed.ensures)
