use Rattle.std.proofs.Common.{◌≡◌, ◌++◌, map, take}
use Rattle.std.specs.List.{filter_map}
use Rattle.cdi_live.specs.Points.{field_point}
use Rattle.cdi_live.specs.Needs.{needed_at}
use Rattle.cdi_live.specs.Settings.{setting_of}
use Rattle.cdi_live.proofs.needed_at_points.add_fields.Given as goal

abbrev pub invariant-loop-field : goal.invariant-loop-field
invariant-loop-field l = l.needs ≡ l.initial.needs ++ filter_map (needed_at (setting_of l.tables)) (map field_point (take l.field-index l.fields))
