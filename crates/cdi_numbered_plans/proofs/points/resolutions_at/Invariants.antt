use Rattle.std.proofs.Common.{◌≡◌, map, take}
use Rattle.cdi_resolve.specs.Filters.{enabled_of}
use Rattle.cdi_numbered_plans.specs.Numbered.{field_resolution}
use Rattle.cdi_numbered_plans.proofs.points.resolutions_at.Given as goal

-- those of the fields that were looked at
abbrev pub invariant-loop-field : goal.invariant-loop-field
invariant-loop-field l = (l.all ≡ map (field_resolution l.qualifiers l.initial.lookup.now) (take l.field-index l.fields)) × (enabled_of l.lookup.now ≡ enabled_of l.initial.lookup.now)
