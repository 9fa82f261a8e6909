use Rattle.std.proofs.Common.{◌≡◌, ◌++◌, take}
use Rattle.cdi_shape_check.proofs.injected.add_fields.Given as goal

abbrev pub invariant-loop-field : goal.invariant-loop-field
invariant-loop-field l = l.found ≡ l.initial.found ++ take l.field-index l.fields
