use Rattle.std.proofs.Common.{◌≡◌, ◌++◌, take}
use Rattle.cdi_name_uses.specs.Known as spec
use Rattle.cdi_name_uses.proofs.known.add_fields.Given as goal

abbrev pub invariant-loop-field : goal.invariant-loop-field
invariant-loop-field l =
    l.names ≡ l.initial.names ++ spec.field_names (take l.field-index l.fields)
