use Rattle.std.proofs.Common.{◌≡◌, ◌++◌, take}
use Rattle.cdi_name_uses.specs.Groups as spec
use Rattle.cdi_name_uses.proofs.declared.add_fields.Given as goal

abbrev pub invariant-loop-field : goal.invariant-loop-field
invariant-loop-field l = l.names ≡ l.initial.names ++ spec.names_of_fields (take l.field-index l.fields)
