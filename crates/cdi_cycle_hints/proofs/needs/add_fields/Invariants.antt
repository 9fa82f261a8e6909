use Rattle.std.proofs.Common.{◌≡◌, ◌++◌, take}
use Rattle.cdi_cycle_hints.specs.Needs as spec
use Rattle.cdi_cycle_hints.proofs.needs.add_fields.Given as goal

abbrev pub invariant-loop-field : goal.invariant-loop-field
invariant-loop-field l =
    l.needs ≡ l.initial.needs ++ spec.fields_needs l.tables (take l.field-index l.fields)
