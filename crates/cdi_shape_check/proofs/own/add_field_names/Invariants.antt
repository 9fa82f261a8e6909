use Rattle.std.proofs.Common.{◌≡◌, ◌||◌, ℕ, nat_eq, take}
use Rattle.std.specs.HashSet.{contains}
use Rattle.cdi_shape_check.specs.OwnParts.{has_field}
use Rattle.cdi_shape_check.proofs.own.add_field_names.Given as goal

abbrev pub invariant-loop-field : goal.invariant-loop-field
invariant-loop-field l = (name : ℕ) → contains nat_eq l.set name ≡ (contains nat_eq l.initial.set name || has_field name (take l.field-index l.fields))
