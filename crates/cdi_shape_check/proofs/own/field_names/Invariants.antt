use Rattle.std.proofs.Common.{map, take}
use Rattle.std.specs.List.{list_any}
use Rattle.cdi_name_check.specs.NameSets.{HasNames}
use Rattle.cdi_shape_check.specs.OwnParts.{has_field}
use Rattle.cdi_shape_check.proofs.own.field_names.Given as goal

abbrev pub invariant-loop-class : goal.invariant-loop-class
invariant-loop-class l = HasNames (λ name. list_any (λ c. has_field name c.fields) (map (λ c. c.now) (take l.class-index l.line))) l.set
