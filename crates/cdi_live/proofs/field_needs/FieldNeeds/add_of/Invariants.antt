use Rattle.std.proofs.Common.{◌≡◌, ◌++◌, map, take}
use Rattle.std.specs.List.{flat_map}
use Rattle.cdi_live.specs.FieldNeeds.{list_of}
use Rattle.cdi_live.proofs.field_needs.FieldNeeds.add_of.Given as goal

abbrev pub invariant-loop-class : goal.invariant-loop-class
invariant-loop-class l = l.needs ≡ l.initial.needs ++ flat_map (λ c. list_of l.self c.name) (map (λ c. c.now) (take l.class-index l.classes))
