use Rattle.std.proofs.Common.{◌≡◌, nat_eq, map, take}
use Rattle.std.specs.HashMap.{get}
use Rattle.cdi_types.specs.Line.{place_of_superclass}
use Rattle.cdi_types.proofs.class_index.places_above.Given as goal

abbrev pub invariant-loop-class : goal.invariant-loop-class
invariant-loop-class l = l.above ≡ map (place_of_superclass (get nat_eq l.places)) (take l.class-index l.classes)
