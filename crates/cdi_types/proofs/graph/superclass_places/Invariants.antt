use Rattle.std.proofs.Common.{◌≡◌, map, take}
use Rattle.cdi_types.specs.Above.{place_above}
use Rattle.cdi_types.specs.Index.{place_in}
use Rattle.cdi_types.proofs.graph.superclass_places.Given as goal

abbrev pub invariant-loop-declared : goal.invariant-loop-declared
invariant-loop-declared l = l.places ≡ map (place_above (place_in l.index)) (take l.declared-index l.types)
