use Rattle.std.proofs.Common.{◌≡◌, map, take}
use Rattle.cdi_types.specs.Index.{place_in}
use Rattle.cdi_types.proofs.graph.first_places.Given as goal

abbrev pub invariant-loop-declared : goal.invariant-loop-declared
invariant-loop-declared l = l.firsts ≡ map (λ d. place_in l.index d.name) (take l.declared-index l.types)
