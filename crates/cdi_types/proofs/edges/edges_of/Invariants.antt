use Rattle.std.proofs.Common.{◌≡◌, ◌++◌, drop}
use Rattle.std.specs.List.{filter_map}
use Rattle.cdi_types.specs.Index.{place_in}
use Rattle.cdi_types.specs.Subtype.{supertypes_of}
use Rattle.cdi_types.proofs.edges.edges_of.Given as goal

abbrev pub invariant-loop-declared : goal.invariant-loop-declared
invariant-loop-declared l =
    l.row ++ filter_map (place_in l.index) (supertypes_of (drop l.declared-index l.types) l.name)
    ≡ filter_map (place_in l.index) (supertypes_of l.types l.name)
