use Rattle.std.proofs.Common.{◌≡◌, ◌++◌, map, drop}
use Rattle.std.specs.List.{filter_map}
use Rattle.cdi_types.specs.Index.{place_in}
use Rattle.cdi_types.specs.Nodes.{graph_of}
use Rattle.cdi_types.specs.Subtype.{supertypes_of}
use Rattle.cdi_types.proofs.edges.graph_of.Given as goal

abbrev pub invariant-loop-declared : goal.invariant-loop-declared
invariant-loop-declared l =
    l.graph ++ map (λ d. filter_map (place_in l.index) (supertypes_of l.types d.name)) (drop l.declared-index l.types)
    ≡ graph_of (place_in l.index) l.types
