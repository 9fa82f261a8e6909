use Rattle.std.proofs.Common.{◌≡◌, ◌++◌, drop}
use Rattle.std.specs.List.{filter_map}
use Rattle.cdi_types.specs.Index.{place_in}
use Rattle.cdi_types.specs.Subtype.{direct_supertypes}
use Rattle.cdi_types.proofs.edges.add_edges.Given as goal

abbrev pub invariant-loop-name : goal.invariant-loop-name
invariant-loop-name l =
    l.row ++ filter_map (place_in l.index) (drop l.name-index l.name-items)
    ≡ l.fn.row ++ filter_map (place_in l.index) (direct_supertypes l.declared)
