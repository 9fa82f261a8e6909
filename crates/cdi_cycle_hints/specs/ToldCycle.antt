-- The cycle through a node of a graph that a hint tells. To look for it takes as many rounds through the graph as it is long, and each
-- hint looks anew, so none is told of a large graph.
use Rattle.std.specs.Prelude.{ℕ, Bool, ◌&&◌, List, [], length, nat_le, unwrap_or, if◌then◌else◌}
use Rattle.std.specs.List.{list_all}
use Rattle.cdi_paths.specs.CycleThrough.{cycle_through}

-- few edges lead from a node
abbrev pub is_short : List ℕ → Bool
is_short row = nat_le (length row) 32

-- it has few nodes, and few edges from each
abbrev pub is_small : List (List ℕ) → Bool
is_small graph = nat_le (length graph) 512 && list_all is_short graph

-- nothing if the node stands on none
abbrev pub told_cycle : List (List ℕ) → ℕ → List ℕ
told_cycle graph a = if is_small graph then unwrap_or (cycle_through graph a) [] else []
