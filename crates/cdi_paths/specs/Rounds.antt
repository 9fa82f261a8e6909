-- How the table is made: in rounds, each with the paths whose inner nodes are among the first so many.
use Rattle.std.specs.Prelude.{ℕ, zero, suc, ◌==◌, ◌||◌, ◌&&◌, ◌≡◌, List, [], Bool, length, slice_index_or}
use Rattle.std.specs.List.{list_any}
use Rattle.cdi_paths.specs.BitRow.{has_bit}
use Rattle.cdi_paths.specs.Graph.{targets_of, IsGraph}

abbrev pub is_edge : List (List ℕ) → ℕ → ℕ → Bool
is_edge graph a b = list_any (λ t. b == t) (targets_of graph a)

-- a path of one edge or more, with no inner node but the first k
abbrev pub has_path_through : List (List ℕ) → ℕ → ℕ → ℕ → Bool
has_path_through graph zero a b = is_edge graph a b
has_path_through graph (suc k) a b =
    has_path_through graph k a b || (has_path_through graph k a k && has_path_through graph k k b)

-- the bit of a node in the row of another
abbrev pub has_bit_at : List (List ℕ) → ℕ → ℕ → Bool
has_bit_at rows a b = has_bit (slice_index_or rows a []) b

-- the table of a graph: the last round
pub record IsTable (graph rows : List (List ℕ)) : Type 0 where
  pub nodes : IsGraph graph
  pub bits : (a b : ℕ) → has_bit_at rows a b ≡ has_path_through graph (length graph) a b
