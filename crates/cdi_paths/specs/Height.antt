-- How many nodes a node leads to by one edge or more: what falls with each edge of a graph without a cycle.
use Rattle.std.specs.Prelude.{ℕ, zero, suc, ◌+◌, List, Bool, length, if◌then◌else◌}
use Rattle.cdi_paths.specs.Rounds.{has_path_through}

-- how many of the numbers below n pass a test
abbrev pub count_below : (ℕ → Bool) → ℕ → ℕ
count_below test zero = 0
count_below test (suc n) = (if test n then 1 else 0) + count_below test n

unfoldable pub height : List (List ℕ) → ℕ → ℕ
height graph a = count_below (has_path_through graph (length graph) a) (length graph)
