use Rattle.std.proofs.Common.{◌≡◌, ℕ, ◌+◌, ◌/◌, length, vec_len, All}
use Rattle.cdi_paths.specs.Rounds.{has_bit_at, has_path_through}
use Rattle.cdi_paths.proofs.reachability.rows_of.Given as goal

abbrev pub invariant-loop-node : goal.invariant-loop-node
invariant-loop-node l =
    record {
      len : vec_len l.rows ≡ length l.graph;
      width : All (λ row. length row ≡ length l.graph / 64 + 1) l.rows.items;
      bits : (a b : ℕ) → has_bit_at l.rows.items a b ≡ has_path_through l.graph l.node a b;
    }
