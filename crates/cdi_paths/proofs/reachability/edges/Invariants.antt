use Rattle.std.proofs.Common.{◌≡◌, ℕ, ◌<◌, length, vec_len, All}
use Rattle.cdi_paths.specs.Rounds.{has_bit_at, is_edge}
use Rattle.cdi_paths.proofs.reachability.edges.Given as goal

abbrev pub invariant-loop-targets : goal.invariant-loop-targets
invariant-loop-targets l =
    record {
      len : vec_len l.rows ≡ l.targets-index;
      width : All (λ row. length row ≡ l.width) l.rows.items;
      bits : (a b : ℕ) → a < l.targets-index → has_bit_at l.rows.items a b ≡ is_edge l.graph a b;
    }
