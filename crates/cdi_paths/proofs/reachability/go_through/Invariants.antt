use Rattle.std.proofs.Common.{◌≡◌, ℕ, ◌<◌, ◌≤◌, ◌||◌, ◌&&◌, [], length, get_or, All}
use Rattle.cdi_paths.specs.BitRow.{has_bit}
use Rattle.cdi_paths.specs.Rounds.{has_bit_at}
use Rattle.cdi_paths.proofs.reachability.go_through.Given as goal

abbrev pub invariant-loop-row : goal.invariant-loop-row
invariant-loop-row l =
    record {
      width : All (λ row. length row ≡ length l.inner) l.rows;
      done : (a b : ℕ) → a < l.row-index → has_bit_at l.rows a b ≡ (has_bit_at l.fn.rows a b || (has_bit_at l.fn.rows a l.node && has_bit l.inner b));
      left : (a : ℕ) → l.row-index ≤ a → get_or l.rows a [] ≡ get_or l.fn.rows a [];
    }
