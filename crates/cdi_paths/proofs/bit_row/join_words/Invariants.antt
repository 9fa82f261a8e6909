use Rattle.std.proofs.Common.{◌≡◌, ℕ, ◌<◌, ◌≤◌, get_or, bit_or}
use Rattle.cdi_paths.proofs.bit_row.join_words.Given as goal

abbrev pub invariant-loop-i : goal.invariant-loop-i
invariant-loop-i l =
    record {
      joined : (k : ℕ) → k < l.i → get_or l.words k 0 ≡ bit_or (get_or l.initial.words k 0) (get_or l.others k 0);
      left : (k : ℕ) → l.i ≤ k → get_or l.words k 0 ≡ get_or l.initial.words k 0;
    }
