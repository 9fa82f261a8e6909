use Rattle.std.proofs.Common.{rules, ◌≡◌, ◌++◌, ◌/◌, List, ℕ, length, take, drop, ap, arith}
use Rattle.cdi_paths.proofs.Bits.{has_bit-join}
use Rattle.cdi_paths.proofs.Rows.{written_back}
use Rattle.cdi_paths.proofs.bit_row.BitRow.join.Goals as goal

pub returns-clause-bits : goal.returns-clause-bits
returns-clause-bits c =
    let old : List ℕ = c.self.inside.words.items in
    let new : List ℕ = c.join_words.new.words in
    let len : c.self.inside.words.len ≡ length old = search rules in
    let same : length new ≡ length old = omega (arith, ap length c.as_mut_slice.ensures.value) in
    let back : take c.self.inside.words.len (new ++ drop (length new) old) ≡ new = written_back c.self.inside.words.len new old same len in
    λ i. rw (back, ← c.self.view_is, ← c.other.view_is) (has_bit-join new old c.other.inside.words.items i (rw (c.as_mut_slice.ensures.value, c.as_slice.ensures.value) at c.join_words.ensures (i / 64)))
