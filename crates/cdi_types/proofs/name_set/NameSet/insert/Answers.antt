use Rattle.std.proofs.Common.{◌≡◌, ◌∙◌, ℕ, ◌+◌, ◌/◌, ◌<◌, ◌≤◌, ◌||◌, nat_eq, List, length, refl, ap, arith}
use Rattle.std.proofs.lemmas.Grind.{get_or_default_zero}
use Rattle.cdi_paths.specs.BitRow.{has_bit}
use Rattle.cdi_paths.proofs.Bits.{has_bit-put}
use Rattle.cdi_types.proofs.WordsGrown.{has_bit-grown, one_more}
use Rattle.cdi_types.proofs.name_set.NameSet.insert.Goals as goal
use Rattle.cdi_types.proofs.name_set.NameSet.insert.Goals.{then-len-bit+in_ok-resize, else-len-bit}

pub returns : goal.returns
returns c = λ n.
    let bit = c.number-bit.result in
    let old : List ℕ = c.args.self.now.words.items in
    let ws : List ℕ = c.if-len-bit.self.words.items in
    let within : bit / 64 < length ws = elim c.if-len-bit.branch [
      | then-len-bit+in_ok-resize w ↦ rw w.self-is (omega (arith, w.in_ok-resize.ensures.len))
      | else-len-bit w ↦ rw w.self-is (omega (arith, w.if-len-bit.false, c.len.ensures))
    ] in
    let same : has_bit ws n ≡ has_bit old n = elim c.if-len-bit.branch [
      | then-len-bit+in_ok-resize w ↦ (let short : length old ≤ bit / 64 + 1 = omega (arith, w.if-len-bit.true, c.len.ensures) in rw w.self-is (has_bit-grown old _ _ _ short w.in_ok-resize.ensures.items n))
      | else-len-bit w ↦ rw w.self-is refl
    ] in
    has_bit-put ws c.index_mut.result.now bit n (c.index_mut.ensures.value ∙ get_or_default_zero ws (bit / 64) c.index_mut.result.now within) within
    ∙ ap (λ b. b || nat_eq n bit) same ∙ one_more (has_bit old n) n bit c.args.name c.number-bit.ensures
