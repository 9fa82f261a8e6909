use Rattle.std.proofs.Common.{ap, length, ◌/◌, ◌∙◌, ◌<◌, arith}
use Rattle.std.proofs.lemmas.Grind.{get_or_default_zero}
use Rattle.cdi_paths.proofs.Bits.{has_bit-put}
use Rattle.cdi_paths.proofs.bit_row.BitRow.put.Goals as goal

pub returns-clause-bits : goal.returns-clause-bits
returns-clause-bits c =
    let ws = c.self.inside.words.items in
    let k = c.args.bit / 64 in
    let within : k < length ws = omega (arith, ap length c.self.view_is, c.requires) in
    λ i. rw (← c.self.view_is) (has_bit-put ws c.index_mut.result.now c.args.bit i (c.index_mut.ensures.value ∙ get_or_default_zero ws k c.index_mut.result.now within) within)
