use Rattle.std.proofs.Common.{◌∙◌, ◌≤◌, min, length, sym, arith}
use Rattle.cdi_resolve.proofs.Digesting.{own_ended}
use Rattle.cdi_resolve.proofs.digest.own_digest.Goals as goal

pub returns : goal.returns
returns c =
    let past : min (length c.args.flags.now) (length c.args.members.now) ≤ c.loop-i.i = omega (arith, c.loop-i-test.false, c.min-i-end.ensures) in
    sym (own_ended c.args.flags.now c.args.members.now c.loop-i.i c.loop-i.digest past) ∙ c.loop-i.invariant
