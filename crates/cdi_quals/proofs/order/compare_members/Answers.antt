use Rattle.std.proofs.Common.{◌∙◌, sym, arith}
use Rattle.cdi_quals.specs.Order.{compare_member}
use Rattle.cdi_quals.proofs.Pairs.{ended}
use Rattle.cdi_quals.proofs.order.compare_members.Goals as goal

pub returns : goal.returns
returns c = c.cmp.ensures ∙ sym (ended compare_member c.args.a.now c.args.b.now c.loop-i.i (omega arith)) ∙ c.loop-i.invariant
