use Rattle.cdi_live.proofs.MemberSets.{one_member}
use Rattle.cdi_live.proofs.sets.add_members.Goals as goal

pub loop-member-preserved : goal.loop-member-preserved
loop-member-preserved c =
    let l = c.loop-member in (
      one_member _ l.member-index c.member-item.result c.loop-member-test.true c.member-item.is c.args.set.now l.set c.add_member.new.set l.invariant.0 c.in_ok-add_member.ensures.set,
      c.in_ok-add_member.ensures.last,
    )
