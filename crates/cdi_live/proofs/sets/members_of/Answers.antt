use Rattle.cdi_live.proofs.MemberSets.{one_bean}
use Rattle.cdi_live.proofs.sets.members_of.Goals as goal

pub loop-bean-preserved : goal.loop-bean-preserved
loop-bean-preserved c =
    let l = c.loop-bean in (
      one_bean c.args.enabled.now l.bean-index c.bean-item.result c.loop-bean-test.true c.bean-item.is l.set c.add_members.new.set l.invariant.0 c.in_ok-add_members.ensures.set,
      c.in_ok-add_members.ensures.last,
    )
