use Rattle.cdi_bean_check.specs.MixedNames.{IsSeen}
use Rattle.cdi_bean_check.proofs.Tests.{all_of_them, one_more}
use Rattle.cdi_bean_check.proofs.mixed_names.MixedNames.add_members.Goals as goal

pub loop-member-preserved : goal.loop-member-preserved
loop-member-preserved c =
    let l = c.loop-member in (
      one_more (IsSeen c.add.new.self) c.args.members.now l.member-index c.member-item.result c.loop-member-test.true c.member-item.is (λ m h. c.in_ok-add.ensures.kept m (l.invariant.0 m h)) c.in_ok-add.ensures.seen,
      λ m s. c.in_ok-add.ensures.kept m (l.invariant.1 m s),
    )

pub returns-clause-seen : goal.returns-clause-seen
returns-clause-seen c = all_of_them (IsSeen c.loop-member.self) c.args.members.now c.loop-member.member-index c.loop-member-test.false c.loop-member.invariant.0
