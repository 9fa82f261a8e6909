use Rattle.std.specs.List.{Contains}
use Rattle.cdi_deployment.specs.declared.deployment.Class.{Class}
use Rattle.cdi_deployment.specs.declared.deployment.Member.{Member}
use Rattle.cdi_bean_check.specs.MixedNames.{IsSeen}
use Rattle.cdi_bean_check.specs.declared.mixed_names.MixedNames.{MixedNames}
use Rattle.cdi_bean_check.proofs.Tests.{all_of_them, one_more}
use Rattle.cdi_bean_check.proofs.mixed_names.MixedNames.of.Goals as goal

abbrev AllSeen : MixedNames → Class → Type 0
AllSeen names k = (m : Member) → Contains k.members m → IsSeen names m

pub loop-class-preserved : goal.loop-class-preserved
loop-class-preserved c =
    let l = c.loop-class in
    let added = c.in_ok-add_members.ensures in
    let own : AllSeen c.add_members.new.self c.class-item.result = rw (c.as_slice.ensures) at added.seen in
    one_more (AllSeen c.add_members.new.self) c.args.classes.now l.class-index c.class-item.result c.loop-class-test.true c.class-item.is (λ k h m stands. added.kept m (l.invariant k h m stands)) own

pub returns : goal.returns
returns c = all_of_them (AllSeen c.loop-class.names) c.args.classes.now c.loop-class.class-index c.loop-class-test.false c.loop-class.invariant
