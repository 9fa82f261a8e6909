use Rattle.cdi_name_check.proofs.NameSteps.{one_owner}
use Rattle.cdi_name_check.proofs.unknown_name.name_sets.members_of.Goals as goal

pub loop-declared-preserved : goal.loop-declared-preserved
loop-declared-preserved c = one_owner c.args.types.now c.loop-declared.declared-index c.declared-item.result c.loop-declared-test.true c.declared-item.is c.loop-declared.set c.add_members.new.set c.loop-declared.invariant c.in_ok-add_members.ensures
