use Rattle.cdi_name_check.proofs.NameSteps.{one_member}
use Rattle.cdi_name_check.proofs.unknown_name.name_sets.add_members.Goals as goal

pub loop-name-preserved : goal.loop-name-preserved
loop-name-preserved c = one_member c.args.declared.now.name _ c.loop-name.name-index c.name-item.result c.loop-name-test.true c.name-item.is c.args.set.now c.loop-name.set c.insert.new.self c.loop-name.invariant c.in_ok-insert.ensures.updates.0
