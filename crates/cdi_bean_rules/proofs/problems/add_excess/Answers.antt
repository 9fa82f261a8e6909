use Rattle.cdi_bean_rules.proofs.AllProblems.{excess_one, excess_none}
use Rattle.cdi_bean_rules.proofs.problems.add_excess.Goals as goal

pub returns-in_ok-push : goal.returns-in_ok-push
returns-in_ok-push c = excess_one c.args.deployment.now c.args.types.now c.requires.types c.in_ok-too_many.too_many c.if-too_many.true c.in_ok-too_many.ensures _ _ c.in_ok-push.ensures.ok

pub returns-else-too_many : goal.returns-else-too_many
returns-else-too_many c = excess_none c.args.deployment.now c.args.types.now c.requires.types c.in_ok-too_many.too_many c.if-too_many.false c.in_ok-too_many.ensures _
