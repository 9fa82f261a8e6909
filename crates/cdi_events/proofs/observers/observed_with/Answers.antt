use Rattle.std.proofs.Common.{refl, arith, ◌∙◌}
use Rattle.cdi_events.proofs.ObserverSteps.{observed_checked, observed_threw}
use Rattle.cdi_steps.proofs.Made.{ends}
use Rattle.cdi_events.proofs.observers.observed_with.Goals as goal

pub returns-then-is_checked : goal.returns-then-is_checked
returns-then-is_checked g c =
    rw c.raised.ensures (ends (observed_checked (g.T.Tables.tables c.args.tables.now) c.args._others c.args.exception (g.W.Contents.world c.args._world.now) (c.is_checked.ensures ∙ c.if-is_checked.true)) (omega arith) refl)

pub returns : goal.returns
returns g c =
    rw c.ended.ensures (ends (observed_threw (g.T.Tables.tables c.args.tables.now) c.args._others c.args.exception (g.W.Contents.world c.args._world.now) (c.is_checked.ensures ∙ c.if-is_checked.false)) (omega arith) refl)
