use Rattle.cdi_frames.proofs.PassingSteps.{end_passes}
use Rattle.cdi_frames.proofs.passing.reaches.Goals as goal

pub returns-in-Gave-clause-step : goal.returns-in-Gave-clause-step
returns-in-Gave-clause-step g c h = rw (c.in-AroundInvoke.is, c.in-Gave.is, c.reach.ensures) (end_passes (g.T.Tables.tables c.args._tables.now) _ _)
