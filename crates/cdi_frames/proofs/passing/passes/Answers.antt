use Rattle.cdi_frames.proofs.PassingSteps.{stopping_passes, exiting_passes}
use Rattle.cdi_frames.proofs.passing.passes.Goals as goal

pub returns-in-Stopping-clause-step : goal.returns-in-Stopping-clause-step
returns-in-Stopping-clause-step g c h = stopping_passes (g.T.Tables.tables c.args.tables.now) c.args.frame.now c.args.outcome.now _ _ _ c.in-Ends.is c.in-Stopping.is c.stop.ensures

pub returns-in-Exiting-clause-step : goal.returns-in-Exiting-clause-step
returns-in-Exiting-clause-step g c h = exiting_passes (g.T.Tables.tables c.args.tables.now) c.args.frame.now c.args.outcome.now _ _ _ c.in-Ends.is c.in-Exiting.is c.exit.ensures
