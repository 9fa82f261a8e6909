use Rattle.std.proofs.Common.{refl, arith}
use Rattle.cdi_frames.proofs.CommandSteps.{returning_empty, returning_leads}
use Rattle.cdi_steps.proofs.Made.{ends, leaves_alone}
use Rattle.cdi_frames.proofs.step.commands.returning.Goals as goal

pub returns-in-Some-None-clause-step : goal.returns-in-Some-None-clause-step
returns-in-Some-None-clause-step g c =
    rw (c.returned.ensures.next, c.returned.ensures.world) (ends (returning_empty (g.T.Tables.tables c.args._tables.now) c.args.completion (g.W.Contents.world c.args.world.now) (rw c.in-Some-None.field-0-is at c.in-Some-None.ensures)) (omega arith) refl)

pub returns-clause-step : goal.returns-clause-step
returns-clause-step g c =
    leaves_alone (returning_leads (g.T.Tables.tables c.args._tables.now) c.args.completion c.in_ok-told.told (g.W.Contents.world c.args.world.now) c.in_ok-told.ensures) (omega arith) refl (tt, tt) tt
