use Rattle.std.proofs.Common.{refl, arith}
use Rattle.cdi_frames.proofs.CommandSteps.{command_fires}
use Rattle.cdi_steps.proofs.Made.{leaves_alone}
use Rattle.cdi_frames.proofs.step.commands.fire.Goals as goal

pub returns-clause-step : goal.returns-clause-step
returns-clause-step g c =
    rw c.in_ok-stand_in.ensures.ok (leaves_alone (command_fires (g.T.Tables.tables c.args.tables.now) c.args.request c.args.event c.in_ok-written.written (g.W.Contents.world c.args.world.now) c.in_ok-written.ensures) (omega arith) refl tt tt)
