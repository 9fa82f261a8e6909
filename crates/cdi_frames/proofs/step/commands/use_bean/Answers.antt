use Rattle.std.proofs.Common.{refl, arith}
use Rattle.cdi_frames.proofs.CommandSteps.{use_leads}
use Rattle.cdi_steps.proofs.Made.{leaves_alone}
use Rattle.cdi_frames.proofs.step.commands.use_bean.Goals as goal

pub returns-in-Ok-clause-step : goal.returns-in-Ok-clause-step
returns-in-Ok-clause-step g c =
    rw (c.in-Ok.ensures.ok, c.in_ok-borrow.ensures.ok) (leaves_alone (use_leads (g.T.Tables.tables c.args._tables.now) c.args.request c.args.used (g.W.Contents.world c.args.world.now)) (omega arith) refl (c.requires, tt) tt)
