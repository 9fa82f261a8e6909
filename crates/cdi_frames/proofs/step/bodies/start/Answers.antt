use Rattle.std.proofs.Common.{refl, arith}
use Rattle.cdi_frames.proofs.BodySteps.{start_leads}
use Rattle.cdi_steps.proofs.Made.{leaves_alone}
use Rattle.cdi_frames.proofs.step.bodies.start.Goals as goal

pub returns-clause-step : goal.returns-clause-step
returns-clause-step g c =
    rw (c.in_ok-start.ensures.ok, c.instance.ensures, c.deref.ensures) (leaves_alone (start_leads (g.T.Tables.tables c.args._tables.now) c.args.running (g.W.Contents.world c.args.world.now)) (omega arith) refl (c.requires, tt) tt)
