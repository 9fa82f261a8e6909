use Rattle.std.proofs.Common.{refl, arith}
use Rattle.cdi_frames.proofs.CommandSteps.{boot_leads, live_leads}
use Rattle.cdi_steps.proofs.Made.{ends, leaves_alone, settled}
use Rattle.cdi_steps.proofs.Results.{map_ok}
use Rattle.cdi_frames.proofs.step.commands.begin.Goals as goal

pub returns-in-Boot-clause-step : goal.returns-in-Boot-clause-step
returns-in-Boot-clause-step g c =
    rw c.in-Boot.is (leaves_alone (boot_leads (g.T.Tables.tables c.args.tables.now) (g.W.Contents.world c.args.world.now)) (omega arith) refl (tt, tt) tt)

pub returns-in-Begin-clause-step : goal.returns-in-Begin-clause-step
returns-in-Begin-clause-step g c = rw c.in-Begin.is c.begin_request.ensures.step

pub returns-in-End-clause-step : goal.returns-in-End-clause-step
returns-in-End-clause-step g c =
    rw c.in-End.is (map_ok c.end_request.result (λ next h. settled refl h (omega arith)) c.end_request.ensures.step)

pub returns-in-Invalidate-clause-step : goal.returns-in-Invalidate-clause-step
returns-in-Invalidate-clause-step g c = rw c.in-Invalidate.is c.invalidate.ensures.step

pub returns-in-Use-clause-step : goal.returns-in-Use-clause-step
returns-in-Use-clause-step g c = rw c.in-Use.is c.use_bean.ensures.step

pub returns-in-Fire-clause-step : goal.returns-in-Fire-clause-step
returns-in-Fire-clause-step g c = rw c.in-Fire.is c.fire.ensures.step

pub returns-in-Live-clause-step : goal.returns-in-Live-clause-step
returns-in-Live-clause-step g c =
    rw (c.in-Live.is, c.null.ensures) (ends (live_leads (g.T.Tables.tables c.args.tables.now) (g.W.Contents.world c.args.world.now)) (omega arith) refl)

pub returns-in-Shutdown-clause-step : goal.returns-in-Shutdown-clause-step
returns-in-Shutdown-clause-step g c = rw c.in-Shutdown.is c.shut_down.ensures.step
