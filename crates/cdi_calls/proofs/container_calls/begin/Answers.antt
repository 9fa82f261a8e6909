use Rattle.std.proofs.Common.{refl, arith}
use Rattle.cdi_calls.proofs.CallSteps.{begin_leads}
use Rattle.cdi_steps.proofs.Made.{leaves_alone}
use Rattle.cdi_calls.proofs.container_calls.begin.Goals as goal

pub returns-clause-step : goal.returns-clause-step
returns-clause-step g c =
    rw c.in_ok-borrow.ensures.ok (leaves_alone (begin_leads (g.T.Tables.tables c.args._tables.now) c.args.call (g.W.Contents.world c.args.world.now)) (omega arith) refl (c.requires, tt) tt)
