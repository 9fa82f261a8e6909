use Rattle.std.proofs.Common.{refl, arith}
use Rattle.cdi_steps.proofs.ObtainingSteps.{lent_gone, lent_stays}
use Rattle.cdi_steps.proofs.Results.{map_ok}
use Rattle.cdi_steps.proofs.Made.{settles_end, settles_as}
use Rattle.cdi_steps.proofs.obtaining.lent.Goals as goal

pub returns-then-not-stays-clause-step : goal.returns-then-not-stays-clause-step
returns-then-not-stays-clause-step g c =
    rw c.raised.ensures (settles_end (lent_gone (g.T.Tables.tables c.args.tables.now) c.args.number c.args.purpose (g.W.Contents.world c.args.world.now) c.if-not-stays.ensures) (omega arith) refl)

pub returns-clause-step : goal.returns-clause-step
returns-clause-step g c =
    map_ok c.use_instance.result (λ next h. settles_as (lent_stays (g.T.Tables.tables c.args.tables.now) c.args.number c.args.purpose (g.W.Contents.world c.args.world.now) c.if-not-stays.ensures) h) c.use_instance.ensures.step
