use Rattle.std.proofs.Common.{refl}
use Rattle.cdi_events.proofs.ContextSteps.{begins}
use Rattle.cdi_events.proofs.contexts.end_session.Goals as goal

pub returns-clause-step : goal.returns-clause-step
returns-clause-step g c =
    rw c.stand_in_session.ensures (begins (g.T.Tables.tables c.args._tables.now) (rw c.in_ok-clone.ensures.cases at c.in_ok-next.ensures) refl refl)
