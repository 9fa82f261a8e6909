use Rattle.std.proofs.Common.{refl}
use Rattle.cdi_events.proofs.ContextSteps.{begins}
use Rattle.cdi_events.proofs.contexts.end_request.Goals as goal

pub returns-clause-step : goal.returns-clause-step
returns-clause-step g c =
    rw c.in_ok-stand_in.ensures.ok (begins (g.T.Tables.tables c.args._tables.now) (rw c.in_ok-clone.ensures.cases at c.in_ok-next.ensures) refl refl)
