use Rattle.std.proofs.Common.{refl}
use Rattle.cdi_events.proofs.ContextSteps.{begins_alone, due_alone}
use Rattle.cdi_steps.proofs.Results.{map_ok}
use Rattle.cdi_events.proofs.contexts.end_due_session.Goals as goal

pub returns-in-Some : goal.returns-in-Some
returns-in-Some g c =
    map_ok c.close.result (λ next b. begins_alone (g.T.Tables.tables c.args._tables.now) b (due_alone (g.T.Tables.tables c.args._tables.now) (g.W.Contents.world c.args.world.now) (rw c.in-Some.is at c.in_ok-session.ensures.found)) refl) c.close.ensures
