use Rattle.std.proofs.Common.{refl}
use Rattle.cdi_steps.specs.Meanings.{shut_requests}
use Rattle.cdi_events.proofs.ContextSteps.{begins, due_then}
use Rattle.cdi_steps.proofs.Made.{settles_as}
use Rattle.cdi_steps.proofs.Results.{map_ok}
use Rattle.cdi_events.proofs.contexts.end_session_and_requests.Goals as goal

pub returns-in-Some-clause-step : goal.returns-in-Some-clause-step
returns-in-Some-clause-step g c =
    map_ok c.close.result (λ next b. begins (g.T.Tables.tables c.args.tables.now) b (due_then (g.T.Tables.tables c.args.tables.now) (shut_requests c.args.requests.value) (g.W.Contents.world c.args.world.now) (rw c.in-Some.is at c.in_ok-session.ensures.found)) refl) c.close.ensures

pub returns-in-None-clause-step : goal.returns-in-None-clause-step
returns-in-None-clause-step g c =
    map_ok c.end_requests.result (λ next h. settles_as (due_then (g.T.Tables.tables c.args.tables.now) (shut_requests c.args.requests.value) (g.W.Contents.world c.args.world.now) (rw c.in-None.is at c.in_ok-session.ensures.found)) h) c.end_requests.ensures.step
