use Rattle.std.proofs.Common.{◌∙◌, sym, ap}
use Rattle.cdi_steps.specs.Leads.{next_stop}
use Rattle.cdi_steps.specs.Meanings.{shut_sessions}
use Rattle.cdi_events.proofs.ContextSteps.{first_session}
use Rattle.cdi_steps.proofs.Made.{settles_as}
use Rattle.cdi_steps.proofs.Results.{map_ok}
use Rattle.cdi_events.proofs.contexts.end_sessions.Goals as goal

pub returns-clause-step : goal.returns-clause-step
returns-clause-step g c =
    let names = sym c.deref_mut.ensures.value ∙ c.in-Some.ensures in
    map_ok c.end_session.result (λ next h. settles_as (ap (λ ns. next_stop (g.T.Tables.tables c.args.tables.now) (shut_sessions ns) (g.W.Contents.world c.args.world.now)) names ∙ first_session (g.T.Tables.tables c.args.tables.now) c.in-Some.session c.take.new.self (g.W.Contents.world c.args.world.now)) h) c.end_session.ensures.step
