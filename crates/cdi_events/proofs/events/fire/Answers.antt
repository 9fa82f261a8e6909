use Rattle.std.proofs.Common.{◌∙◌}
use Rattle.cdi_events.proofs.EventSteps.{fired_as}
use Rattle.cdi_steps.proofs.Results.{map_ok}
use Rattle.cdi_events.proofs.events.fire.Goals as goal

pub returns : goal.returns
returns g c =
    map_ok c.publish.result (λ next h. fired_as (g.T.Tables.tables c.args.tables.now) c.args.event c.in_ok-fired.fired (c.in_ok-fired.ensures ∙ c.in_ok-event_of.ensures) h) c.publish.ensures
