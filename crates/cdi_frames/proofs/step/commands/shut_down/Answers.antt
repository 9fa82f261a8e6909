use Rattle.std.proofs.Common.{◌∙◌, sym, ap, arith}
use Rattle.cdi_steps.specs.Leads.{next_stop}
use Rattle.cdi_steps.specs.Meanings.{shut_requests}
use Rattle.cdi_steps.proofs.Made.{settled}
use Rattle.cdi_steps.proofs.Results.{map_ok}
use Rattle.cdi_frames.proofs.step.commands.shut_down.Goals as goal

pub returns-clause-step : goal.returns-clause-step
returns-clause-step g c =
    let names = sym c.in_ok-requests.ensures ∙ sym c.in_ok-requests-2.ensures.ok in
    map_ok c.end_requests.result (λ next h. settled (ap (λ ns. next_stop (g.T.Tables.tables c.args.tables.now) (shut_requests ns) (g.W.Contents.world c.args.world.now)) names) h (omega arith)) c.end_requests.ensures.step
