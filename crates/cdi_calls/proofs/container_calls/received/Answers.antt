use Rattle.std.proofs.Common.{refl, arith}
use Rattle.cdi_calls.proofs.CallSteps.{received_number, received_value, received_none}
use Rattle.cdi_steps.proofs.Made.{ends}
use Rattle.cdi_steps.proofs.Results.{map_ok}
use Rattle.cdi_calls.proofs.container_calls.received.Goals as goal

pub returns-in-Number-clause-step : goal.returns-in-Number-clause-step
returns-in-Number-clause-step g c =
    rw c.in-Number.is
    (map_ok c.call_on.result (λ next h. record {
      leads = received_number (g.T.Tables.tables c.args.tables.now) c.args.call c.in-Number.number next (g.W.Contents.world c.args.world.now) (g.W.Contents.world c.call_on.new.world) h.leads;
      lowers = h.lowers;
      known = h.known;
      invoked = h.invoked;
      quiet = h.quiet;
    }) c.call_on.ensures.step)

pub returns-in-Result-clause-step : goal.returns-in-Result-clause-step
returns-in-Result-clause-step g c = rw (c.in-Result.is, c.missing.ensures) (ends (received_value (g.T.Tables.tables c.args.tables.now) c.args.call c.in-Result._value (g.W.Contents.world c.args.world.now)) (omega arith) refl)

pub returns-in-Empty-clause-step : goal.returns-in-Empty-clause-step
returns-in-Empty-clause-step g c = rw (c.in-Empty.is, c.missing-in-Empty.ensures) (ends (received_none (g.T.Tables.tables c.args.tables.now) c.args.call (g.W.Contents.world c.args.world.now)) (omega arith) refl)
