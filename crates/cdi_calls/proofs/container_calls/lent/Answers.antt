use Rattle.std.proofs.Common.{refl, arith}
use Rattle.cdi_calls.proofs.CallSteps.{lent_number, lent_gone, lent_value, lent_none}
use Rattle.cdi_steps.proofs.Made.{ends}
use Rattle.cdi_steps.proofs.Results.{map_ok}
use Rattle.cdi_calls.proofs.container_calls.lent.Goals as goal

pub returns-then-not-stays-clause-step : goal.returns-then-not-stays-clause-step
returns-then-not-stays-clause-step g c =
    rw (c.in-Number.is, c.raised.ensures) (ends (lent_gone (g.T.Tables.tables c.args.tables.now) c.args.call c.in-Number.number (g.W.Contents.world c.args.world.now) c.if-not-stays.ensures) (omega arith) refl)

pub returns-else-not-stays-clause-step : goal.returns-else-not-stays-clause-step
returns-else-not-stays-clause-step g c =
    rw c.in-Number.is
    (map_ok c.call_on.result (λ next h. record {
      leads = lent_number (g.T.Tables.tables c.args.tables.now) c.args.call c.in-Number.number next (g.W.Contents.world c.args.world.now) (g.W.Contents.world c.call_on.new.world) c.if-not-stays.ensures h.leads;
      lowers = h.lowers;
      known = h.known;
      invoked = h.invoked;
      quiet = h.quiet;
    }) c.call_on.ensures.step)

pub returns-in-Result-clause-step : goal.returns-in-Result-clause-step
returns-in-Result-clause-step g c = rw (c.in-Result.is, c.raised-in-Result.ensures) (ends (lent_value (g.T.Tables.tables c.args.tables.now) c.args.call c.in-Result._value (g.W.Contents.world c.args.world.now)) (omega arith) refl)

pub returns-in-Empty-clause-step : goal.returns-in-Empty-clause-step
returns-in-Empty-clause-step g c = rw (c.in-Empty.is, c.raised-in-Empty.ensures) (ends (lent_none (g.T.Tables.tables c.args.tables.now) c.args.call (g.W.Contents.world c.args.world.now)) (omega arith) refl)
