use Rattle.std.proofs.Common.{refl, arith}
use Rattle.cdi_calls.proofs.CallSteps.{call_missing}
use Rattle.cdi_steps.specs.Leads.{Comes}
use Rattle.cdi_steps.proofs.Made.{ends}
use Rattle.cdi_calls.proofs.container_calls.call_on.Goals as goal

pub returns-in_default-member_of-clause-step : goal.returns-in_default-member_of-clause-step
returns-in_default-member_of-clause-step g c =
    rw c.missing.ensures (ends (Comes.same (call_missing (g.T.Tables.tables c.args.tables.now) c.args.call.value c.args.number (g.W.Contents.world c.args.world.now) (rw c.deref.ensures at c.in_default.ensures) (rw c.deref-2.ensures at c.in_default-member_of.ensures.found))) (omega arith) refl)
