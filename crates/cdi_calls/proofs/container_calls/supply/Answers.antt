use Rattle.std.proofs.Common.{refl, sym, arith}
use Rattle.cdi_machine.specs.Told.{member_told}
use Rattle.cdi_calls.proofs.CallSteps.{has_next, supply_ends, supply_missing, supply_runs}
use Rattle.cdi_steps.proofs.Changes.{provide_invoked}
use Rattle.cdi_steps.proofs.Made.{ends}
use Rattle.cdi_calls.proofs.container_calls.supply.Goals as goal

pub returns-in_default-clause-step : goal.returns-in_default-clause-step
returns-in_default-clause-step g c =
    rw c.missing.ensures (ends (supply_missing (g.T.Tables.tables c.args.tables.now) c.args.parameters (g.W.Contents.world c.args.world.now) (rw c.deref.ensures at c.in_default.ensures.found)) (omega arith) refl)

pub refer-requires-clause-next : goal.refer-requires-clause-next
refer-requires-clause-next g c =
    has_next (g.T.Tables.tables c.args.tables.now) c.args.parameters.value c.in-Some.member.now c.in-Some-get.point.now c.len.result (rw c.deref.ensures at c.in-Some.ensures.found) c.in-Some.ensures.resolved (rw c.deref-2.ensures at c.len.ensures) (sym c.in-Some-get.ensures)

pub returns-in_ok-chain-in-None-clause-step : goal.returns-in_ok-chain-in-None-clause-step
returns-in_ok-chain-in-None-clause-step g c =
    rw (c.run.ensures.next, c.run.ensures.world) (record {
      leads = supply_runs (g.T.Tables.tables c.args.tables.now) c.args.parameters (member_told c.in-Some.member.now) c.in_ok-chain-in-None.chain (g.W.Contents.world c.args.world.now) (rw c.deref.ensures at c.in-Some.ensures.found) (supply_ends (g.T.Tables.tables c.args.tables.now) c.args.parameters.value c.in-Some.member.now c.len.result (rw c.deref-2.ensures at c.len.ensures) (sym c.in-None.ensures)) (rw c.as_slice.ensures at c.in_ok-chain-in-None.ensures);
      lowers = omega arith;
      known = λ h. tt;
      invoked = provide_invoked c.args.parameters.value.references;
      quiet = tt;
    })
