use Rattle.std.proofs.Common.{refl, sym, arith}
use Rattle.cdi_steps.proofs.InvocationSteps.{rest_missing, rest_empty, rest_first, rest_several, all_known, member_known}
use Rattle.cdi_steps.proofs.Changes.{reach_invoked}
use Rattle.cdi_steps.proofs.Made.{ends, settled}
use Rattle.cdi_steps.proofs.Results.{map_ok}
use Rattle.cdi_steps.proofs.invocations.run_end.Goals as goal

pub returns-in_default-clause-step : goal.returns-in_default-clause-step
returns-in_default-clause-step g c =
    rw c.missing.ensures (ends (rest_missing (g.T.Tables.tables c.args.tables.now) (g.W.Contents.world c.args.world.now) c.in_default.ensures) (omega arith) refl)

pub returns-in_default-first-clause-step : goal.returns-in_default-first-clause-step
returns-in_default-first-clause-step g c =
    rw (c.null.ensures, c.reach.ensures) (record {
      leads = rest_empty (g.T.Tables.tables c.args.tables.now) c.in-Some.invocation.now (g.W.Contents.world c.args.world.now) c.in-Some.ensures (sym (rw (c.members.ensures) at c.in_default-first.ensures.value));
      lowers = omega arith;
      known = λ h. tt;
      invoked = reach_invoked;
      quiet = tt;
    })

pub run_next-requires : goal.run_next-requires
run_next-requires g c = rw c.in_ok-bodies.ensures (all_known (g.T.Tables.tables c.args.tables.now) c.in-Some.invocation.now (g.W.Contents.world c.args.world.now) c.in-Some.ensures c.requires (omega (arith, rw c.members-2.ensures at c.if-members-gt1.true)))

pub returns-then-members-gt1-clause-step : goal.returns-then-members-gt1-clause-step
returns-then-members-gt1-clause-step g c =
    map_ok c.run_next.result (λ next s. settled (rest_several (g.T.Tables.tables c.args.tables.now) c.in-Some.invocation.now (g.W.Contents.world c.args.world.now) c.in-Some.ensures) (rw c.in_ok-bodies.ensures at s) (omega arith)) c.run_next.ensures

pub returns-clause-step : goal.returns-clause-step
returns-clause-step g c =
    let first = sym (rw (c.members.ensures) at c.in-Some-first.ensures.value) in
    record {
      leads = rest_first (g.T.Tables.tables c.args.tables.now) c.in-Some.invocation.now c.in-Some-first.code.now c.in_ok-running.running c.role-role.result (g.W.Contents.world c.args.world.now) c.in-Some.ensures (omega (arith, rw c.members-2.ensures at c.if-members-gt1.false)) first c.role-role.ensures
          (rw (c.target.ensures, c.parameters.ensures, c.references.ensures) at c.in_ok-running.ensures);
      lowers = omega arith;
      known = λ h. (member_known (g.T.Tables.tables c.args.tables.now) c.in-Some.invocation.now c.in-Some-first.code.now (g.W.Contents.world c.args.world.now) c.in-Some.ensures c.requires first (rw c.in_ok-running.ensures refl), tt);
      invoked = λ h. h;
      quiet = tt;
    }
