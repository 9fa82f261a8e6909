use Rattle.std.proofs.Common.{refl, arith, rules}
use Rattle.cdi_steps.proofs.InvocationSteps.{invoke_none, invoke_miscounted, invoke_first, invoked_known}
use Rattle.cdi_steps.proofs.Changes.{enter_invoked}
use Rattle.cdi_steps.proofs.Made.{settles_end}
use Rattle.cdi_steps.proofs.invocations.invoke.Goals as goal

pub returns-in_default-clause-step : goal.returns-in_default-clause-step
returns-in_default-clause-step g c =
    rw c.missing.ensures (settles_end (invoke_none (g.T.Tables.tables c.args.tables.now) c.args.number c.args.name c.args.args (g.W.Contents.world c.args.world.now) c.in_default.ensures.found) (omega arith) refl)

pub returns-then-len-method-clause-step : goal.returns-then-len-method-clause-step
returns-then-len-method-clause-step g c =
    rw c.missing-then-len-method.ensures (settles_end (invoke_miscounted (g.T.Tables.tables c.args.tables.now) c.args.number c.args.name c.args.args c.in-Some.method.now (g.W.Contents.world c.args.world.now) c.in-Some.ensures.found (search rules)) (omega arith) refl)

pub returns-clause-step : goal.returns-clause-step
returns-clause-step g c =
    let entered = rw c.one-members.ensures at c.new.ensures in
    rw c.in_ok-enter.ensures.ok (record {
      settles = invoke_first (g.T.Tables.tables c.args.tables.now) c.args.number c.args.name c.args.args c.in-Some.method.now (g.W.Contents.world c.args.world.now) c.in-Some.ensures.found (search rules) entered (rw c.as_slice.ensures at c.in_ok-chain.ensures);
      lowers = omega arith;
      known = λ h. (tt, tt);
      invoked = enter_invoked (invoked_known (g.T.Tables.tables c.args.tables.now) c.args.number c.args.args c.in-Some.method.now c.in-Some.ensures.known entered);
      quiet = tt;
    })
