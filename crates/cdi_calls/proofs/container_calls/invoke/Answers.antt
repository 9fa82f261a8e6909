use Rattle.std.proofs.Common.{refl, arith}
use Rattle.cdi_calls.proofs.CallSteps.{invoke_leads, met}
use Rattle.cdi_steps.specs.ContainerCalls.{member_of}
use Rattle.cdi_steps.proofs.Changes.{enter_invoked}
use Rattle.cdi_calls.proofs.container_calls.invoke.Goals as goal

pub returns-clause-step : goal.returns-clause-step
returns-clause-step g c =
    let found = met (member_of (g.T.Tables.tables c.args._tables.now) c.args.call.value.callee) c.requires.there c.requires.called in
    let entered = rw (c.one-members.ensures, c.into_inner-callee.ensures) at c.new-2.ensures in
    let begun = rw (c.empty.ensures, c.into_inner-callee.ensures) at c.in_ok-new.ensures.ok in
    rw c.in_ok-enter.ensures.ok (record {
      leads = invoke_leads (g.T.Tables.tables c.args._tables.now) c.args.call.value c.args.number found.it c.in_ok-new.field-0 c.new-2.result (g.W.Contents.world c.args.world.now) found.is begun (rw found.meets entered);
      lowers = omega arith;
      known = λ h. (rw begun c.requires.known, tt);
      invoked = enter_invoked (rw entered (record { bodies = (c.requires.body, tt) }));
      quiet = tt;
    })
