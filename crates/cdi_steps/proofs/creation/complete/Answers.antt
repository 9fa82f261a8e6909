use Rattle.std.proofs.Common.{◌+◌, arith}
use Rattle.cdi_machine.specs.Told.{lifecycle_told}
use Rattle.cdi_steps.proofs.Changes.{enter_invoked}
use Rattle.cdi_steps.proofs.InjectionSteps.{complete_leads}
use Rattle.cdi_steps.proofs.InvocationSteps.{callbacks_known}
use Rattle.cdi_steps.proofs.creation.complete.Goals as goal

pub returns-clause-step : goal.returns-clause-step
returns-clause-step g c =
    rw c.in_ok-enter.ensures.ok (record {
      leads = complete_leads (g.T.Tables.tables c.args._tables.now) c.args.number c.args.component c.args.left (c.args.left + 1) (lifecycle_told c.args.lifecycle.now) (g.W.Contents.world c.args.world.now) c.requires.next (rw c.as_slice-callbacks.ensures at c.in_ok-invocation.ensures) (rw c.as_slice.ensures at c.in_ok-chain.ensures);
      lowers = (omega (arith, c.ranges.left));
      known = λ h. (tt, c.requires.known);
      invoked = enter_invoked (rw (c.in_ok-invocation.ensures, c.as_slice-callbacks.ensures) (record { bodies = callbacks_known (g.T.Tables.tables c.args._tables.now) c.args.lifecycle.now.callbacks c.requires.called }));
      quiet = tt;
    })
