use Rattle.std.proofs.Common.{refl, arith}
use Rattle.cdi_machine.specs.Told.{lifecycle_told}
use Rattle.cdi_steps.proofs.Changes.{called_invoked, leave_invocations}
use Rattle.cdi_steps.proofs.DestructionSteps.{leave_missing, leave_free, leave_called, before_destroy_known}
use Rattle.cdi_steps.proofs.DisposerSteps.{leave_disposes}
use Rattle.cdi_steps.proofs.Made.{ends, leaves_alone}
use Rattle.cdi_steps.proofs.ProductSteps.{no_product}
use Rattle.cdi_steps.proofs.destruction.leave.Goals as goal

pub returns-in_default-clause-step : goal.returns-in_default-clause-step
returns-in_default-clause-step g c =
    rw c.missing.ensures (ends (leave_missing (g.T.Tables.tables c.args.tables.now) c.args.number (g.W.Contents.world c.args.world.now) c.in_default.ensures) (omega arith) refl)

pub returns-in-Some-product_of-clause-step : goal.returns-in-Some-product_of-clause-step
returns-in-Some-product_of-clause-step g c =
    rw c.leave.ensures (leave_disposes (g.T.Tables.tables c.args.tables.now) c.args.number c.in-Some-product_of.bean c.in-Some.instance.now c.in_ok-next.next (g.W.Contents.world c.args.world.now) c.in-Some.ensures c.in-Some-product_of.ensures c.in_ok-value.ensures.cases c.in_ok-next.ensures)

pub returns-in_default-callbacks_of-clause-step : goal.returns-in_default-callbacks_of-clause-step
returns-in_default-callbacks_of-clause-step g c =
    rw (c.free.ensures, c.leave-in_default-callbacks_of.ensures)
    (leaves_alone (leave_free (g.T.Tables.tables c.args.tables.now) c.args.number c.in-Some.instance.now (g.W.Contents.world c.args.world.now) c.in-Some.ensures c.in_default-callbacks_of.ensures.found (no_product (g.T.Tables.tables c.args.tables.now) c.in-Some.instance.now.component c.in_default-product_of.ensures)) (omega arith) (leave_invocations c.args.number (g.W.Contents.world c.args.world.now)) (tt, tt) tt)

pub returns-clause-step : goal.returns-clause-step
returns-clause-step g c =
    record {
      leads = rw (c.leave-2.ensures, c.in_ok-enter.ensures.ok) (leave_called (g.T.Tables.tables c.args.tables.now) c.args.number c.in-Some.instance.now (g.W.Contents.world c.args.world.now) c.in-Some.ensures (lifecycle_told c.in-Some-callbacks_of.lifecycle.now) c.in-Some-callbacks_of.ensures.found (rw c.as_slice-callbacks.ensures at c.in_ok-invocation.ensures) (rw c.as_slice.ensures at c.in_ok-chain.ensures));
      lowers = omega arith;
      known = λ h. (tt, tt);
      invoked = called_invoked c.args.number c.in_ok-enter.ensures.ok c.leave-2.ensures (before_destroy_known (g.T.Tables.tables c.args.tables.now) c.args.number c.in-Some-callbacks_of.lifecycle.now.callbacks c.in-Some-callbacks_of.ensures.known (rw c.as_slice-callbacks.ensures at c.in_ok-invocation.ensures));
      quiet = tt;
    }
