use Rattle.std.proofs.Common.{sym, arith}
use Rattle.cdi_steps.proofs.Changes.{exit_invoked}
use Rattle.cdi_steps.proofs.ParameterSteps.{constructed_leads, constructed_missing, constructed_short}
use Rattle.cdi_calls.proofs.parameters.constructed.Goals as goal

pub returns-in-None : goal.returns-in-None
returns-in-None g c =
    rw (c.fails.ensures, c.exit.ensures, c.name.ensures.number) (record {
      leads = constructed_missing (g.T.Tables.tables c.args._tables.now) c.args.number c.args.component c.args.left (g.W.Contents.world c.args.world.now) c.args._given (rw c.in-None.is at c.invocation.ensures);
      lowers = omega arith;
      known = λ h. (tt, tt);
      invoked = exit_invoked;
      quiet = tt;
    })

pub returns-then-not-completed : goal.returns-then-not-completed
returns-then-not-completed g c =
    rw (c.fails-then-not-completed.ensures, c.exit-2.ensures, c.name-then-not-completed.ensures.number) (record {
      leads = constructed_short (g.T.Tables.tables c.args._tables.now) c.args.number c.args.component c.args.left (g.W.Contents.world c.args.world.now) c.args._given c.in-Some.invocation.now (rw c.in-Some.is at c.invocation.ensures) (sym c.if-not-completed.ensures);
      lowers = omega arith;
      known = λ h. (tt, tt);
      invoked = exit_invoked;
      quiet = tt;
    })

pub returns : goal.returns
returns g c =
    rw c.exit-2.ensures (record {
      leads = constructed_leads (g.T.Tables.tables c.args._tables.now) c.args.number c.args.component c.args.left (g.W.Contents.world c.args.world.now) c.args._given c.in-Some.invocation.now (rw c.in-Some.is at c.invocation.ensures) (sym c.if-not-completed.ensures);
      lowers = omega arith;
      known = λ h. c.requires;
      invoked = exit_invoked;
      quiet = tt;
    })
