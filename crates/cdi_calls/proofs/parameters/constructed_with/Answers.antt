use Rattle.std.proofs.Common.{arith}
use Rattle.cdi_steps.proofs.Changes.{exit_invoked}
use Rattle.cdi_steps.proofs.ParameterSteps.{constructed_threw}
use Rattle.cdi_calls.proofs.parameters.constructed_with.Goals as goal

pub returns : goal.returns
returns g c =
    rw (c.fails.ensures, c.exit.ensures) (record {
      leads = constructed_threw (g.T.Tables.tables c.args._tables.now) c.args.number c.args._component c.args._left (g.W.Contents.world c.args.world.now) c.args.exception;
      lowers = omega arith;
      known = λ h. (tt, tt);
      invoked = exit_invoked;
      quiet = tt;
    })
