use Rattle.std.proofs.Common.{arith}
use Rattle.cdi_machine.specs.Told.{step_told}
use Rattle.cdi_steps.specs.Parameters.{constructs}
use Rattle.cdi_steps.proofs.ParameterSteps.{provided_threw, after_step_invoked}
use Rattle.cdi_calls.proofs.parameters.provided_with.Goals as goal

pub returns : goal.returns
returns g c =
    rw (c.fail.ensures.next, c.fail.ensures.world, c.deref-2.ensures) (record {
      leads = provided_threw (g.T.Tables.tables c.args.tables.now) c.args.parameters (g.W.Contents.world c.args.world.now) (step_told c.in-Some.step.now) c.args.exception (rw c.deref.ensures at c.in-Some.ensures.is);
      lowers = omega arith;
      known = λ h. (tt, tt);
      invoked = after_step_invoked (g.T.Tables.tables c.args.tables.now) (constructs (step_told c.in-Some.step.now));
      quiet = tt;
    })
