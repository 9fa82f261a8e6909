use Rattle.std.proofs.Common.{refl, arith, map}
use Rattle.cdi_machine.specs.Told.{lifecycle_told, point_told}
use Rattle.cdi_steps.proofs.Changes.{provide_invoked}
use Rattle.cdi_steps.proofs.ParameterSteps.{construct_taken, takes_initializer}
use Rattle.cdi_steps.proofs.Results.{map_ok}
use Rattle.cdi_calls.proofs.parameters.take.Goals as goal

pub returns-in_ok-chain-in-Construct-clause-step : goal.returns-in_ok-chain-in-Construct-clause-step
returns-in_ok-chain-in-Construct-clause-step g c =
    rw (c.construct.ensures.next, c.construct.ensures.world) (record {
      leads = construct_taken (g.T.Tables.tables c.args.tables.now) c.args.parameters (map point_told c.in-Construct.points) (lifecycle_told c.in-Construct.lifecycle) (g.W.Contents.world c.args.world.now) (rw c.in-Construct.is at c.requires.next) c.requires.all (rw c.as_slice.ensures at c.in_ok-chain-in-Construct.ensures);
      lowers = omega arith;
      known = λ h. (tt, omega (arith, c.requires.next.left));
      invoked = provide_invoked c.args.parameters.value.references;
      quiet = tt;
    })

pub returns-in-Initialize-clause-step : goal.returns-in-Initialize-clause-step
returns-in-Initialize-clause-step g c =
    map_ok c.initialize.result (takes_initializer (g.T.Tables.tables c.args.tables.now) c.args.parameters c.in-Initialize.code (map point_told c.in-Initialize.points) (g.W.Contents.world c.args.world.now) (rw c.in-Initialize.is at c.requires.next) c.requires.all) c.initialize.ensures

pub returns-in-Intercept-clause-step : goal.returns-in-Intercept-clause-step
returns-in-Intercept-clause-step g c = absurd (rw c.in-Intercept.is at c.requires.has)

pub returns-in-Inject-clause-step : goal.returns-in-Inject-clause-step
returns-in-Inject-clause-step g c = absurd (rw c.in-Inject.is at c.requires.has)

pub returns-in-Complete-clause-step : goal.returns-in-Complete-clause-step
returns-in-Complete-clause-step g c = absurd (rw c.in-Complete.is at c.requires.has)
