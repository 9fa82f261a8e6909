use Rattle.std.proofs.Common.{arith, ap, map, ◌+◌}
use Rattle.cdi_machine.specs.Told.{lifecycle_told, point_told}
use Rattle.cdi_host.specs.Asked.{top_of}
use Rattle.cdi_steps.proofs.Changes.{enter_invoked}
use Rattle.cdi_steps.proofs.InvocationSteps.{callbacks_known}
use Rattle.cdi_steps.proofs.ParameterSteps.{construction_begins, construction_parameters, told_start}
use Rattle.cdi_steps.proofs.parameters.begin_construction.Goals as goal

pub returns-clause-step : goal.returns-clause-step
returns-clause-step g c =
    let at_start = c.in_ok-parameters.ensures in
    let entered = rw c.as_slice-callbacks.ensures at c.in_ok-invocation.ensures in
    rw c.in_ok-enter.ensures.ok (record {
      leads = construction_begins (g.T.Tables.tables c.args._tables.now) c.args.number c.args.component c.args.left (c.args.left + 1) (g.W.Contents.world c.args.world.now) (map point_told c.args.points.now) (lifecycle_told c.args.lifecycle.now) c.in_ok-parameters.parameters c.requires.next (ap top_of c.requires.next) (told_start c.args.points.now at_start) entered;
      lowers = rw at_start (omega (arith, c.ranges.left));
      known = λ h. construction_parameters (g.T.Tables.tables c.args._tables.now) c.args.number c.args.component c.args.left c.args.points.now (lifecycle_told c.args.lifecycle.now) c.requires.next c.requires.left at_start;
      invoked = enter_invoked (rw entered (record { bodies = callbacks_known (g.T.Tables.tables c.args._tables.now) c.args.lifecycle.now.callbacks c.requires.called }));
      quiet = tt;
    })
