use Rattle.std.proofs.Common.{refl, arith, ap, map, ◌+◌}
use Rattle.cdi_machine.specs.Told.{point_told}
use Rattle.cdi_host.specs.Asked.{top_of}
use Rattle.cdi_steps.proofs.Made.{leaves_alone}
use Rattle.cdi_steps.proofs.ParameterSteps.{initializer_begins, initializer_parameters, told_start}
use Rattle.cdi_steps.proofs.parameters.begin_initializer.Goals as goal

pub returns : goal.returns
returns g c =
    let at_start = c.in_ok-parameters.ensures in
    leaves_alone
    (initializer_begins (g.T.Tables.tables c.args._tables.now) c.args.number c.args.component c.args.left (c.args.left + 1) (g.W.Contents.world c.args.world.now) c.args._code (map point_told c.args.points.now) c.in_ok-parameters.parameters c.requires.next (ap top_of c.requires.next) (told_start c.args.points.now at_start))
    (rw at_start (omega (arith, c.ranges.left))) refl
    (initializer_parameters (g.T.Tables.tables c.args._tables.now) c.args.number c.args.component c.args.left c.args._code c.args.points.now c.requires.next c.requires.left at_start) tt
