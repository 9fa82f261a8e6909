use Rattle.std.proofs.Common.{◌-◌, length, refl}
use Rattle.cdi_steps.specs.Parameters.{parameters_of}
use Rattle.cdi_steps.proofs.ParameterSteps.{next_is, next_resolved, next_there}
use Rattle.cdi_calls.proofs.parameters.next_point.Goals as goal

pub returns-clause-there : goal.returns-clause-there
returns-clause-there g c = next_there c.args.step.now c.args.remaining (length (parameters_of c.args.step.now) - c.args.remaining) c.point_at.result c.requires.some c.requires.remaining refl (rw c.points_of-points.ensures at c.point_at.ensures)

pub returns-clause-next : goal.returns-clause-next
returns-clause-next g c = next_is c.args.step.now c.args.remaining (length (parameters_of c.args.step.now) - c.args.remaining) c.point_at.result c.requires.some c.requires.remaining refl (rw c.points_of-points.ensures at c.point_at.ensures)

pub returns-clause-resolved : goal.returns-clause-resolved
returns-clause-resolved g c = next_resolved (g.T.Tables.tables c.args._tables.now).resolve c.args.step.now (length (parameters_of c.args.step.now) - c.args.remaining) c.point_at.result c.requires.resolved (rw c.points_of-points.ensures at c.point_at.ensures)
