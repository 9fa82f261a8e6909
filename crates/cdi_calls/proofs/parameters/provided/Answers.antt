use Rattle.std.proofs.Common.{refl, arith}
use Rattle.cdi_steps.proofs.Made.{leaves_alone}
use Rattle.cdi_steps.proofs.ParameterSteps.{provided_leads, still_parameters}
use Rattle.cdi_calls.proofs.parameters.provided.Goals as goal

pub returns : goal.returns
returns g c =
    let e = rw c.reference_to.ensures at c.in_ok-parameters.ensures in
    leaves_alone (provided_leads (g.T.Tables.tables c.args._tables.now) c.args.parameters (g.W.Contents.world c.args._world.now) c.args.given c.in_ok-parameters.parameters e) (rw e (omega arith)) refl (still_parameters (g.T.Tables.tables c.args._tables.now) c.args.parameters.value c.in_ok-parameters.parameters.value c.args.parameters.value.remaining _ e (omega arith) c.requires) tt
