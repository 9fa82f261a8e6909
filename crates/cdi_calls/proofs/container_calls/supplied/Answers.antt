use Rattle.std.proofs.Common.{refl, arith}
use Rattle.cdi_calls.proofs.CallSteps.{supplied_leads, supply_lowers, supply_known}
use Rattle.cdi_steps.proofs.Made.{leaves_alone}
use Rattle.cdi_calls.proofs.container_calls.supplied.Goals as goal

pub returns : goal.returns
returns g c =
    let e = rw c.reference_to.ensures at c.in_ok-parameters.ensures.next in
    leaves_alone (supplied_leads (g.T.Tables.tables c.args._tables.now) c.args.parameters (g.W.Contents.world c.args._world.now) c.args.given c.in_ok-parameters.parameters e) (let l = supply_lowers (g.T.Tables.tables c.args._tables.now) c.args.parameters.value c.in_ok-parameters.parameters.value _ e c.in_ok-parameters.ensures.few in omega (arith, l)) refl (supply_known (g.T.Tables.tables c.args._tables.now) c.args.parameters.value c.in_ok-parameters.parameters.value _ e c.requires) tt
