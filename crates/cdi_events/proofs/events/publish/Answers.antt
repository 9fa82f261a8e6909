use Rattle.std.proofs.Common.{refl, arith}
use Rattle.cdi_events.proofs.EventSteps.{publish_leads}
use Rattle.cdi_steps.proofs.Made.{leaves_alone}
use Rattle.cdi_events.proofs.events.publish.Goals as goal

pub returns : goal.returns
returns g c =
    rw (c.in_ok-entry.ensures, c.deref.ensures) (leaves_alone (publish_leads (g.T.Tables.tables c.args._tables.now) c.args.event (g.W.Contents.world c.args._world.now)) (omega arith) refl tt refl)
