use Rattle.std.proofs.Common.{refl, arith}
use Rattle.cdi_events.proofs.ObserverSteps.{observed_leads}
use Rattle.cdi_steps.proofs.Made.{leaves_alone}
use Rattle.cdi_events.proofs.observers.observed.Goals as goal

pub returns : goal.returns
returns g c =
    leaves_alone (observed_leads (g.T.Tables.tables c.args._tables.now) c.args.others c.args._given (g.W.Contents.world c.args._world.now)) (omega arith) refl c.requires tt
