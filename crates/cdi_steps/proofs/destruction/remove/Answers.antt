use Rattle.std.proofs.Common.{refl, arith}
use Rattle.cdi_steps.proofs.DestructionSteps.{remove_leads}
use Rattle.cdi_steps.proofs.Made.{ends}
use Rattle.cdi_steps.proofs.destruction.remove.Goals as goal

pub returns : goal.returns
returns g c = rw (c.null.ensures, c.remove.ensures) (ends (remove_leads (g.T.Tables.tables c.args._tables.now) c.args.number (g.W.Contents.world c.args.world.now)) (omega arith) refl)
