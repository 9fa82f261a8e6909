use Rattle.std.proofs.Common.{refl, arith}
use Rattle.cdi_steps.proofs.DestructionSteps.{clear_none, clear_first}
use Rattle.cdi_steps.proofs.Made.{ends, leaves_alone}
use Rattle.cdi_steps.proofs.destruction.clear.Goals as goal

pub returns-in-None : goal.returns-in-None
returns-in-None g c = rw c.null.ensures (ends (clear_none (g.T.Tables.tables c.args._tables.now) c.args.context (g.W.Contents.world c.args.world.now) c.in-None.ensures) (omega arith) refl)

pub returns-in-Some : goal.returns-in-Some
returns-in-Some g c = leaves_alone (clear_first (g.T.Tables.tables c.args._tables.now) c.args.context c.in-Some.number (g.W.Contents.world c.args.world.now) c.in-Some.ensures) (omega arith) refl (tt, tt) tt
