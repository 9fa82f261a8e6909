use Rattle.std.proofs.Common.{refl, arith}
use Rattle.cdi_steps.proofs.DestructionSteps.{dismiss_missing, dismiss_none, dismiss_first}
use Rattle.cdi_steps.proofs.Made.{ends, leaves_alone}
use Rattle.cdi_steps.proofs.destruction.dismiss.Goals as goal

pub returns-in-None : goal.returns-in-None
returns-in-None g c = rw c.missing.ensures (ends (dismiss_missing (g.T.Tables.tables c.args._tables.now) (g.W.Contents.world c.args.world.now) (rw c.in-None.is at c.latest_temporary.ensures)) (omega arith) refl)

pub returns-in-Some-None : goal.returns-in-Some-None
returns-in-Some-None g c = rw c.null.ensures (ends (dismiss_none (g.T.Tables.tables c.args._tables.now) (g.W.Contents.world c.args.world.now) (rw c.in-Some-None.field-0-is at c.in-Some-None.ensures)) (omega arith) refl)

pub returns-in-Some-Some : goal.returns-in-Some-Some
returns-in-Some-Some g c = leaves_alone (dismiss_first (g.T.Tables.tables c.args._tables.now) c.in-Some-Some.number (g.W.Contents.world c.args.world.now) (rw c.in-Some-Some.field-0-is at c.in-Some-Some.ensures)) (omega arith) refl (tt, tt) tt
