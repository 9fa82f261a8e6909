use Rattle.std.proofs.Common.{refl, arith}
use Rattle.cdi_steps.proofs.Made.{leaves_alone}
use Rattle.cdi_steps.proofs.ProductSteps.{produced_number, produced_empty}
use Rattle.cdi_steps.proofs.products.produced.Goals as goal

pub returns-in-Number : goal.returns-in-Number
returns-in-Number g c =
    rw (c.in-Number.is, c.ready.ensures) (leaves_alone (produced_number (g.T.Tables.tables c.args.tables.now) c.args.number c.args.normal c.in-Number._number (g.W.Contents.world c.args.world.now)) (omega arith) refl tt refl)

pub returns-in-Empty : goal.returns-in-Empty
returns-in-Empty g c =
    rw (c.in-Empty.is, c.ready-in-Empty.ensures) (leaves_alone (produced_empty (g.T.Tables.tables c.args.tables.now) c.args.number c.args.normal (g.W.Contents.world c.args.world.now)) (omega arith) refl tt refl)
