use Rattle.std.proofs.Common.{refl, arith}
use Rattle.cdi_steps.proofs.Made.{leaves_alone}
use Rattle.cdi_steps.proofs.ProductSteps.{produced_illegal, produced_leads, produced_null}
use Rattle.cdi_steps.proofs.products.hold.Goals as goal

pub returns-then-not-is_null : goal.returns-then-not-is_null
returns-then-not-is_null g c =
    rw (c.ready.ensures, c.hold.ensures) (leaves_alone (produced_leads (g.T.Tables.tables c.args._tables.now) c.args.number c.args.normal c.args.value (g.W.Contents.world c.args.world.now) c.if-not-is_null.ensures) (omega arith) refl tt refl)

pub returns-then-normal : goal.returns-then-normal
returns-then-normal g c =
    rw (c.fails.ensures, c.name.ensures.number) (leaves_alone (produced_illegal (g.T.Tables.tables c.args._tables.now) c.args.number c.args.value (g.W.Contents.world c.args.world.now) c.if-not-is_null.ensures c.if-normal.true) (omega arith) refl (tt, tt) tt)

pub returns : goal.returns
returns g c =
    rw (c.none.ensures, c.hold-2.ensures) (leaves_alone (produced_null (g.T.Tables.tables c.args._tables.now) c.args.number c.args.value (g.W.Contents.world c.args.world.now) c.if-not-is_null.ensures c.if-normal.false) (omega arith) refl (tt, tt) tt)
