use Rattle.std.proofs.Common.{refl, arith}
use Rattle.cdi_calls.proofs.CallSteps.{receive_missing, receive_obtains, receive_makes}
use Rattle.cdi_steps.proofs.Heads.{is_there}
use Rattle.cdi_steps.proofs.Made.{ends, leaves_alone}
use Rattle.cdi_calls.proofs.container_calls.receive.Goals as goal

pub returns-in_default : goal.returns-in_default
returns-in_default g c = rw c.missing.ensures (ends (receive_missing (g.T.Tables.tables c.args.tables.now) c.args.call (g.W.Contents.world c.args._world.now) (rw c.deref.ensures at c.in_default.ensures)) (omega arith) refl)

pub returns-then-is_normal : goal.returns-then-is_normal
returns-then-is_normal g c =
    let there = is_there ((g.T.Tables.tables c.args.tables.now).bean c.args.call.value.declaring) c.in-Some.head (rw c.deref.ensures at c.in-Some.ensures) in
    rw c.deref.ensures (leaves_alone (receive_obtains (g.T.Tables.tables c.args.tables.now) c.args.call c.in-Some.head (g.W.Contents.world c.args._world.now) there c.if-is_normal.ensures) (omega arith) refl (tt, c.requires) tt)

pub returns : goal.returns
returns g c =
    let there = is_there ((g.T.Tables.tables c.args.tables.now).bean c.args.call.value.declaring) c.in-Some.head (rw c.deref.ensures at c.in-Some.ensures) in
    rw c.deref.ensures (leaves_alone (receive_makes (g.T.Tables.tables c.args.tables.now) c.args.call c.in-Some.head (g.W.Contents.world c.args._world.now) there c.if-is_normal.ensures) (omega arith) refl (tt, c.requires) tt)
