use Rattle.std.proofs.Common.{refl, arith}
use Rattle.cdi_calls.proofs.CallSteps.{refer_nothing, refer_many, refer_missing, refer_proxy, refer_dependent, supply_lowers, supply_known}
use Rattle.cdi_steps.proofs.Heads.{is_there}
use Rattle.cdi_steps.proofs.Made.{ends, leaves_alone}
use Rattle.cdi_calls.proofs.container_calls.refer.Goals as goal

pub returns-in-Nothing : goal.returns-in-Nothing
returns-in-Nothing g c =
    rw c.raised.ensures (ends (refer_nothing (g.T.Tables.tables c.args.tables.now) c.args.parameters (g.W.Contents.world c.args._world.now) (rw c.in-Nothing.is at c.requires.next)) (omega arith) refl)

pub returns-in-Many : goal.returns-in-Many
returns-in-Many g c =
    rw c.raised-in-Many.ensures (ends (refer_many (g.T.Tables.tables c.args.tables.now) c.args.parameters (g.W.Contents.world c.args._world.now) (rw c.in-Many.is at c.requires.next)) (omega arith) refl)

pub returns-in_default : goal.returns-in_default
returns-in_default g c =
    rw c.missing.ensures (ends (refer_missing (g.T.Tables.tables c.args.tables.now) c.args.parameters (g.W.Contents.world c.args._world.now) c.in-One.bean (rw c.in-One.is at c.requires.next) c.in_default.ensures) (omega arith) refl)

pub returns-then-is_normal : goal.returns-then-is_normal
returns-then-is_normal g c =
    let there = is_there ((g.T.Tables.tables c.args.tables.now).bean c.in-One.bean) c.in-Some.head c.in-Some.ensures in
    let e = c.in_ok-parameters.ensures.next in
    leaves_alone (refer_proxy (g.T.Tables.tables c.args.tables.now) c.args.parameters (g.W.Contents.world c.args._world.now) c.in-One.bean c.in-Some.head c.in_ok-parameters.parameters (rw c.in-One.is at c.requires.next) there c.if-is_normal.ensures e) (let l = supply_lowers (g.T.Tables.tables c.args.tables.now) c.args.parameters.value c.in_ok-parameters.parameters.value _ e c.in_ok-parameters.ensures.few in omega (arith, l)) refl (supply_known (g.T.Tables.tables c.args.tables.now) c.args.parameters.value c.in_ok-parameters.parameters.value _ e c.requires.known) tt

pub returns : goal.returns
returns g c =
    let there = is_there ((g.T.Tables.tables c.args.tables.now).bean c.in-One.bean) c.in-Some.head c.in-Some.ensures in
    rw (c.owner_of-owner.ensures, c.deref.ensures) (leaves_alone (refer_dependent (g.T.Tables.tables c.args.tables.now) c.args.parameters (g.W.Contents.world c.args._world.now) c.in-One.bean c.in-Some.head (rw c.in-One.is at c.requires.next) there c.if-is_normal.ensures) (omega arith) refl (tt, c.requires.known) tt)
