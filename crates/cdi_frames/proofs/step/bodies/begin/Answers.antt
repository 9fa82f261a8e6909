use Rattle.std.proofs.Common.{refl, arith, rules}
use Rattle.cdi_frames.proofs.BodySteps.{body_too_deep, body_missing, body_leads}
use Rattle.cdi_steps.proofs.Made.{ends, leaves_alone}
use Rattle.cdi_frames.proofs.step.bodies.begin.Goals as goal

pub returns-then-not-may_go_deeper : goal.returns-then-not-may_go_deeper
returns-then-not-may_go_deeper g c =
    rw c.cut.ensures (ends (body_too_deep (g.T.Tables.tables c.args._tables.now) c.args.running (g.W.Contents.world c.args.world.now) (search rules)) (omega arith) refl)

pub returns-then-is_none : goal.returns-then-is_none
returns-then-is_none g c =
    rw c.missing.ensures (ends (body_missing (g.T.Tables.tables c.args._tables.now) c.args.running (g.W.Contents.world c.args.world.now) (search rules) (search rules)) (omega arith) refl)

pub returns : goal.returns
returns g c =
    rw (c.place.ensures, c.instance-3.ensures, c.deref-2.ensures, c.deref-3.ensures) (leaves_alone (body_leads (g.T.Tables.tables c.args._tables.now) c.args.running (g.W.Contents.world c.args.world.now) (search rules) (search rules)) (omega arith) refl c.requires refl)
