use Rattle.std.proofs.Common.{arith}
use Rattle.cdi_steps.proofs.Heads.{is_there}
use Rattle.cdi_steps.proofs.Results.{map_ok}
use Rattle.cdi_steps.proofs.Made.{settles_as, settles_less}
use Rattle.cdi_frames.proofs.LookupSteps.{find_refused, find_missing, find_proxy}
use Rattle.cdi_frames.proofs.step.lookups.find.Goals as goal

pub returns-in-Err : goal.returns-in-Err
returns-in-Err g c =
    map_ok c.answer.result (λ next h. settles_less (omega arith) (settles_as (find_refused (g.T.Tables.tables c.args.tables.now) c.args.running.value c.args.lookup c.in-Err.exception (g.W.Contents.world c.args.world.now) (rw (c.body.ensures, c.deref.ensures) at c.in-Err.ensures)) h)) (rw c.threw.ensures at c.answer.ensures)

pub returns-in_default : goal.returns-in_default
returns-in_default g c =
    map_ok c.answer-in_default.result (λ next h. settles_less (omega arith) (settles_as (find_missing (g.T.Tables.tables c.args.tables.now) c.args.running.value c.args.lookup c.in-Ok.bean (g.W.Contents.world c.args.world.now) (rw (c.body.ensures, c.deref.ensures) at c.in-Ok.ensures) c.in_default.ensures) h)) (rw c.missed.ensures at c.answer-in_default.ensures)

pub returns-then-is_normal : goal.returns-then-is_normal
returns-then-is_normal g c =
    let there = is_there ((g.T.Tables.tables c.args.tables.now).bean c.in-Ok.bean) c.in-Some.head c.in-Some.ensures in
    map_ok c.found.result (λ next h. settles_less (omega arith) (settles_as (find_proxy (g.T.Tables.tables c.args.tables.now) c.args.running.value c.args.lookup c.in-Ok.bean (g.W.Contents.world c.args.world.now) (rw (c.body.ensures, c.deref.ensures) at c.in-Ok.ensures) c.in-Some.head there c.if-is_normal.ensures) h)) c.found.ensures
