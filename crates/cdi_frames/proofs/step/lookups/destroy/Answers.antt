use Rattle.std.proofs.Common.{sym, arith}
use Rattle.cdi_steps.proofs.Results.{map_ok}
use Rattle.cdi_steps.proofs.Made.{settles_as, settles_less}
use Rattle.cdi_frames.proofs.LookupSteps.{destroy_refused, destroy_nothing, destroy_busy, destroy_leads}
use Rattle.cdi_frames.proofs.step.lookups.destroy.Goals as goal

pub returns-in-Ok-None : goal.returns-in-Ok-None
returns-in-Ok-None g c =
    map_ok c.answer.result (λ next h. settles_less (omega arith) (settles_as (destroy_nothing (g.T.Tables.tables c.args.tables.now) c.args.running.value c.args.local (g.W.Contents.world c.args.world.now) (rw (c.in-Ok-None.field-0-is, c.local.ensures, c.deref.ensures) at c.in-Ok-None.ensures)) h)) c.answer.ensures

pub returns-in-Err : goal.returns-in-Err
returns-in-Err g c =
    map_ok c.answer-in-Err.result (λ next h. settles_less (omega arith) (settles_as (destroy_refused (g.T.Tables.tables c.args.tables.now) c.args.running.value c.args.local (g.W.Contents.world c.args.world.now) c.in-Err.exception (rw (c.local.ensures, c.deref.ensures) at c.in-Err.ensures)) h)) (rw c.threw.ensures at c.answer-in-Err.ensures)

pub returns-then-not-is_idle : goal.returns-then-not-is_idle
returns-then-not-is_idle g c =
    map_ok c.answer-then-not-is_idle.result (λ next h. settles_less (omega arith) (settles_as (destroy_busy (g.T.Tables.tables c.args.tables.now) c.args.running.value c.args.local (g.W.Contents.world c.args.world.now) c.in-Ok-Some.number (rw (c.in-Ok-Some.field-0-is, c.local.ensures, c.deref.ensures) at c.in-Ok-Some.ensures) (sym c.if-not-is_idle.ensures)) h)) (rw c.missed.ensures at c.answer-then-not-is_idle.ensures)

pub returns : goal.returns
returns g c =
    record {
      settles = destroy_leads (g.T.Tables.tables c.args.tables.now) c.args.running c.args.local c.in-Ok-Some.number (g.W.Contents.world c.args.world.now) (rw (c.in-Ok-Some.field-0-is, c.local.ensures, c.deref.ensures) at c.in-Ok-Some.ensures) (sym c.if-not-is_idle.ensures);
      lowers = omega arith;
      known = λ h. (tt, c.requires);
      invoked = λ h. h;
      quiet = tt;
    }
