use Rattle.std.proofs.Common.{arith}
use Rattle.cdi_steps.proofs.Results.{map_ok}
use Rattle.cdi_steps.proofs.Made.{settles_as, settles_less}
use Rattle.cdi_frames.proofs.ActSteps.{peek_missing, peek_leads}
use Rattle.cdi_frames.proofs.step.acts.peek.Goals as goal

pub returns-in_default : goal.returns-in_default
returns-in_default g c =
    map_ok c.answer.result (λ next h. settles_less (omega arith) (settles_as (peek_missing (g.T.Tables.tables c.args.tables.now) c.args.running.value c.args.key (g.W.Contents.world c.args.world.now) c.in_default.ensures) h)) (rw c.missed.ensures at c.answer.ensures)

pub returns : goal.returns
returns g c =
    record {
      settles = peek_leads (g.T.Tables.tables c.args.tables.now) c.args.running.value c.in_ok-running.running c.args.key c.in-Some.invocation.now c.in_ok-value.value (g.W.Contents.world c.args.world.now) c.in-Some.ensures c.in_ok-value.ensures c.in_ok-running.ensures;
      lowers = omega arith;
      known = λ h. rw c.in_ok-running.ensures c.requires;
      invoked = λ h. h;
      quiet = tt;
    }
