use Rattle.std.proofs.Common.{arith}
use Rattle.cdi_frames.proofs.ProceedSteps.{proceed_refused, proceed_leads, replaced_invoked}
use Rattle.cdi_steps.proofs.Made.{settles_as, settles_less}
use Rattle.cdi_steps.proofs.Results.{map_ok}
use Rattle.cdi_frames.proofs.step.proceeding.proceed.Goals as goal

pub returns-in-Some-clause-step : goal.returns-in-Some-clause-step
returns-in-Some-clause-step g c =
    map_ok c.answer.result (λ next h. settles_less (omega arith) (settles_as (proceed_refused (g.T.Tables.tables c.args.tables.now) c.args.running.value c.args.args c.in-Some.exception (g.W.Contents.world c.args.world.now) (rw c.deref.ensures at c.in-Some.ensures)) h)) (rw (c.name.ensures.number, c.having_tried-tried.ensures) at c.answer.ensures)

pub returns-clause-step : goal.returns-clause-step
returns-clause-step g c =
    rw c.replace.ensures (record {
      settles = proceed_leads (g.T.Tables.tables c.args.tables.now) c.args.running.value c.args.args c.having_tried-tried.result (g.W.Contents.world c.args.world.now) (rw c.deref.ensures at c.in_default.ensures) c.having_tried-tried.ensures (rw (c.deref-2.ensures, c.having_tried-tried.ensures) at c.in_ok-chain.ensures);
      lowers = omega arith;
      known = λ h. (tt, rw c.having_tried-tried.ensures c.requires);
      invoked = replaced_invoked c.args.args (g.W.Contents.world c.args.world.now);
      quiet = tt;
    })
