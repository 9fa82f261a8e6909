use Rattle.std.proofs.Common.{arith}
use Rattle.cdi_frames.proofs.BodySteps.{set_missing, set_leads}
use Rattle.cdi_steps.proofs.Results.{map_ok}
use Rattle.cdi_steps.proofs.Made.{settles_as, settles_less}
use Rattle.cdi_frames.proofs.step.bodies.set_field.Goals as goal

pub returns-then-not-has_field-clause-step : goal.returns-then-not-has_field-clause-step
returns-then-not-has_field-clause-step g c =
    map_ok c.answer.result (λ next h. settles_less (omega arith) (settles_as (set_missing (g.T.Tables.tables c.args.tables.now) c.args.running.value c.args.field c.args.value (g.W.Contents.world c.args.world.now) (rw (c.instance-number.ensures, c.deref.ensures) at c.if-not-has_field.ensures)) h)) (rw c.missed.ensures at c.answer.ensures)

pub returns-clause-step : goal.returns-clause-step
returns-clause-step g c =
    let has = rw (c.instance-number.ensures, c.deref.ensures) at c.if-not-has_field.ensures in
    rw (c.assign.ensures, c.instance-number.ensures, c.deref.ensures) (record {
      settles = set_leads (g.T.Tables.tables c.args.tables.now) c.args.running.value c.in_ok-running.running c.args.field c.args.value (g.W.Contents.world c.args.world.now) has c.in_ok-running.ensures;
      lowers = omega arith;
      known = λ h. rw c.in_ok-running.ensures c.requires;
      invoked = λ h. record { all = h.all };
      quiet = tt;
    })
