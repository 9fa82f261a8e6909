use Rattle.std.proofs.Common.{refl, arith}
use Rattle.cdi_frames.proofs.BodySteps.{give_leads, throw_leads}
use Rattle.cdi_steps.proofs.Results.{map_ok}
use Rattle.cdi_steps.proofs.Made.{ends, settled}
use Rattle.cdi_frames.proofs.step.bodies.perform.Goals as goal

pub returns-in-Give-clause-step : goal.returns-in-Give-clause-step
returns-in-Give-clause-step g c =
    rw (c.given.ensures, ← c.into_inner-running.ensures, c.in-Give.is) (ends (give_leads (g.T.Tables.tables c.args.tables.now) c.into_inner-running.result.running.value c.in-Give.value (g.W.Contents.world c.args.world.now)) (omega arith) refl)

pub returns-in-Throw-clause-step : goal.returns-in-Throw-clause-step
returns-in-Throw-clause-step g c =
    rw (c.ended.ensures, ← c.into_inner-running.ensures, c.in-Throw.is) (ends (throw_leads (g.T.Tables.tables c.args.tables.now) c.into_inner-running.result.running.value c.in-Throw.exception (g.W.Contents.world c.args.world.now)) (omega arith) refl)

pub returns-in-Set-clause-step : goal.returns-in-Set-clause-step
returns-in-Set-clause-step g c =
    rw (← c.into_inner-running.ensures, c.in-Set.is) (map_ok c.set_field.result (λ next h. settled refl h (omega arith)) c.set_field.ensures.step)

pub returns-in-Own-clause-step : goal.returns-in-Own-clause-step
returns-in-Own-clause-step g c =
    rw (← c.into_inner-running.ensures, c.in-Own.is) (map_ok c.call_own.result (λ next h. settled refl h (omega arith)) c.call_own.ensures)

pub returns-in-Proceed-clause-step : goal.returns-in-Proceed-clause-step
returns-in-Proceed-clause-step g c =
    rw (← c.into_inner-running.ensures, c.in-Proceed.is) (map_ok c.proceed.result (λ next h. settled refl h (omega arith)) c.proceed.ensures.step)

pub returns-in-Call-clause-step : goal.returns-in-Call-clause-step
returns-in-Call-clause-step g c =
    rw (← c.into_inner-running.ensures, c.in-Call.is) c.use_through.ensures

pub returns-in-Read-clause-step : goal.returns-in-Read-clause-step
returns-in-Read-clause-step g c =
    rw (← c.into_inner-running.ensures, c.in-Read.is) c.use_through-in-Read.ensures

pub returns-in-Write-clause-step : goal.returns-in-Write-clause-step
returns-in-Write-clause-step g c =
    rw (← c.into_inner-running.ensures, c.in-Write.is) c.use_through-in-Write.ensures

pub returns-in-Keep-clause-step : goal.returns-in-Keep-clause-step
returns-in-Keep-clause-step g c =
    rw (← c.into_inner-running.ensures, c.in-Keep.is) (map_ok c.keep.result (λ next h. settled refl h (omega arith)) c.keep.ensures.step)

pub returns-in-Peek-clause-step : goal.returns-in-Peek-clause-step
returns-in-Peek-clause-step g c =
    rw (← c.into_inner-running.ensures, c.in-Peek.is) (map_ok c.peek.result (λ next h. settled refl h (omega arith)) c.peek.ensures)

pub returns-in-Fire-clause-step : goal.returns-in-Fire-clause-step
returns-in-Fire-clause-step g c =
    rw (← c.into_inner-running.ensures, c.in-Fire.is) (map_ok c.fire.result (λ next h. settled refl h (omega arith)) c.fire.ensures)

pub returns-in-Find-clause-step : goal.returns-in-Find-clause-step
returns-in-Find-clause-step g c =
    rw (← c.into_inner-running.ensures, c.in-Find.is) (map_ok c.find.result (λ next h. settled refl h (omega arith)) c.find.ensures)

pub returns-in-Destroy-clause-step : goal.returns-in-Destroy-clause-step
returns-in-Destroy-clause-step g c =
    rw (← c.into_inner-running.ensures, c.in-Destroy.is) (map_ok c.destroy.result (λ next h. settled refl h (omega arith)) c.destroy.ensures)
