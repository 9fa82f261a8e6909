use Rattle.std.proofs.Common.{refl, arith}
use Rattle.cdi_steps.specs.declared.task.Completion.TheVariants as completions
use Rattle.cdi_steps.proofs.Changes.{exit_invoked}
use Rattle.cdi_steps.proofs.DisposerSteps.{disposed_threw}
use Rattle.cdi_steps.proofs.InjectionSteps.{injected_threw, stepped_threw}
use Rattle.cdi_steps.proofs.ProductSteps.{produced_threw}
use Rattle.cdi_steps.proofs.Made.{ends, leaves_alone, settled}
use Rattle.cdi_steps.proofs.Ranks.{thrown_above}
use Rattle.cdi_steps.proofs.Results.{map_ok}
use Rattle.cdi_frames.proofs.CommandSteps.{starting_leads, opened_leads}
use Rattle.cdi_frames.proofs.ResumeSteps.{stopped_leads, exited_leads, cleaned_up_leads, threw_at_return, told_leads, threw_leads}
use Rattle.cdi_frames.proofs.resume.go_on_after.Goals as goal

pub returns-in-Stopping-clause-step : goal.returns-in-Stopping-clause-step
returns-in-Stopping-clause-step g c =
    rw (c.in-Stopping.is, c.stopped.ensures.next, c.stopped.ensures.world) (ends (stopped_leads (g.T.Tables.tables c.args.tables.now) (completions.Threw c.args.exception) (g.W.Contents.world c.args.world.now)) (omega arith) refl)

pub returns-in-CleaningUp-clause-step : goal.returns-in-CleaningUp-clause-step
returns-in-CleaningUp-clause-step g c =
    rw (c.in-CleaningUp.is, c.cleaned_up.ensures.next, c.cleaned_up.ensures.world) (record { leads = cleaned_up_leads (g.T.Tables.tables c.args.tables.now) c.in-CleaningUp.number (completions.Threw c.args.exception) (g.W.Contents.world c.args.world.now); lowers = omega arith; known = λ h. (tt, tt); invoked = exit_invoked; quiet = tt })

pub returns-in-Exiting-clause-step : goal.returns-in-Exiting-clause-step
returns-in-Exiting-clause-step g c =
    rw (c.in-Exiting.is, c.exited.ensures.next, c.exited.ensures.world) (record { leads = exited_leads (g.T.Tables.tables c.args.tables.now) (completions.Threw c.args.exception) (g.W.Contents.world c.args.world.now); lowers = omega arith; known = λ h. tt; invoked = exit_invoked; quiet = tt })

pub returns-in-Initializing-clause-step : goal.returns-in-Initializing-clause-step
returns-in-Initializing-clause-step g c =
    rw (c.in-Initializing.is, c.starting.ensures) (leaves_alone (starting_leads (g.T.Tables.tables c.args.tables.now) (completions.Threw c.args.exception) (g.W.Contents.world c.args.world.now)) (omega arith) refl (tt, tt) tt)

pub returns-in-Returning-clause-step : goal.returns-in-Returning-clause-step
returns-in-Returning-clause-step g c =
    rw (c.in-Returning.is, c.returned.ensures.next, c.returned.ensures.world) (ends (threw_at_return (g.T.Tables.tables c.args.tables.now) c.in-Returning._completion c.args.exception (g.W.Contents.world c.args.world.now)) (omega arith) refl)

pub returns-in-Injecting-clause-step : goal.returns-in-Injecting-clause-step
returns-in-Injecting-clause-step g c =
    rw (c.in-Injecting.is, c.fails.ensures) (leaves_alone (injected_threw (g.T.Tables.tables c.args.tables.now) c.in-Injecting.number c.in-Injecting._component c.in-Injecting._left c.in-Injecting._field c.args.exception (g.W.Contents.world c.args.world.now)) (omega arith) refl (tt, tt) tt)

pub returns-in-Answering-clause-step : goal.returns-in-Answering-clause-step
returns-in-Answering-clause-step g c =
    rw c.in-Answering.is (map_ok c.answer.result (λ next h. settled refl h (omega arith)) c.answer.ensures)

pub returns-in-Stepping-clause-step : goal.returns-in-Stepping-clause-step
returns-in-Stepping-clause-step g c =
    rw (c.in-Stepping.is, c.fails-in-Stepping.ensures) (leaves_alone (stepped_threw (g.T.Tables.tables c.args.tables.now) c.in-Stepping.number c.in-Stepping._component c.in-Stepping._left c.args.exception (g.W.Contents.world c.args.world.now)) (omega arith) refl (tt, tt) tt)

pub returns-in-Completing-clause-step : goal.returns-in-Completing-clause-step
returns-in-Completing-clause-step g c = rw c.in-Completing.is c.completed_with.ensures

pub returns-in-Using-clause-step : goal.returns-in-Using-clause-step
returns-in-Using-clause-step g c = rw c.in-Using.is c.returning.ensures.step

pub returns-in-Opening-clause-step : goal.returns-in-Opening-clause-step
returns-in-Opening-clause-step g c =
    rw (c.in-Opening.is, c.opened.ensures) (leaves_alone (opened_leads (g.T.Tables.tables c.args.tables.now) (completions.Threw c.args.exception) (g.W.Contents.world c.args.world.now)) (omega arith) refl (tt, tt) tt)

pub returns-in-Telling-clause-step : goal.returns-in-Telling-clause-step
returns-in-Telling-clause-step g c =
    rw (c.in-Telling.is, c.null.ensures) (ends (told_leads (g.T.Tables.tables c.args.tables.now) (completions.Threw c.args.exception) (g.W.Contents.world c.args.world.now)) (omega arith) refl)

pub returns-in-ShuttingDown-clause-step : goal.returns-in-ShuttingDown-clause-step
returns-in-ShuttingDown-clause-step g c =
    rw c.in-ShuttingDown.is (map_ok c.end_application.result (λ next h. settled refl h (omega arith)) c.end_application.ensures)

pub returns-in-Finishing-clause-step : goal.returns-in-Finishing-clause-step
returns-in-Finishing-clause-step g c =
    rw c.in-Finishing.is (map_ok c.finishing.result (λ next h. settled refl h (omega arith)) c.finishing.ensures.step)

pub returns-in-Closed-clause-step : goal.returns-in-Closed-clause-step
returns-in-Closed-clause-step g c =
    rw c.in-Closed.is (map_ok c.closed.result (λ next h. settled refl h (omega arith)) c.closed.ensures.step)

pub returns-in-Providing-clause-step : goal.returns-in-Providing-clause-step
returns-in-Providing-clause-step g c = rw c.in-Providing.is c.provided_with.ensures

pub returns-in-Constructing-clause-step : goal.returns-in-Constructing-clause-step
returns-in-Constructing-clause-step g c = rw c.in-Constructing.is c.constructed_with.ensures

pub returns-clause-step : goal.returns-clause-step
returns-clause-step g c =
    let d = c.in_default in
    rw c.ended.ensures (ends (threw_leads (g.T.Tables.tables c.args.tables.now) c.args.exception c.args.frame (g.W.Contents.world c.args.world.now) (record {
      stopping = d.not-Stopping;
      answering = d.not-Answering;
      cleaning_up = d.not-CleaningUp;
      exiting = d.not-Exiting;
      using = d.not-Using;
      returning = d.not-Returning;
      initializing = d.not-Initializing;
      opening = d.not-Opening;
      telling = d.not-Telling;
      shutting_down = d.not-ShuttingDown;
      finishing = d.not-Finishing;
      closed = d.not-Closed;
      injecting = d.not-Injecting;
      completing = d.not-Completing;
      stepping = d.not-Stepping;
      finding = d.not-Finding;
      providing = d.not-Providing;
      constructing = d.not-Constructing;
      producing = d.not-Producing;
      disposing = d.not-Disposing;
      observing = d.not-Observing;
    })) (thrown_above c.args.frame) refl)

pub returns-in-Finding-clause-step : goal.returns-in-Finding-clause-step
returns-in-Finding-clause-step g c =
    rw c.in-Finding.is (map_ok c.answer-in-Finding.result (λ next h. settled refl h (omega arith)) c.answer-in-Finding.ensures)

pub returns-in-Producing-clause-step : goal.returns-in-Producing-clause-step
returns-in-Producing-clause-step g c =
    rw (c.in-Producing.is, c.fails-in-Producing.ensures) (leaves_alone (produced_threw (g.T.Tables.tables c.args.tables.now) c.in-Producing.number c.in-Producing._normal c.args.exception (g.W.Contents.world c.args.world.now)) (omega arith) refl (tt, tt) tt)

pub returns-in-Disposing-clause-step : goal.returns-in-Disposing-clause-step
returns-in-Disposing-clause-step g c =
    rw (c.in-Disposing.is, c.free.ensures, c.deref.ensures) (leaves_alone (disposed_threw (g.T.Tables.tables c.args.tables.now) c.in-Disposing.disposal c.args.exception (g.W.Contents.world c.args.world.now)) (omega arith) refl (tt, tt) tt)

pub returns-in-Observing-clause-step : goal.returns-in-Observing-clause-step
returns-in-Observing-clause-step g c = rw c.in-Observing.is c.observed_with.ensures
