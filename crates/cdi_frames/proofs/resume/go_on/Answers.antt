use Rattle.std.proofs.Common.{refl, arith}
use Rattle.cdi_steps.specs.declared.task.Completion.TheVariants as completions
use Rattle.cdi_steps.proofs.Changes.{exit_invoked, reach_invoked}
use Rattle.cdi_steps.proofs.DestructionSteps.{released_leads}
use Rattle.cdi_steps.proofs.InjectionSteps.{discarded_leads, stepped_leads}
use Rattle.cdi_steps.proofs.ProductSteps.{dropped_leads}
use Rattle.cdi_steps.proofs.Made.{ends, leaves_alone, settled}
use Rattle.cdi_steps.proofs.Results.{map_ok}
use Rattle.cdi_frames.proofs.CommandSteps.{starting_leads, opened_leads}
use Rattle.cdi_frames.proofs.ResumeSteps.{reached_leads, intercepted_leads, stopped_leads, exited_leads, cleaned_up_leads, freeing_leads, dismissing_leads, clearing_leads, returned_leads, told_leads}
use Rattle.cdi_frames.proofs.resume.go_on.Goals as goal

pub returns-in-AtEnd-clause-step : goal.returns-in-AtEnd-clause-step
returns-in-AtEnd-clause-step g c =
    rw (c.in-AtEnd.is, c.reached.ensures.next, c.reached.ensures.world) (record { leads = reached_leads (g.T.Tables.tables c.args.tables.now) c.in-AtEnd.role c.args.given (g.W.Contents.world c.args.world.now); lowers = omega arith; known = λ h. tt; invoked = reach_invoked; quiet = tt })

pub returns-in-Intercepted-clause-step : goal.returns-in-Intercepted-clause-step
returns-in-Intercepted-clause-step g c =
    rw (c.in-Intercepted.is, c.intercepted.ensures) (ends (intercepted_leads (g.T.Tables.tables c.args.tables.now) c.in-Intercepted.role c.args.given (g.W.Contents.world c.args.world.now)) (omega arith) refl)

pub returns-in-Stopping-clause-step : goal.returns-in-Stopping-clause-step
returns-in-Stopping-clause-step g c =
    rw (c.in-Stopping.is, c.stopped.ensures.next, c.stopped.ensures.world) (ends (stopped_leads (g.T.Tables.tables c.args.tables.now) (completions.Gave c.args.given) (g.W.Contents.world c.args.world.now)) (omega arith) refl)

pub returns-in-CleaningUp-clause-step : goal.returns-in-CleaningUp-clause-step
returns-in-CleaningUp-clause-step g c =
    rw (c.in-CleaningUp.is, c.cleaned_up.ensures.next, c.cleaned_up.ensures.world) (record { leads = cleaned_up_leads (g.T.Tables.tables c.args.tables.now) c.in-CleaningUp.number (completions.Gave c.args.given) (g.W.Contents.world c.args.world.now); lowers = omega arith; known = λ h. (tt, tt); invoked = exit_invoked; quiet = tt })

pub returns-in-Discarding-clause-step : goal.returns-in-Discarding-clause-step
returns-in-Discarding-clause-step g c =
    rw (c.in-Discarding.is, c.discarded.ensures) (leaves_alone (discarded_leads (g.T.Tables.tables c.args.tables.now) c.in-Discarding.number c.in-Discarding.exception c.args.given (g.W.Contents.world c.args.world.now)) (omega arith) refl tt refl)

pub returns-in-Releasing-clause-step : goal.returns-in-Releasing-clause-step
returns-in-Releasing-clause-step g c =
    rw (c.in-Releasing.is, c.released.ensures) (leaves_alone (released_leads (g.T.Tables.tables c.args.tables.now) c.in-Releasing.number c.args.given (g.W.Contents.world c.args.world.now)) (omega arith) refl tt refl)

pub returns-in-Freeing-clause-step : goal.returns-in-Freeing-clause-step
returns-in-Freeing-clause-step g c =
    rw c.in-Freeing.is (leaves_alone (freeing_leads (g.T.Tables.tables c.args.tables.now) c.in-Freeing.number c.args.given (g.W.Contents.world c.args.world.now)) (omega arith) refl tt tt)

pub returns-in-Dismissing-clause-step : goal.returns-in-Dismissing-clause-step
returns-in-Dismissing-clause-step g c =
    rw c.in-Dismissing.is (leaves_alone (dismissing_leads (g.T.Tables.tables c.args.tables.now) c.args.given (g.W.Contents.world c.args.world.now)) (omega arith) refl tt tt)

pub returns-in-Exiting-clause-step : goal.returns-in-Exiting-clause-step
returns-in-Exiting-clause-step g c =
    rw (c.in-Exiting.is, c.exited.ensures.next, c.exited.ensures.world) (record { leads = exited_leads (g.T.Tables.tables c.args.tables.now) (completions.Gave c.args.given) (g.W.Contents.world c.args.world.now); lowers = omega arith; known = λ h. tt; invoked = exit_invoked; quiet = tt })

pub returns-in-Returning-clause-step : goal.returns-in-Returning-clause-step
returns-in-Returning-clause-step g c =
    rw (c.in-Returning.is, c.returned.ensures.next, c.returned.ensures.world) (ends (returned_leads (g.T.Tables.tables c.args.tables.now) c.in-Returning.completion c.args.given (g.W.Contents.world c.args.world.now) c.into_inner.ensures) (omega arith) refl)

pub returns-in-Initializing-clause-step : goal.returns-in-Initializing-clause-step
returns-in-Initializing-clause-step g c =
    rw (c.in-Initializing.is, c.starting.ensures) (leaves_alone (starting_leads (g.T.Tables.tables c.args.tables.now) (completions.Gave c.args.given) (g.W.Contents.world c.args.world.now)) (omega arith) refl (tt, tt) tt)

pub returns-in-Answering-clause-step : goal.returns-in-Answering-clause-step
returns-in-Answering-clause-step g c =
    rw c.in-Answering.is (map_ok c.answer.result (λ next h. settled refl h (omega arith)) c.answer.ensures)

pub returns-in-Calling-clause-step : goal.returns-in-Calling-clause-step
returns-in-Calling-clause-step g c =
    rw c.in-Calling.is (map_ok c.run_next.result (λ next h. settled refl h (omega arith)) c.run_next.ensures)

pub returns-in-Stepping-clause-step : goal.returns-in-Stepping-clause-step
returns-in-Stepping-clause-step g c =
    rw (c.in-Stepping.is, c.stepped.ensures) (leaves_alone (stepped_leads (g.T.Tables.tables c.args.tables.now) c.in-Stepping.number c.in-Stepping.component c.in-Stepping.left c.args.given (g.W.Contents.world c.args.world.now)) (omega arith) refl (rw c.in-Stepping.is at c.requires) tt)

pub returns-in-Providing-clause-step : goal.returns-in-Providing-clause-step
returns-in-Providing-clause-step g c =
    rw c.in-Providing.is (map_ok c.provided.result (λ next h. h) c.provided.ensures)

pub returns-in-Constructing-clause-step : goal.returns-in-Constructing-clause-step
returns-in-Constructing-clause-step g c = rw c.in-Constructing.is c.constructed.ensures

pub returns-in-Completing-clause-step : goal.returns-in-Completing-clause-step
returns-in-Completing-clause-step g c = rw c.in-Completing.is c.completed.ensures

pub returns-in-Using-clause-step : goal.returns-in-Using-clause-step
returns-in-Using-clause-step g c = rw c.in-Using.is c.returning.ensures.step

pub returns-in-Clearing-clause-step : goal.returns-in-Clearing-clause-step
returns-in-Clearing-clause-step g c =
    rw c.in-Clearing.is (leaves_alone (clearing_leads (g.T.Tables.tables c.args.tables.now) c.in-Clearing.context c.args.given (g.W.Contents.world c.args.world.now)) (omega arith) refl tt tt)

pub returns-in-Opening-clause-step : goal.returns-in-Opening-clause-step
returns-in-Opening-clause-step g c =
    rw (c.in-Opening.is, c.opened.ensures) (leaves_alone (opened_leads (g.T.Tables.tables c.args.tables.now) (completions.Gave c.args.given) (g.W.Contents.world c.args.world.now)) (omega arith) refl (tt, tt) tt)

pub returns-in-Telling-clause-step : goal.returns-in-Telling-clause-step
returns-in-Telling-clause-step g c =
    rw (c.in-Telling.is, c.null.ensures) (ends (told_leads (g.T.Tables.tables c.args.tables.now) (completions.Gave c.args.given) (g.W.Contents.world c.args.world.now)) (omega arith) refl)

pub returns-in-ShuttingDown-clause-step : goal.returns-in-ShuttingDown-clause-step
returns-in-ShuttingDown-clause-step g c =
    rw c.in-ShuttingDown.is (map_ok c.end_application.result (λ next h. settled refl h (omega arith)) c.end_application.ensures)

pub returns-in-Finishing-clause-step : goal.returns-in-Finishing-clause-step
returns-in-Finishing-clause-step g c =
    rw c.in-Finishing.is (map_ok c.finishing.result (λ next h. settled refl h (omega arith)) c.finishing.ensures.step)

pub returns-in-Emptying-clause-step : goal.returns-in-Emptying-clause-step
returns-in-Emptying-clause-step g c = rw c.in-Emptying.is (settled refl c.emptied.ensures (omega arith))

pub returns-in-Closed-clause-step : goal.returns-in-Closed-clause-step
returns-in-Closed-clause-step g c =
    rw c.in-Closed.is (map_ok c.closed.result (λ next h. settled refl h (omega arith)) c.closed.ensures.step)

pub returns-in-Finding-clause-step : goal.returns-in-Finding-clause-step
returns-in-Finding-clause-step g c = rw c.in-Finding.is c.found_made.ensures

pub returns-in-Producing-clause-step : goal.returns-in-Producing-clause-step
returns-in-Producing-clause-step g c = rw c.in-Producing.is c.produced.ensures

pub returns-in-Dropping-clause-step : goal.returns-in-Dropping-clause-step
returns-in-Dropping-clause-step g c =
    rw (c.in-Dropping.is, c.dropped.ensures) (leaves_alone (dropped_leads (g.T.Tables.tables c.args.tables.now) c.in-Dropping.number c.args.given (g.W.Contents.world c.args.world.now)) (omega arith) refl tt refl)

pub returns-in-Received-clause-step : goal.returns-in-Received-clause-step
returns-in-Received-clause-step g c = rw c.in-Received.is c.received.ensures.step

pub returns-in-Lent-clause-step : goal.returns-in-Lent-clause-step
returns-in-Lent-clause-step g c = rw c.in-Lent.is c.lent.ensures.step

pub returns-in-Supplied-clause-step : goal.returns-in-Supplied-clause-step
returns-in-Supplied-clause-step g c = rw c.in-Supplied.is (map_ok c.supplied.result (λ next h. h) c.supplied.ensures)

pub returns-in-Disposing-clause-step : goal.returns-in-Disposing-clause-step
returns-in-Disposing-clause-step g c = rw c.in-Disposing.is (map_ok c.disposed.result (λ next h. h) c.disposed.ensures)

pub returns-in-Observing-clause-step : goal.returns-in-Observing-clause-step
returns-in-Observing-clause-step g c = rw c.in-Observing.is c.observed.ensures

pub returns-in-Grouping-clause-step : goal.returns-in-Grouping-clause-step
returns-in-Grouping-clause-step g c = rw c.in-Grouping.is (map_ok c.grouped.result (λ next h. h) c.grouped.ensures)
