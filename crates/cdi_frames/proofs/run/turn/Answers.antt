use Rattle.std.proofs.Common.{◌∙◌, rules, refl}
use Rattle.cdi_steps.proofs.Driving.{narrows_self, narrows_trans, still_drives, passed_on, starves_alone}
use Rattle.cdi_steps.proofs.Made.{driven}
use Rattle.cdi_steps.specs.declared.task.Call.TheVariants as calls
use Rattle.cdi_steps.specs.declared.task.Continuation.TheVariants as continuations
use Rattle.cdi_steps.specs.declared.task.Task.TheVariants as tasks
use Rattle.cdi_frames.specs.Stacks.{Steps}
use Rattle.cdi_frames.proofs.Loads.{grown_same}
use Rattle.cdi_frames.proofs.Hearing.{hears_here}
use Rattle.cdi_frames.proofs.Turning.{task_is, call_is, entry_is, goes_done, goes_moves, needs_done, frame_done, entry_done, entry_full, follows_done, over_turned, over_hears, fails_turned, fails_failed, goes_lowers, needs_lowers, frame_lowers, entry_lowers, full_lowers}
use Rattle.cdi_frames.proofs.run.turn.Goals as goal

pub steps-init : goal.steps-init
steps-init g c = record {
  narrows = narrows_self;
  here = rw (c.ahead-next.ensures c.args.stack.frames) (record {
    so_far = Steps.stays;
    known = c.requires.known;
    hears = hears_here _ c.args.stack (g.W.Contents.world c.args.world.now);
    grown = grown_same c.args.most refl;
  });
  first = search rules;
}

-- ---- a task

pub returns-in_err-next-in-Rest-clause-turned : goal.returns-in_err-next-in-Rest-clause-turned
returns-in_err-next-in-Rest-clause-turned g c = fails_turned c.steps.invariant.here _ c.in_err-next-in-Rest.ensures.kept c.from_residual.result (search rules)

pub returns-in_err-next-in-Rest-clause-failed : goal.returns-in_err-next-in-Rest-clause-failed
returns-in_err-next-in-Rest-clause-failed g c = passed_on _ c.from_residual.result (fails_failed c.steps.invariant.here _ c.in_err-next-in-Rest.ensures.kept starves_alone c.steps.invariant.narrows.may_end) c.from_residual.ensures

pub steps-preserved-in-Rest : goal.steps-preserved-in-Rest
steps-preserved-in-Rest g c = record {
  narrows = c.steps.invariant.narrows;
  here = goes_moves c.steps.invariant.narrows.legal c.steps.frames c.steps.next _ (tasks.Start (calls.Rest c.in-Rest.chain)) _ (call_is c.in-Goes.is c.in-Start.is c.in-Rest.is) c.steps.invariant.here c.in_ok-next-in-Rest.ensures.step;
  first = c.steps.invariant.first;
}

pub steps-smaller-in-Rest : goal.steps-smaller-in-Rest
steps-smaller-in-Rest g c = goes_lowers c.steps.frames c.steps.next _ (tasks.Start (calls.Rest c.in-Rest.chain)) (call_is c.in-Goes.is c.in-Start.is c.in-Rest.is) (driven (g.D.Driver.legal c.args.driver.now) c.in_ok-next-in-Rest.ensures.step)

pub steps-preserved-in-Body : goal.steps-preserved-in-Body
steps-preserved-in-Body g c = record {
  narrows = c.steps.invariant.narrows;
  here = goes_moves c.steps.invariant.narrows.legal c.steps.frames c.steps.next _ (tasks.Start (calls.Body c.in-Body.running)) _ (call_is c.in-Goes.is c.in-Start.is c.in-Body.is) c.steps.invariant.here c.begin-next.ensures;
  first = c.steps.invariant.first;
}

pub steps-smaller-in-Body : goal.steps-smaller-in-Body
steps-smaller-in-Body g c = goes_lowers c.steps.frames c.steps.next _ (tasks.Start (calls.Body c.in-Body.running)) (call_is c.in-Goes.is c.in-Start.is c.in-Body.is) (driven (g.D.Driver.legal c.args.driver.now) c.begin-next.ensures)

pub act-requires-clause-drives : goal.act-requires-clause-drives
act-requires-clause-drives g c = still_drives c.steps.invariant.narrows c.requires.drives

pub returns-in_err-next-in-Acts-clause-turned : goal.returns-in_err-next-in-Acts-clause-turned
returns-in_err-next-in-Acts-clause-turned g c = fails_turned c.steps.invariant.here _ refl c.from_residual-in_err-next-in-Acts.result (search rules)

pub returns-in_err-next-in-Acts-clause-failed : goal.returns-in_err-next-in-Acts-clause-failed
returns-in_err-next-in-Acts-clause-failed g c = passed_on _ c.from_residual-in_err-next-in-Acts.result (fails_failed c.steps.invariant.here _ refl c.in_err-next-in-Acts.ensures.failed c.steps.invariant.narrows.may_end) c.from_residual-in_err-next-in-Acts.ensures

pub steps-preserved-in-Acts : goal.steps-preserved-in-Acts
steps-preserved-in-Acts g c = record {
  narrows = narrows_trans c.steps.invariant.narrows c.in_ok-next-in-Acts.ensures.narrows;
  here = goes_done c.steps.invariant.narrows.legal c.steps.frames c.steps.next _ (tasks.Start (calls.Acts c.in-Acts.running)) _ (call_is c.in-Goes.is c.in-Start.is c.in-Acts.is) c.steps.invariant.here c.in_ok-next-in-Acts.ensures.step c.in_ok-next-in-Acts.ensures.asked;
  first = c.steps.invariant.first;
}

pub steps-smaller-in-Acts : goal.steps-smaller-in-Acts
steps-smaller-in-Acts g c = goes_lowers c.steps.frames c.steps.next _ (tasks.Start (calls.Acts c.in-Acts.running)) (call_is c.in-Goes.is c.in-Start.is c.in-Acts.is) c.in_ok-next-in-Acts.ensures.step

pub returns-in_err-next-in-Create-clause-turned : goal.returns-in_err-next-in-Create-clause-turned
returns-in_err-next-in-Create-clause-turned g c = fails_turned c.steps.invariant.here _ refl c.from_residual-in_err-next-in-Create.result (search rules)

pub returns-in_err-next-in-Create-clause-failed : goal.returns-in_err-next-in-Create-clause-failed
returns-in_err-next-in-Create-clause-failed g c = passed_on _ c.from_residual-in_err-next-in-Create.result (fails_failed c.steps.invariant.here _ refl starves_alone c.steps.invariant.narrows.may_end) c.from_residual-in_err-next-in-Create.ensures

pub steps-preserved-in-Create : goal.steps-preserved-in-Create
steps-preserved-in-Create g c = record {
  narrows = c.steps.invariant.narrows;
  here = goes_moves c.steps.invariant.narrows.legal c.steps.frames c.steps.next _ (tasks.Start (calls.Create c.in-Create.bean c.in-Create.owner)) _ (call_is c.in-Goes.is c.in-Start.is c.in-Create.is) c.steps.invariant.here c.in_ok-next-in-Create.ensures;
  first = c.steps.invariant.first;
}

pub steps-smaller-in-Create : goal.steps-smaller-in-Create
steps-smaller-in-Create g c = goes_lowers c.steps.frames c.steps.next _ (tasks.Start (calls.Create c.in-Create.bean c.in-Create.owner)) (call_is c.in-Goes.is c.in-Start.is c.in-Create.is) (driven (g.D.Driver.legal c.args.driver.now) c.in_ok-next-in-Create.ensures)

pub steps-preserved-in-Destroy : goal.steps-preserved-in-Destroy
steps-preserved-in-Destroy g c = record {
  narrows = c.steps.invariant.narrows;
  here = goes_moves c.steps.invariant.narrows.legal c.steps.frames c.steps.next _ (tasks.Start (calls.Destroy c.in-Destroy.number)) _ (call_is c.in-Goes.is c.in-Start.is c.in-Destroy.is) c.steps.invariant.here c.destroy-next.ensures;
  first = c.steps.invariant.first;
}

pub steps-smaller-in-Destroy : goal.steps-smaller-in-Destroy
steps-smaller-in-Destroy g c = goes_lowers c.steps.frames c.steps.next _ (tasks.Start (calls.Destroy c.in-Destroy.number)) (call_is c.in-Goes.is c.in-Start.is c.in-Destroy.is) (driven (g.D.Driver.legal c.args.driver.now) c.destroy-next.ensures)

pub returns-in_err-next-in-Release-clause-turned : goal.returns-in_err-next-in-Release-clause-turned
returns-in_err-next-in-Release-clause-turned g c = fails_turned c.steps.invariant.here _ refl c.from_residual-in_err-next-in-Release.result (search rules)

pub returns-in_err-next-in-Release-clause-failed : goal.returns-in_err-next-in-Release-clause-failed
returns-in_err-next-in-Release-clause-failed g c = passed_on _ c.from_residual-in_err-next-in-Release.result (fails_failed c.steps.invariant.here _ refl c.in_err-next-in-Release.ensures.failed c.steps.invariant.narrows.may_end) c.from_residual-in_err-next-in-Release.ensures

pub steps-preserved-in-Release : goal.steps-preserved-in-Release
steps-preserved-in-Release g c = record {
  narrows = narrows_trans c.steps.invariant.narrows c.in_ok-next-in-Release.ensures.narrows;
  here = goes_done c.steps.invariant.narrows.legal c.steps.frames c.steps.next _ (tasks.Start (calls.Release c.in-Release.number)) _ (call_is c.in-Goes.is c.in-Start.is c.in-Release.is) c.steps.invariant.here c.in_ok-next-in-Release.ensures.step c.in_ok-next-in-Release.ensures.asked;
  first = c.steps.invariant.first;
}

pub steps-smaller-in-Release : goal.steps-smaller-in-Release
steps-smaller-in-Release g c = goes_lowers c.steps.frames c.steps.next _ (tasks.Start (calls.Release c.in-Release.number)) (call_is c.in-Goes.is c.in-Start.is c.in-Release.is) c.in_ok-next-in-Release.ensures.step

pub returns-in_err-next-in_default-call-clause-turned : goal.returns-in_err-next-in_default-call-clause-turned
returns-in_err-next-in_default-call-clause-turned g c = fails_turned c.steps.invariant.here _ c.in_err-next-in_default-call.ensures.kept c.from_residual-in_err-next-in_default-call.result (search rules)

pub returns-in_err-next-in_default-call-clause-failed : goal.returns-in_err-next-in_default-call-clause-failed
returns-in_err-next-in_default-call-clause-failed g c = passed_on _ c.from_residual-in_err-next-in_default-call.result (fails_failed c.steps.invariant.here _ c.in_err-next-in_default-call.ensures.kept c.in_err-next-in_default-call.ensures.failed c.steps.invariant.narrows.may_end) c.from_residual-in_err-next-in_default-call.ensures

pub steps-preserved-in_default-call : goal.steps-preserved-in_default-call
steps-preserved-in_default-call g c = record {
  narrows = narrows_trans c.steps.invariant.narrows c.in_ok-next-in_default-call.ensures.narrows;
  here = goes_done c.steps.invariant.narrows.legal c.steps.frames c.steps.next _ (tasks.Start c.in-Start.call) _ (call_is c.in-Goes.is c.in-Start.is refl) c.steps.invariant.here c.in_ok-next-in_default-call.ensures.step c.in_ok-next-in_default-call.ensures.asked;
  first = c.steps.invariant.first;
}

pub steps-smaller-in_default-call : goal.steps-smaller-in_default-call
steps-smaller-in_default-call g c = goes_lowers c.steps.frames c.steps.next _ (tasks.Start c.in-Start.call) (call_is c.in-Goes.is c.in-Start.is refl) c.in_ok-next-in_default-call.ensures.step

pub returns-in_err-next-in-Creating-clause-turned : goal.returns-in_err-next-in-Creating-clause-turned
returns-in_err-next-in-Creating-clause-turned g c = fails_turned c.steps.invariant.here _ c.in_err-next-in-Creating.ensures.kept c.from_residual-in_err-next-in-Creating.result (search rules)

pub returns-in_err-next-in-Creating-clause-failed : goal.returns-in_err-next-in-Creating-clause-failed
returns-in_err-next-in-Creating-clause-failed g c = passed_on _ c.from_residual-in_err-next-in-Creating.result (fails_failed c.steps.invariant.here _ c.in_err-next-in-Creating.ensures.kept starves_alone c.steps.invariant.narrows.may_end) c.from_residual-in_err-next-in-Creating.ensures

pub steps-preserved-in-Creating : goal.steps-preserved-in-Creating
steps-preserved-in-Creating g c = record {
  narrows = c.steps.invariant.narrows;
  here = goes_moves c.steps.invariant.narrows.legal c.steps.frames c.steps.next _ (tasks.Creating c.in-Creating.number c.in-Creating.component c.in-Creating.left) _ (task_is c.in-Goes.is c.in-Creating.is) c.steps.invariant.here c.in_ok-next-in-Creating.ensures.step;
  first = c.steps.invariant.first;
}

pub steps-smaller-in-Creating : goal.steps-smaller-in-Creating
steps-smaller-in-Creating g c = goes_lowers c.steps.frames c.steps.next _ (tasks.Creating c.in-Creating.number c.in-Creating.component c.in-Creating.left) (task_is c.in-Goes.is c.in-Creating.is) (driven (g.D.Driver.legal c.args.driver.now) c.in_ok-next-in-Creating.ensures.step)

pub returns-in_err-next-in-Through-clause-turned : goal.returns-in_err-next-in-Through-clause-turned
returns-in_err-next-in-Through-clause-turned g c = fails_turned c.steps.invariant.here _ c.in_err-next-in-Through.ensures.kept c.from_residual-in_err-next-in-Through.result (search rules)

pub returns-in_err-next-in-Through-clause-failed : goal.returns-in_err-next-in-Through-clause-failed
returns-in_err-next-in-Through-clause-failed g c = passed_on _ c.from_residual-in_err-next-in-Through.result (fails_failed c.steps.invariant.here _ c.in_err-next-in-Through.ensures.kept starves_alone c.steps.invariant.narrows.may_end) c.from_residual-in_err-next-in-Through.ensures

pub steps-preserved-in-Through : goal.steps-preserved-in-Through
steps-preserved-in-Through g c = record {
  narrows = c.steps.invariant.narrows;
  here = goes_moves c.steps.invariant.narrows.legal c.steps.frames c.steps.next _ (tasks.Through c.in-Through.used) _ (task_is c.in-Goes.is c.in-Through.is) c.steps.invariant.here c.in_ok-next-in-Through.ensures.step;
  first = c.steps.invariant.first;
}

pub steps-smaller-in-Through : goal.steps-smaller-in-Through
steps-smaller-in-Through g c = goes_lowers c.steps.frames c.steps.next _ (tasks.Through c.in-Through.used) (task_is c.in-Goes.is c.in-Through.is) (driven (g.D.Driver.legal c.args.driver.now) c.in_ok-next-in-Through.ensures.step)

pub returns-in_err-next-in-Begin-clause-turned : goal.returns-in_err-next-in-Begin-clause-turned
returns-in_err-next-in-Begin-clause-turned g c = fails_turned c.steps.invariant.here _ c.in_err-next-in-Begin.ensures.kept c.from_residual-in_err-next-in-Begin.result (search rules)

pub returns-in_err-next-in-Begin-clause-failed : goal.returns-in_err-next-in-Begin-clause-failed
returns-in_err-next-in-Begin-clause-failed g c = passed_on _ c.from_residual-in_err-next-in-Begin.result (fails_failed c.steps.invariant.here _ c.in_err-next-in-Begin.ensures.kept starves_alone c.steps.invariant.narrows.may_end) c.from_residual-in_err-next-in-Begin.ensures

pub steps-preserved-in-Begin : goal.steps-preserved-in-Begin
steps-preserved-in-Begin g c = record {
  narrows = c.steps.invariant.narrows;
  here = goes_moves c.steps.invariant.narrows.legal c.steps.frames c.steps.next _ (tasks.Begin c.in-Begin.job) _ (task_is c.in-Goes.is c.in-Begin.is) c.steps.invariant.here c.in_ok-next-in-Begin.ensures.step;
  first = c.steps.invariant.first;
}

pub steps-smaller-in-Begin : goal.steps-smaller-in-Begin
steps-smaller-in-Begin g c = goes_lowers c.steps.frames c.steps.next _ (tasks.Begin c.in-Begin.job) (task_is c.in-Goes.is c.in-Begin.is) (driven (g.D.Driver.legal c.args.driver.now) c.in_ok-next-in-Begin.ensures.step)

pub returns-in_err-next-in-Using-clause-turned : goal.returns-in_err-next-in-Using-clause-turned
returns-in_err-next-in-Using-clause-turned g c = fails_turned c.steps.invariant.here _ c.in_err-next-in-Using.ensures.kept c.from_residual-in_err-next-in-Using.result (search rules)

pub returns-in_err-next-in-Using-clause-failed : goal.returns-in_err-next-in-Using-clause-failed
returns-in_err-next-in-Using-clause-failed g c = passed_on _ c.from_residual-in_err-next-in-Using.result (fails_failed c.steps.invariant.here _ c.in_err-next-in-Using.ensures.kept starves_alone c.steps.invariant.narrows.may_end) c.from_residual-in_err-next-in-Using.ensures

pub steps-preserved-in-Using : goal.steps-preserved-in-Using
steps-preserved-in-Using g c = record {
  narrows = c.steps.invariant.narrows;
  here = goes_moves c.steps.invariant.narrows.legal c.steps.frames c.steps.next _ (tasks.Using c.in-Using.used) _ (task_is c.in-Goes.is c.in-Using.is) c.steps.invariant.here c.in_ok-next-in-Using.ensures.step;
  first = c.steps.invariant.first;
}

pub steps-smaller-in-Using : goal.steps-smaller-in-Using
steps-smaller-in-Using g c = goes_lowers c.steps.frames c.steps.next _ (tasks.Using c.in-Using.used) (task_is c.in-Goes.is c.in-Using.is) (driven (g.D.Driver.legal c.args.driver.now) c.in_ok-next-in-Using.ensures.step)

pub returns-in_err-next-in_default-clause-turned : goal.returns-in_err-next-in_default-clause-turned
returns-in_err-next-in_default-clause-turned g c = fails_turned c.steps.invariant.here _ c.in_err-next-in_default.ensures.kept c.from_residual-in_err-next-in_default.result (search rules)

pub returns-in_err-next-in_default-clause-failed : goal.returns-in_err-next-in_default-clause-failed
returns-in_err-next-in_default-clause-failed g c = passed_on _ c.from_residual-in_err-next-in_default.result (fails_failed c.steps.invariant.here _ c.in_err-next-in_default.ensures.kept c.in_err-next-in_default.ensures.failed c.steps.invariant.narrows.may_end) c.from_residual-in_err-next-in_default.ensures

pub steps-preserved-in_default : goal.steps-preserved-in_default
steps-preserved-in_default g c = record {
  narrows = narrows_trans c.steps.invariant.narrows c.in_ok-next-in_default.ensures.narrows;
  here = goes_done c.steps.invariant.narrows.legal c.steps.frames c.steps.next _ c.in-Goes.task _ c.in-Goes.is c.steps.invariant.here c.in_ok-next-in_default.ensures.step c.in_ok-next-in_default.ensures.asked;
  first = c.steps.invariant.first;
}

pub steps-smaller-in_default : goal.steps-smaller-in_default
steps-smaller-in_default g c = goes_lowers c.steps.frames c.steps.next _ c.in-Goes.task c.in-Goes.is c.in_ok-next-in_default.ensures.step

-- ---- a task for whose outcome a frame waits

pub returns-in_err-wait-in-Needs-clause-turned : goal.returns-in_err-wait-in-Needs-clause-turned
returns-in_err-wait-in-Needs-clause-turned g c = fails_turned c.steps.invariant.here _ refl c.from_residual-in_err-wait-in-Needs.result (search rules)

pub returns-in_err-wait-in-Needs-clause-failed : goal.returns-in_err-wait-in-Needs-clause-failed
returns-in_err-wait-in-Needs-clause-failed g c = passed_on _ c.from_residual-in_err-wait-in-Needs.result (fails_failed c.steps.invariant.here _ refl starves_alone c.steps.invariant.narrows.may_end) c.from_residual-in_err-wait-in-Needs.ensures

pub steps-preserved-in-Needs : goal.steps-preserved-in-Needs
steps-preserved-in-Needs g c = record {
  narrows = c.steps.invariant.narrows;
  here = needs_done c.steps.invariant.narrows.legal c.steps.frames c.wait.new.frames c.steps.next c.in-Needs.task c.in-Needs.frame c.in-Needs.is c.in_ok-wait-in-Needs.ensures.ok c.steps.invariant.here;
  first = c.steps.invariant.first;
}

pub steps-smaller-in-Needs : goal.steps-smaller-in-Needs
steps-smaller-in-Needs g c = needs_lowers c.steps.frames c.wait.new.frames c.steps.next c.in-Needs.task c.in-Needs.frame (g.W.Contents.world c.steps.world) c.in-Needs.is c.in_ok-wait-in-Needs.ensures.ok

-- ---- a frame

pub returns-in-None-clause-turned : goal.returns-in-None-clause-turned
returns-in-None-clause-turned g c = over_turned c.steps.frames c.steps.next c.in-Finished.outcome c.in-Finished.is c.steps.invariant.here c.in-None.ensures

pub returns-in-None-clause-hears : goal.returns-in-None-clause-hears
returns-in-None-clause-hears g c = over_hears c.steps.frames c.steps.next c.in-Finished.outcome c.in-Finished.is c.steps.invariant.here

pub returns-in_err-next-in-Some-clause-turned : goal.returns-in_err-next-in-Some-clause-turned
returns-in_err-next-in-Some-clause-turned g c = fails_turned c.steps.invariant.here _ (c.in_err-next-in-Some.ensures.kept ∙ c.passes.ensures.kept c.if-passes.false) c.from_residual-in_err-next-in-Some.result (search rules)

pub returns-in_err-next-in-Some-clause-failed : goal.returns-in_err-next-in-Some-clause-failed
returns-in_err-next-in-Some-clause-failed g c = passed_on _ c.from_residual-in_err-next-in-Some.result (fails_failed c.steps.invariant.here _ (c.in_err-next-in-Some.ensures.kept ∙ c.passes.ensures.kept c.if-passes.false) starves_alone c.steps.invariant.narrows.may_end) c.from_residual-in_err-next-in-Some.ensures

pub steps-preserved-else-passes : goal.steps-preserved-else-passes
steps-preserved-else-passes g c = record {
  narrows = c.steps.invariant.narrows;
  here = frame_done c.steps.invariant.narrows.legal c.steps.frames c.take.new.self c.steps.next _ c.in-Finished.outcome c.in-Some.frame _ c.in-Finished.is c.in-Some.ensures c.steps.invariant.here (rw (c.passes.ensures.kept c.if-passes.false) at c.in_ok-next-in-Some.ensures.step) (rw (c.passes.ensures.kept c.if-passes.false) at c.in_ok-next-in-Some.ensures.cut);
  first = c.steps.invariant.first;
}

pub steps-smaller-else-passes : goal.steps-smaller-else-passes
steps-smaller-else-passes g c = frame_lowers c.steps.frames c.take.new.self c.steps.next _ c.in-Finished.outcome c.in-Some.frame c.in-Finished.is c.in-Some.ensures (rw (c.passes.ensures.kept c.if-passes.false) at c.in_ok-next-in-Some.ensures.step)

pub steps-preserved-then-passes : goal.steps-preserved-then-passes
steps-preserved-then-passes g c = record {
  narrows = c.steps.invariant.narrows;
  here = frame_done c.steps.invariant.narrows.legal c.steps.frames c.take.new.self c.steps.next _ c.in-Finished.outcome c.in-Some.frame _ c.in-Finished.is c.in-Some.ensures c.steps.invariant.here (c.passes.ensures.step c.if-passes.true) (c.passes.ensures.cut c.if-passes.true);
  first = c.steps.invariant.first;
}

pub steps-smaller-then-passes : goal.steps-smaller-then-passes
steps-smaller-then-passes g c = frame_lowers c.steps.frames c.take.new.self c.steps.next _ c.in-Finished.outcome c.in-Some.frame c.in-Finished.is c.in-Some.ensures (c.passes.ensures.step c.if-passes.true)

-- ---- an entry

pub returns-in_err-write-in-Writes-clause-turned : goal.returns-in_err-write-in-Writes-clause-turned
returns-in_err-write-in-Writes-clause-turned g c = fails_turned c.steps.invariant.here _ c.in_err-write-in-Writes.ensures.kept c.from_residual-in_err-write-in-Writes.result (search rules)

pub returns-in_err-write-in-Writes-clause-failed : goal.returns-in_err-write-in-Writes-clause-failed
returns-in_err-write-in-Writes-clause-failed g c = passed_on _ c.from_residual-in_err-write-in-Writes.result (fails_failed c.steps.invariant.here _ c.in_err-write-in-Writes.ensures.kept c.in_err-write-in-Writes.ensures.failed c.steps.invariant.narrows.may_end) c.from_residual-in_err-write-in-Writes.ensures

pub returns-in_err-next-in-Starting-clause-turned : goal.returns-in_err-next-in-Starting-clause-turned
returns-in_err-next-in-Starting-clause-turned g c =
    fails_turned (entry_done c.steps.invariant.narrows.legal c.entries-first.result c.steps.frames c.steps.next c.in-Writes.entry (continuations.Starting c.in-Starting.running) _ (entry_is c.in-Writes.is c.in-Starting.is) c.steps.invariant.here c.steps.invariant.first (c.if-not-has_room.ensures.room refl) (rw c.if-branch.true at c.in_ok-write-in-Writes.ensures.noted) (rw c.if-branch.true at c.in_ok-write-in-Writes.ensures.told)) _ c.in_err-next-in-Starting.ensures.kept c.from_residual-in_err-next-in-Starting.result (search rules)

pub returns-in_err-next-in-Starting-clause-failed : goal.returns-in_err-next-in-Starting-clause-failed
returns-in_err-next-in-Starting-clause-failed g c =
    passed_on _ c.from_residual-in_err-next-in-Starting.result (fails_failed (entry_done c.steps.invariant.narrows.legal c.entries-first.result c.steps.frames c.steps.next c.in-Writes.entry (continuations.Starting c.in-Starting.running) _ (entry_is c.in-Writes.is c.in-Starting.is) c.steps.invariant.here c.steps.invariant.first (c.if-not-has_room.ensures.room refl) (rw c.if-branch.true at c.in_ok-write-in-Writes.ensures.noted) (rw c.if-branch.true at c.in_ok-write-in-Writes.ensures.told)) _ c.in_err-next-in-Starting.ensures.kept starves_alone (narrows_trans c.steps.invariant.narrows c.in_ok-write-in-Writes.ensures.narrows).may_end) c.from_residual-in_err-next-in-Starting.ensures

pub steps-preserved-in-Starting : goal.steps-preserved-in-Starting
steps-preserved-in-Starting g c = record {
  narrows = narrows_trans c.steps.invariant.narrows c.in_ok-write-in-Writes.ensures.narrows;
  here = follows_done c.steps.invariant.narrows.legal c.steps.frames _ (continuations.Starting c.in-Starting.running) _ (entry_done c.steps.invariant.narrows.legal c.entries-first.result c.steps.frames c.steps.next c.in-Writes.entry (continuations.Starting c.in-Starting.running) _ (entry_is c.in-Writes.is c.in-Starting.is) c.steps.invariant.here c.steps.invariant.first (c.if-not-has_room.ensures.room refl) (rw c.if-branch.true at c.in_ok-write-in-Writes.ensures.noted) (rw c.if-branch.true at c.in_ok-write-in-Writes.ensures.told)) c.in_ok-next-in-Starting.ensures.step;
  first = c.steps.invariant.first;
}

pub steps-smaller-in-Starting : goal.steps-smaller-in-Starting
steps-smaller-in-Starting g c = entry_lowers c.steps.frames c.steps.next _ c.in-Writes.entry (continuations.Starting c.in-Starting.running) (entry_is c.in-Writes.is c.in-Starting.is) (rw c.if-branch.true at c.in_ok-write-in-Writes.ensures.noted) c.in_ok-next-in-Starting.ensures.step

pub returns-in_err-next-in-Performing-clause-turned : goal.returns-in_err-next-in-Performing-clause-turned
returns-in_err-next-in-Performing-clause-turned g c =
    fails_turned (entry_done c.steps.invariant.narrows.legal c.entries-first.result c.steps.frames c.steps.next c.in-Writes.entry (continuations.Performing c.in-Performing.performance) _ (entry_is c.in-Writes.is c.in-Performing.is) c.steps.invariant.here c.steps.invariant.first (c.if-not-has_room.ensures.room refl) (rw c.if-branch.true at c.in_ok-write-in-Writes.ensures.noted) (rw c.if-branch.true at c.in_ok-write-in-Writes.ensures.told)) _ c.in_err-next-in-Performing.ensures.kept c.from_residual-in_err-next-in-Performing.result (search rules)

pub returns-in_err-next-in-Performing-clause-failed : goal.returns-in_err-next-in-Performing-clause-failed
returns-in_err-next-in-Performing-clause-failed g c =
    passed_on _ c.from_residual-in_err-next-in-Performing.result (fails_failed (entry_done c.steps.invariant.narrows.legal c.entries-first.result c.steps.frames c.steps.next c.in-Writes.entry (continuations.Performing c.in-Performing.performance) _ (entry_is c.in-Writes.is c.in-Performing.is) c.steps.invariant.here c.steps.invariant.first (c.if-not-has_room.ensures.room refl) (rw c.if-branch.true at c.in_ok-write-in-Writes.ensures.noted) (rw c.if-branch.true at c.in_ok-write-in-Writes.ensures.told)) _ c.in_err-next-in-Performing.ensures.kept starves_alone (narrows_trans c.steps.invariant.narrows c.in_ok-write-in-Writes.ensures.narrows).may_end) c.from_residual-in_err-next-in-Performing.ensures

pub steps-preserved-in-Performing : goal.steps-preserved-in-Performing
steps-preserved-in-Performing g c = record {
  narrows = narrows_trans c.steps.invariant.narrows c.in_ok-write-in-Writes.ensures.narrows;
  here = follows_done c.steps.invariant.narrows.legal c.steps.frames _ (continuations.Performing c.in-Performing.performance) _ (entry_done c.steps.invariant.narrows.legal c.entries-first.result c.steps.frames c.steps.next c.in-Writes.entry (continuations.Performing c.in-Performing.performance) _ (entry_is c.in-Writes.is c.in-Performing.is) c.steps.invariant.here c.steps.invariant.first (c.if-not-has_room.ensures.room refl) (rw c.if-branch.true at c.in_ok-write-in-Writes.ensures.noted) (rw c.if-branch.true at c.in_ok-write-in-Writes.ensures.told)) c.in_ok-next-in-Performing.ensures.step;
  first = c.steps.invariant.first;
}

pub steps-smaller-in-Performing : goal.steps-smaller-in-Performing
steps-smaller-in-Performing g c = entry_lowers c.steps.frames c.steps.next _ c.in-Writes.entry (continuations.Performing c.in-Performing.performance) (entry_is c.in-Writes.is c.in-Performing.is) (rw c.if-branch.true at c.in_ok-write-in-Writes.ensures.noted) c.in_ok-next-in-Performing.ensures.step

pub returns-in_err-next-in_default-continuation-clause-turned : goal.returns-in_err-next-in_default-continuation-clause-turned
returns-in_err-next-in_default-continuation-clause-turned g c =
    fails_turned (entry_done c.steps.invariant.narrows.legal c.entries-first.result c.steps.frames c.steps.next c.in-Writes.entry c.in-Writes.continuation _ c.in-Writes.is c.steps.invariant.here c.steps.invariant.first (c.if-not-has_room.ensures.room refl) (rw c.if-branch.true at c.in_ok-write-in-Writes.ensures.noted) (rw c.if-branch.true at c.in_ok-write-in-Writes.ensures.told)) _ c.in_err-next-in_default-continuation.ensures.kept c.from_residual-in_err-next-in_default-continuation.result (search rules)

pub returns-in_err-next-in_default-continuation-clause-failed : goal.returns-in_err-next-in_default-continuation-clause-failed
returns-in_err-next-in_default-continuation-clause-failed g c =
    passed_on _ c.from_residual-in_err-next-in_default-continuation.result (fails_failed (entry_done c.steps.invariant.narrows.legal c.entries-first.result c.steps.frames c.steps.next c.in-Writes.entry c.in-Writes.continuation _ c.in-Writes.is c.steps.invariant.here c.steps.invariant.first (c.if-not-has_room.ensures.room refl) (rw c.if-branch.true at c.in_ok-write-in-Writes.ensures.noted) (rw c.if-branch.true at c.in_ok-write-in-Writes.ensures.told)) _ c.in_err-next-in_default-continuation.ensures.kept starves_alone (narrows_trans c.steps.invariant.narrows c.in_ok-write-in-Writes.ensures.narrows).may_end) c.from_residual-in_err-next-in_default-continuation.ensures

pub steps-preserved-in_default-continuation : goal.steps-preserved-in_default-continuation
steps-preserved-in_default-continuation g c = record {
  narrows = narrows_trans c.steps.invariant.narrows c.in_ok-write-in-Writes.ensures.narrows;
  here = follows_done c.steps.invariant.narrows.legal c.steps.frames _ c.in-Writes.continuation _ (entry_done c.steps.invariant.narrows.legal c.entries-first.result c.steps.frames c.steps.next c.in-Writes.entry c.in-Writes.continuation _ c.in-Writes.is c.steps.invariant.here c.steps.invariant.first (c.if-not-has_room.ensures.room refl) (rw c.if-branch.true at c.in_ok-write-in-Writes.ensures.noted) (rw c.if-branch.true at c.in_ok-write-in-Writes.ensures.told)) c.in_ok-next-in_default-continuation.ensures.step;
  first = c.steps.invariant.first;
}

pub steps-smaller-in_default-continuation : goal.steps-smaller-in_default-continuation
steps-smaller-in_default-continuation g c = entry_lowers c.steps.frames c.steps.next _ c.in-Writes.entry c.in-Writes.continuation c.in-Writes.is (rw c.if-branch.true at c.in_ok-write-in-Writes.ensures.noted) c.in_ok-next-in_default-continuation.ensures.step

-- and one that has no room

pub steps-preserved : goal.steps-preserved
steps-preserved g c = record {
  narrows = narrows_trans c.steps.invariant.narrows c.in_ok-write-in-Writes.ensures.narrows;
  here = entry_full c.steps.invariant.narrows.legal c.steps.frames c.steps.next _ c.in-Writes.entry c.in-Writes.continuation _ c.in-Writes.is c.cut_before-next.ensures c.steps.invariant.here (rw c.if-branch.false at c.in_ok-write-in-Writes.ensures.noted) (rw c.if-branch.false at c.in_ok-write-in-Writes.ensures.told);
  first = c.steps.invariant.first;
}

pub steps-smaller : goal.steps-smaller
steps-smaller g c = full_lowers c.steps.frames c.steps.next _ c.in-Writes.entry c.in-Writes.continuation c.in-Writes.is c.cut_before-next.ensures (rw c.if-branch.false at c.in_ok-write-in-Writes.ensures.noted)
