use Rattle.std.proofs.Common.{refl, sym, ◌∙◌, ap, subst, arith}
use Rattle.cdi_machine.specs.Hearing.Ending.{ActAsked}
use Rattle.cdi_machine.specs.Programs.{Running}
use Rattle.cdi_frames.proofs.BodySteps.{acts_missing, acts_leads}
use Rattle.cdi_steps.proofs.Driving.{fails_for, passed_on, starves_asked}
use Rattle.cdi_steps.proofs.Made.{driven, ends}
use Rattle.cdi_frames.proofs.step.bodies.act.Goals as goal

pub act-requires : goal.act-requires
act-requires g c =
    subst (λ x. g.D.Driver.knows c.args.driver.now x) (sym (c.body.ensures ∙ ap (λ (r : Running). r.body) c.deref-2.ensures)) (c.requires.drives c.args.running.value.body c.requires.known)

pub returns-in_default-clause-step : goal.returns-in_default-clause-step
returns-in_default-clause-step g c =
    rw c.missing.ensures (driven (g.D.Driver.legal c.args.driver.now) (ends (acts_missing (g.T.Tables.tables c.args.tables.now) c.args.running (g.W.Contents.world c.args.world.now) (rw (c.instance.ensures, c.deref.ensures) at c.in_default.ensures)) (omega arith) refl))

pub returns-in_err-act-clause-failed : goal.returns-in_err-act-clause-failed
returns-in_err-act-clause-failed g c =
    passed_on _ c.from_residual.result (fails_for (ActAsked _ _ _ _) _ c.in_err-act.ensures.failed) c.from_residual.ensures

pub returns-in_err-clone-clause-failed : goal.returns-in_err-clone-clause-failed
returns-in_err-clone-clause-failed g c =
    passed_on _ c.from_residual-in_err-clone.result (starves_asked c.in_ok-act.ensures.asked) c.from_residual-in_err-clone.ensures

pub returns-in_err-performance-clause-failed : goal.returns-in_err-performance-clause-failed
returns-in_err-performance-clause-failed g c =
    passed_on _ c.from_residual-in_err-performance.result (starves_asked c.in_ok-act.ensures.asked) c.from_residual-in_err-performance.ensures

pub returns-in_err-act-2-clause-failed : goal.returns-in_err-act-2-clause-failed
returns-in_err-act-2-clause-failed g c =
    passed_on _ c.from_residual-in_err-act-2.result (starves_asked c.in_ok-act.ensures.asked) c.from_residual-in_err-act-2.ensures

pub returns-clause-step : goal.returns-clause-step
returns-clause-step g c =
    let there = rw (c.instance.ensures, c.deref.ensures) at c.in-Some.ensures in
    let gives = rw (c.body.ensures, c.deref-2.ensures, ← c.entries.ensures, c.view.ensures, c.deref-3.ensures) at c.in_ok-act.ensures.legal in
    record {
      leads = rw c.in_ok-clone.ensures.cases (acts_leads (g.T.Tables.tables c.args.tables.now) (g.D.Driver.legal c.args.driver.now) c.args.running c.in-Some.instance.now c.in_ok-act.act c.in_ok-act-2.act c.in_ok-performance.performance (g.W.Contents.world c.args.world.now) there gives c.in_ok-act-2.ensures c.in_ok-performance.ensures);
      lowers = omega arith;
      known = λ h. rw c.in_ok-performance.ensures c.requires.known;
      invoked = λ h. h;
    }
