use Rattle.std.proofs.Common.{◌∙◌, ◌++◌, ap}
use Rattle.cdi_problems.proofs.Numbered.{next_numbered}
use Rattle.cdi_name_uses.specs.StepNames.{step_names}
use Rattle.cdi_name_uses.proofs.step_name.add_steps.Goals as goal

pub loop-index-preserved : goal.loop-index-preserved
loop-index-preserved c =
    let i = c.loop-index.index in
    let x = c.index-steps-index.result in
    c.in_ok-add_action.ensures ∙ ap (λ us. us ++ step_names (i, x)) c.loop-index.invariant
    ∙ next_numbered step_names c.args.steps.now i x c.args.used.now c.loop-index-test.true c.index-steps-index.is
