use Rattle.std.proofs.Common.{◌≡◌, ◌∙◌, sym, true, true≢false, List}
use Rattle.serde_json.specs.View.{items_view}
use Rattle.cdi_script.specs.declared.fault.ScriptFault.TheVariants.{BadStep, TooLong}
use Rattle.cdi_script.specs.declared.step.Step.{Step}
use Rattle.cdi_script.specs.Form.{are_steps}
use Rattle.cdi_script.proofs.Long.{few_are_not_many}
use Rattle.cdi_script.proofs.Passing.{no_other_fault}
use Rattle.cdi_script.proofs.script.steps_of.Goals as goal

pub returns-clause-bad_step : goal.returns-clause-bad_step
returns-clause-bad_step c =
    let steps : are_steps (items_view c.args.items.now) ≡ true = cc in
    (λ h. absurd (no_other_fault c.args.names.now (items_view c.args.items.now) BadStep (λ (xs : List Step). (xs, c.each.new.names)) c.each.result (λ e. cc) steps c.each.ensures.gives h), λ h. cc)

pub returns-clause-too_long : goal.returns-clause-too_long
returns-clause-too_long c =
    let steps : are_steps (items_view c.args.items.now) ≡ true = cc in (
      λ h. absurd (no_other_fault c.args.names.now (items_view c.args.items.now) TooLong (λ (xs : List Step). (xs, c.each.new.names)) c.each.result (λ e. cc) steps c.each.ensures.gives h),
      λ many. absurd (true≢false (sym many ∙ few_are_not_many c.args.items.now c.if-items-gt-MAX_STEPS.false)),
    )
