use Rattle.std.proofs.Common.{◌≡◌, ◌∙◌, true, ap, sym}
use Rattle.serde_json.specs.Data.{array}
use Rattle.serde_json.specs.View.{view, items_view}
use Rattle.serde_json.proofs.Views.{view-Array}
use Rattle.cdi_script.specs.Form.{are_steps, is_script}
use Rattle.cdi_prepare.proofs.Items.{few_steps}
use Rattle.cdi_prepare.proofs.bad_steps.is_script.Goals as goal

pub returns-then-are_steps : goal.returns-then-are_steps
returns-then-are_steps c =
    let steps : are_steps (items_view c.as_slice-items.result.now) ≡ true = sym c.are_steps.ensures ∙ c.if-are_steps.true in
    few_steps _ steps ∙ ap (λ xs. is_script (array (items_view xs))) c.as_slice-items.ensures.value
    ∙ sym (ap is_script (ap view c.in-Array.is ∙ view-Array c.in-Array.items))
