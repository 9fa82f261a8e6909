use Rattle.std.proofs.Common.{◌∙◌, ap, sym}
use Rattle.serde_json.specs.View.{view, items_view}
use Rattle.serde_json.proofs.Views.{view-Array}
use Rattle.cdi_prepare.specs.BadStep.{bad_item_from, bad_step}
use Rattle.cdi_prepare.proofs.Items.{first_bad_item}
use Rattle.cdi_prepare.proofs.bad_steps.bad_step.Goals as goal

pub returns-in-Array : goal.returns-in-Array
returns-in-Array c =
    c.bad_item.ensures ∙ sym (first_bad_item 0 c.as_slice.result.now) ∙ ap (λ xs. bad_item_from 0 (items_view xs)) c.as_slice.ensures.value
    ∙ sym (ap bad_step (ap view c.in-Array.is ∙ view-Array c.in-Array.items))
