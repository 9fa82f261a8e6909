use Rattle.std.proofs.Common.{◌∙◌, ap, arith, sym}
use Rattle.serde_json.specs.View.{view}
use Rattle.serde_json.proofs.Views.{view-Array}
use Rattle.cdi_form.specs.Shape.{has_item}
use Rattle.cdi_form.proofs.Items.{some_item}
use Rattle.cdi_form.proofs.shape.has_item.Goals as goal

pub returns-in-len1-up : goal.returns-in-len1-up
returns-in-len1-up c =
    sym (ap has_item (ap view c.in-Array.is ∙ view-Array c.in-Array.items) ∙ some_item c.in-Array.items.items (omega (arith, c.as_slice.ensures.len)))
