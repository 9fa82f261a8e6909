use Rattle.std.proofs.Common.{◌∙◌, ap, sym, arith}
use Rattle.serde_json.specs.View.{view}
use Rattle.serde_json.proofs.Views.{view-Array}
use Rattle.cdi_script.specs.Expression.{is_expression}
use Rattle.cdi_script.proofs.Long.{is_none}
use Rattle.cdi_script.proofs.expression_form.+is_expression.Goals as goal

pub returns-in-len4-up : goal.returns-in-len4-up
returns-in-len4-up t c =
    let seen = ap view c.in-Array.is ∙ view-Array c.in-Array.items in
    sym (ap is_expression seen ∙ is_none c.in-Array.items.items (omega (arith, c.as_slice.ensures.len)))
