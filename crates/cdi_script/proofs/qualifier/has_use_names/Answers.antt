use Rattle.std.proofs.Common.{◌∙◌, ap, sym, arith}
use Rattle.serde_json.specs.View.{view}
use Rattle.serde_json.proofs.Views.{view-Array}
use Rattle.cdi_script.specs.Qualifier.{has_use_names}
use Rattle.cdi_script.proofs.Long.{one_has_no_use, three_have_no_use}
use Rattle.cdi_script.proofs.qualifier.has_use_names.Goals as goal

pub returns-in-len1 : goal.returns-in-len1
returns-in-len1 c =
    let seen = ap view c.in-Array.is ∙ view-Array c.in-Array.items in
    sym (ap has_use_names seen ∙ one_has_no_use c.in-Array.items.items (omega (arith, c.as_slice.ensures.len)))

pub returns-in-len3-up : goal.returns-in-len3-up
returns-in-len3-up c =
    let seen = ap view c.in-Array.is ∙ view-Array c.in-Array.items in
    sym (ap has_use_names seen ∙ three_have_no_use c.in-Array.items.items (omega (arith, c.as_slice.ensures.len)))
