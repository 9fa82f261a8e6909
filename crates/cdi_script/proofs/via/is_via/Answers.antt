use Rattle.std.proofs.Common.{◌∙◌, ap, sym, arith}
use Rattle.serde_json.specs.View.{view}
use Rattle.serde_json.proofs.Views.{view-Array}
use Rattle.cdi_script.specs.Via.{is_via}
use Rattle.cdi_script.proofs.Long.{one_is_no_via, three_are_no_via}
use Rattle.cdi_script.proofs.via.is_via.Goals as goal

pub returns-in-len1 : goal.returns-in-len1
returns-in-len1 c =
    let seen = ap view c.in-Array.is ∙ view-Array c.in-Array.items in
    sym (ap is_via seen ∙ one_is_no_via c.in-Array.items.items (omega (arith, c.as_slice.ensures.len)))

pub returns-in-len3-up : goal.returns-in-len3-up
returns-in-len3-up c =
    let seen = ap view c.in-Array.is ∙ view-Array c.in-Array.items in
    sym (ap is_via seen ∙ three_are_no_via c.in-Array.items.items (omega (arith, c.as_slice.ensures.len)))
