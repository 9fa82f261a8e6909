use Rattle.std.proofs.Common.{◌∙◌, ap, sym, arith}
use Rattle.serde_json.specs.View.{view}
use Rattle.serde_json.proofs.Views.{view-Array}
use Rattle.cdi_script.specs.Via.{local_of}
use Rattle.cdi_script.proofs.Long.{one_is_no_local, three_are_no_local}
use Rattle.cdi_script.proofs.via.local_of.Goals as goal

pub returns-in-len1 : goal.returns-in-len1
returns-in-len1 c =
    let seen = ap view c.in-Array.is ∙ view-Array c.in-Array.items in
    sym (ap local_of seen ∙ one_is_no_local c.in-Array.items.items (omega (arith, c.as_slice.ensures.len)))

pub returns-in-len3-up : goal.returns-in-len3-up
returns-in-len3-up c =
    let seen = ap view c.in-Array.is ∙ view-Array c.in-Array.items in
    sym (ap local_of seen ∙ three_are_no_local c.in-Array.items.items (omega (arith, c.as_slice.ensures.len)))
