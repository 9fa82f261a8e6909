use Rattle.std.proofs.Common.{◌≡◌, ◌∙◌, ap, Err, arith}
use Rattle.serde_json.specs.View.{view}
use Rattle.serde_json.proofs.Views.{view-Array}
use Rattle.cdi_script.specs.Via.{via_of}
use Rattle.cdi_script.specs.declared.fault.ScriptFault.TheVariants.{BadStep}
use Rattle.cdi_script.proofs.Long.{no_via_of_one, no_via_of_three}
use Rattle.cdi_script.proofs.via.via_of.Goals as goal

pub returns-in-len1-clause-gives : goal.returns-in-len1-clause-gives
returns-in-len1-clause-gives c =
    let seen = ap view c.in-Array.is ∙ view-Array c.in-Array.items in
    let gone : via_of c.args.names.now (view c.args.value.now) ≡ Err BadStep =
    ap (via_of c.args.names.now) seen ∙ no_via_of_one c.args.names.now c.in-Array.items.items (omega (arith, c.as_slice.ensures.len)) in
    rw c.bad-in-len1.ensures gone

pub returns-in-len3-up-clause-gives : goal.returns-in-len3-up-clause-gives
returns-in-len3-up-clause-gives c =
    let seen = ap view c.in-Array.is ∙ view-Array c.in-Array.items in
    let gone : via_of c.args.names.now (view c.args.value.now) ≡ Err BadStep =
    ap (via_of c.args.names.now) seen ∙ no_via_of_three c.args.names.now c.in-Array.items.items (omega (arith, c.as_slice.ensures.len)) in
    rw c.bad-in-len3-up.ensures gone
