use Rattle.std.proofs.Common.{◌≡◌, ◌∙◌, ap, Err, arith}
use Rattle.serde_json.specs.View.{view}
use Rattle.serde_json.proofs.Views.{view-Array}
use Rattle.cdi_script.specs.Expression.{expression_of}
use Rattle.cdi_script.specs.declared.fault.ScriptFault.TheVariants.{BadStep}
use Rattle.cdi_script.proofs.Long.{none_read}
use Rattle.cdi_script.proofs.expression_form.+expression_of.Goals as goal

pub returns-in-len4-up-clause-gives : goal.returns-in-len4-up-clause-gives
returns-in-len4-up-clause-gives t c =
    let seen = ap view c.in-Array.is ∙ view-Array c.in-Array.items in
    let gone : expression_of c.args.names.now (view c.args.value.now) ≡ Err BadStep =
    ap (λ d. expression_of c.args.names.now d) seen ∙ none_read c.in-Array.items.items c.args.names.now (omega (arith, c.as_slice.ensures.len)) in
    rw c.bad-in-len4-up.ensures gone
