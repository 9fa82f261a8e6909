use Rattle.std.proofs.Common.{◌≡◌, IfOk, None, Option, rules, subst}
use Rattle.std.specs.Option.{unwrap_or}
use Rattle.serde_json.specs.View.{view}
use Rattle.cdi_base.specs.declared.uses.WrittenUse.{WrittenUse}
use Rattle.cdi_form.specs.ValueForms.{use_in}
use Rattle.cdi_deploy.specs.Items.{nameless, numbered}
use Rattle.cdi_deploy.proofs.items.UseItem.read.Goals as goal

pub returns-in-None : goal.returns-in-None
returns-in-None c =
    let none : None ≡ use_in (view c.args.value.now) = search rules in
    let with_no_name : IfOk c.numbered-in-None.result (λ item. item ≡ numbered c.args.names.now nameless) =
    subst (λ (w : WrittenUse). IfOk c.numbered-in-None.result (λ item. item ≡ numbered c.args.names.now w)) c.nameless.ensures c.numbered-in-None.ensures in
    subst (λ (o : Option WrittenUse). IfOk c.numbered-in-None.result (λ item. item ≡ numbered c.args.names.now (unwrap_or o nameless))) none with_no_name
