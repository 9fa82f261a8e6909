use Rattle.std.proofs.Common.{◌∙◌, sym, ap}
use Rattle.std.specs.Option.{unwrap_or}
use Rattle.cdi_base.proofs.Tables.{get-lookup}
use Rattle.cdi_base.specs.declared.value.Value.TheVariants.{Null}
use Rattle.cdi_base.specs.Fields.{get}
use Rattle.cdi_base.proofs.fields.Fields.get.Goals as goal

pub returns-in-Some : goal.returns-in-Some
returns-in-Some c =
    ap (λ o. unwrap_or o Null) c.in-Some.ensures.value ∙ sym (get-lookup c.self.inside.entries.entries c.args.name) ∙ ap (λ m. get m c.args.name) c.self.view_is

pub returns-in-None : goal.returns-in-None
returns-in-None c =
    c.self.invariant ∙ ap (λ o. unwrap_or o Null) c.in-None.ensures.value ∙ sym (get-lookup c.self.inside.entries.entries c.args.name) ∙ ap (λ m. get m c.args.name) c.self.view_is
