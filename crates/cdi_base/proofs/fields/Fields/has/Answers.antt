use Rattle.std.proofs.Common.{◌∙◌, sym, ap}
use Rattle.cdi_base.proofs.Tables.{has-lookup}
use Rattle.cdi_base.specs.Fields.{has}
use Rattle.cdi_base.proofs.fields.Fields.has.Goals as goal

pub returns : goal.returns
returns c =
    c.contains_key.ensures ∙ sym (has-lookup c.self.inside.entries.entries c.args.name) ∙ ap (λ m. has m c.args.name) c.self.view_is
