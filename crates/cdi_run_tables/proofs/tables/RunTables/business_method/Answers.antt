use Rattle.std.proofs.Common.{◌∙◌, ap, option_map, sym}
use Rattle.cdi_machine.specs.Told.{method_told}
use Rattle.cdi_run_tables.proofs.Telling.{lent, method_is_told, no_method}
use Rattle.cdi_run_tables.proofs.tables.RunTables.business_method.Goals as goal

pub returns-then-is_enabled : goal.returns-then-is_enabled
returns-then-is_enabled c =
    let on = sym c.is_enabled.ensures ∙ c.if-is_enabled.true in
    lent method_told c.method.result ∙ ap (option_map method_told) c.method.ensures
    ∙ method_is_told c.self.inside.parts c.self.invariant.kept c.args.bean c.args.self.now c.self.view_is on c.requires c.args.name

pub returns : goal.returns
returns c = no_method c.args.self.now c.args.bean (sym c.is_enabled.ensures ∙ c.if-is_enabled.false) c.args.name
