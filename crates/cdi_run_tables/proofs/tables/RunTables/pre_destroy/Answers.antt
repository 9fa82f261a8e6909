use Rattle.std.proofs.Common.{◌∙◌, ap, option_map, sym}
use Rattle.cdi_bean_lives.specs.Beans.{numbered_at}
use Rattle.cdi_machine.specs.Told.{lifecycle_told}
use Rattle.cdi_run_tables.specs.Numbered as spec
use Rattle.cdi_run_tables.proofs.Telling.{lent, no_kind, pre_destroy_told, tells_at}
use Rattle.cdi_run_tables.proofs.tables.RunTables.pre_destroy.Goals as goal

pub returns-then-is_enabled : goal.returns-then-is_enabled
returns-then-is_enabled c =
    let t = c.args.self.now in
    let told = tells_at c.self.inside.parts c.self.invariant.kept c.args.bean t c.self.view_is (sym c.is_enabled.ensures ∙ c.if-is_enabled.true) c.requires in
    lent lifecycle_told c.pre_destroy.result ∙ ap (option_map lifecycle_told) c.pre_destroy.ensures
    ∙ pre_destroy_told (spec.kind_at t c.args.bean) (numbered_at c.self.inside.parts.beans c.args.bean) told

pub returns : goal.returns
returns c =
    ap spec.pre_destroy_in (no_kind c.args.self.now c.args.bean (sym c.is_enabled.ensures ∙ c.if-is_enabled.false))
