use Rattle.std.proofs.Common.{◌∙◌, sym}
use Rattle.cdi_run_tables.proofs.Heads.{listed_head_is, no_head}
use Rattle.cdi_run_tables.proofs.tables.RunTables.instantiable.Goals as goal

pub returns-then-is_instantiable : goal.returns-then-is_instantiable
returns-then-is_instantiable c =
    let on = sym c.is_enabled.ensures ∙ c.if-not-is_enabled.false in
    c.placed.ensures
    ∙ listed_head_is c.self.inside.parts c.self.invariant.kept c.args.bean c.args.self.now c.self.view_is on c.requires (sym c.is_instantiable.ensures ∙ c.if-is_instantiable.true)

pub returns-else-is_instantiable : goal.returns-else-is_instantiable
returns-else-is_instantiable c =
    let on = sym c.is_enabled.ensures ∙ c.if-not-is_enabled.false in
    no_head c.self.inside.parts c.self.invariant.kept c.args.bean c.args.self.now c.self.view_is on c.requires (sym c.is_instantiable.ensures ∙ c.if-is_instantiable.false)
