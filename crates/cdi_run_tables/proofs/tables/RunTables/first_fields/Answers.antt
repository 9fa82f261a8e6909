use Rattle.std.proofs.Common.{◌≡◌, ◌∙◌, subst, sym}
use Rattle.std.specs.Prelude.{IfOk}
use Rattle.cdi_machine.specs.Words.{Fields}
use Rattle.cdi_run_tables.proofs.Telling.{fields_are_told, no_fields}
use Rattle.cdi_run_tables.proofs.tables.RunTables.first_fields.Goals as goal

pub returns-then-is_enabled : goal.returns-then-is_enabled
returns-then-is_enabled c =
    let on = sym c.is_enabled.ensures ∙ c.if-is_enabled.true in
    subst (λ (all : Fields). IfOk c.first_fields.result (λ fields. fields ≡ all))
    (fields_are_told c.self.inside.parts c.self.invariant.kept c.args.bean c.args.self.now c.self.view_is on)
    c.first_fields.ensures

pub returns : goal.returns
returns c = c.new.ensures ∙ no_fields c.args.self.now c.args.bean (sym c.is_enabled.ensures ∙ c.if-is_enabled.false)
