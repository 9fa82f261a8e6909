use Rattle.std.proofs.Common.{◌≡◌, ◌∙◌, sym, ap, false, true≢false, is_some}
use Rattle.cdi_base.proofs.Tables.{has-lookup, put-insert_entry}
use Rattle.cdi_base.specs.Fields.{has, put}
use Rattle.cdi_base.proofs.fields.Fields.put.Goals as goal

pub returns-clause-ok : goal.returns-clause-ok
returns-clause-ok c =
    c.in_ok-insert.ensures.entries ∙ sym (put-insert_entry c.self.inside.entries.entries c.args.name c.args.value) ∙ ap (λ m. put m c.args.name c.args.value) c.self.view_is

pub returns-in_err-insert-clause-there : goal.returns-in_err-insert-clause-there
returns-in_err-insert-clause-there c =
    let absent : has c.args.self.now c.args.name ≡ false = ap (λ m. has m c.args.name) (sym c.self.view_is) ∙ has-lookup c.self.inside.entries.entries c.args.name ∙ ap is_some c.in_err-insert.ensures.absent in
    λ h. absurd (true≢false (sym h ∙ absent))
