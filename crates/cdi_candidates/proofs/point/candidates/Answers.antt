use Rattle.std.proofs.Common.{◌∙◌, sym}
use Rattle.std.proofs.lemmas.Result.{IfOk-weaker}
use Rattle.cdi_bean_check.specs.Qualifiers.{full_uses}
use Rattle.cdi_candidates.proofs.One.{one_is_left, none_is_left}
use Rattle.cdi_candidates.proofs.point.candidates.Goals as goal

pub returns-in-Nothing : goal.returns-in-Nothing
returns-in-Nothing c =
    c.empty.ensures ∙ none_is_left c.args.ty (full_uses c.args.tables.now.declared.qualifiers c.args.uses.now) c.args.tables.now.resolver (sym c.resolve_written.ensures ∙ c.in-Nothing.is)

pub returns-in-One : goal.returns-in-One
returns-in-One c =
    let resolves = sym c.resolve_written.ensures ∙ c.in-One.is in
    IfOk-weaker c.place_at.result _ _ (λ places are. are ∙ one_is_left c.args.ty (full_uses c.args.tables.now.declared.qualifiers c.args.uses.now) c.args.tables.now.resolver c.in-One.bean resolves) c.place_at.ensures
