use Rattle.std.proofs.Common.{◌∙◌, ◌&&◌, ◌∷◌, ap, sym}
use Rattle.cdi_bean_check.specs.Qualifiers.{full_uses}
use Rattle.cdi_quals.specs.Qualifiers.{has_all}
use Rattle.cdi_event_tables.specs.Events.{any_qualifier}
use Rattle.cdi_event_tables.proofs.Subtypes.{subtype_told}
use Rattle.cdi_event_tables.proofs.heard.is_heard_by.Goals as goal

pub returns-then-is_subtype : goal.returns-then-is_subtype
returns-then-is_subtype c =
    let d = c.args.declared.now in
    let o = c.args.observer.now in
    let had = has_all (any_qualifier ∷ full_uses d.qualifiers c.args.qualifiers.now) o.qualifiers in
    let told = subtype_told d.types c.is_subtype.result c.args.class o.ty c.law_sound.ensures.acyclic c.is_subtype.ensures in
    c.has_all.ensures ∙ sym (ap (λ b. b && had) (sym told ∙ c.if-is_subtype.true))

pub returns-else-is_subtype : goal.returns-else-is_subtype
returns-else-is_subtype c =
    let d = c.args.declared.now in
    let o = c.args.observer.now in
    let had = has_all (any_qualifier ∷ full_uses d.qualifiers c.args.qualifiers.now) o.qualifiers in
    let told = subtype_told d.types c.is_subtype.result c.args.class o.ty c.law_sound.ensures.acyclic c.is_subtype.ensures in
    c.if-is_subtype.false ∙ sym (ap (λ b. b && had) (sym told ∙ c.if-is_subtype.false))
