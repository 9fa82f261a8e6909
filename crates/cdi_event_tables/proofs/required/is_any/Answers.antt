use Rattle.std.proofs.Common.{◌∙◌, ◌&&◌, [], ap, sym}
use Rattle.cdi_quals.specs.Qualifiers.{agree}
use Rattle.cdi_event_tables.proofs.NoMembers.{agrees_with_none}
use Rattle.cdi_event_tables.proofs.required.is_any.Goals as goal

pub returns-then-eq : goal.returns-then-eq
returns-then-eq c =
    let members = c.args.required.now.members in
    agrees_with_none members c.is_empty.result c.is_empty.ensures ∙ sym (ap (λ named. named && agree members []) (sym (rw c.name.ensures.number at c.eq.ensures) ∙ c.if-eq.true))
