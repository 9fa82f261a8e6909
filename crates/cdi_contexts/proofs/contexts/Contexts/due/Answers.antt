use Rattle.std.proofs.Common.{◌∙◌, ◌&&◌, ap, sym, not, Bool, Some, None, Option, ℕ, List, map}
use Rattle.std.specs.List.{list_any}
use Rattle.cdi_contexts.specs.Contexts.{belongs_to}
use Rattle.cdi_contexts.specs.Group.{request_of}
use Rattle.cdi_contexts.specs.Standing.{Standing, is_due_in, in_slot, of_slot}
use Rattle.cdi_contexts.proofs.ByName.{session_due}
use Rattle.cdi_contexts.proofs.contexts.Contexts.due.Goals as goal

abbrev is_due : Standing → Option ℕ → Bool
is_due s slot = is_due_in s.contexts (of_slot (in_slot s.session_slots s.contexts.sessions) slot (λ r. r.name))

pub returns-then-kept : goal.returns-then-kept
returns-then-kept c =
    let k = c.in-Some-get.kept.now in
    let has = (λ (name : List ℕ). list_any (belongs_to name) (map (λ p. request_of p.1) c.self.inside.requests)) in
    ap not (c.has_member.ensures ∙ ap has c.as_str.ensures) ∙ ap (λ b. b && not (has k.name)) (sym c.if-kept.true)
    ∙ session_due c.self.inside.application c.self.inside.requests c.self.inside.sessions c.in-Some.slot (Some k) (sym c.in-Some-get.ensures.value) c.get.ensures.apart
    ∙ ap (λ s. is_due s (Some c.in-Some.slot)) c.self.view_is ∙ ap (is_due c.args.self.now) (sym c.in-Some.is)

pub returns-else-kept : goal.returns-else-kept
returns-else-kept c =
    let k = c.in-Some-get.kept.now in
    let has = (λ (name : List ℕ). list_any (belongs_to name) (map (λ p. request_of p.1) c.self.inside.requests)) in
    c.if-kept.false ∙ ap (λ b. b && not (has k.name)) (sym c.if-kept.false)
    ∙ session_due c.self.inside.application c.self.inside.requests c.self.inside.sessions c.in-Some.slot (Some k) (sym c.in-Some-get.ensures.value) c.get.ensures.apart
    ∙ ap (λ s. is_due s (Some c.in-Some.slot)) c.self.view_is ∙ ap (is_due c.args.self.now) (sym c.in-Some.is)

pub returns-in-None : goal.returns-in-None
returns-in-None c =
    session_due c.self.inside.application c.self.inside.requests c.self.inside.sessions c.in-Some.slot None (sym c.in-None.ensures.value) c.get.ensures.apart
    ∙ ap (λ s. is_due s (Some c.in-Some.slot)) c.self.view_is ∙ ap (is_due c.args.self.now) (sym c.in-Some.is)
