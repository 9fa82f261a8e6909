use Rattle.std.proofs.Common.{◌≡◌, ◌∙◌, ap, sym, Some, None, option_map}
use Rattle.cdi_contexts.specs.Group.{session_of, standing}
use Rattle.cdi_contexts.specs.Standing.{in_slot, with_marked}
use Rattle.cdi_contexts.proofs.Begins.{named_name}
use Rattle.cdi_contexts.proofs.ByName.{session_marked, marked_name}
use Rattle.cdi_contexts.proofs.contexts.Contexts.invalidate.Goals as goal

pub returns-clause-marked : goal.returns-clause-marked
returns-clause-marked c =
    let a = c.self.inside.application in
    let m = c.self.inside.requests in
    let n = c.self.inside.sessions in
    let s = session_of c.in-Some-session._kept.now in
    let name : s.name ≡ c.args.session.now = named_name c.args.self.now.contexts.sessions c.args.session.now s (sym c.in-Some-session.ensures.value) in
    ap (standing a m) c.mark.ensures.marked
    ∙ session_marked a m n c.in-Some-session.slot c.args.session.now s c.mark.ensures.apart
    (ap (λ s. in_slot s.session_slots s.contexts.sessions c.in-Some-session.slot) c.self.view_is ∙ c.in-Some-session.ensures.there) name
    ∙ ap (with_marked c.args.session.now) c.self.view_is

pub returns-clause-environment : goal.returns-clause-environment
returns-clause-environment c =
    let a = c.self.inside.application in
    let m = c.self.inside.requests in
    let n = c.self.inside.sessions in
    let slot = c.in-Some-session.slot in
    let s = session_of c.in-Some-session._kept.now in
    let name : s.name ≡ c.args.session.now = named_name c.args.self.now.contexts.sessions c.args.session.now s (sym c.in-Some-session.ensures.value) in
    ap (λ o. record { request = None; session = o })
    (ap (λ n. option_map (λ s. s.name) (in_slot (standing a m n).session_slots (standing a m n).contexts.sessions slot)) c.mark.ensures.marked
    ∙ marked_name a m n slot
    ∙ ap (λ s. option_map (λ s. s.name) (in_slot s.session_slots s.contexts.sessions slot)) c.self.view_is
    ∙ ap (option_map (λ s. s.name)) c.in-Some-session.ensures.there ∙ ap (λ t. Some t) name)
