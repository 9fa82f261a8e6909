use Rattle.std.proofs.Common.{◌≡◌, ◌∙◌, ap, sym, subst, Some, ◌++◌, ◌∷◌, []}
use Rattle.cdi_contexts.specs.Contexts.{request_in, session_in}
use Rattle.cdi_contexts.specs.Standing.{Begins, in_slot}
use Rattle.cdi_contexts.specs.Group.{kept_named, session_of, standing}
use Rattle.cdi_contexts.proofs.Begins.{new_request_name, begins_known, new_kept}
use Rattle.cdi_contexts.proofs.contexts.Contexts.begin_in.Goals as goal

pub insert-requires : goal.insert-requires
insert-requires c =
    let m = c.self.inside.requests in
    ap (λ k. kept_named m k.name) c.in_ok-kept.ensures
    ∙ new_request_name c.self.inside.application m c.self.inside.sessions c.args.request.now (ap (λ s. request_in s.contexts.requests c.args.request.now) c.self.view_is ∙ c.requires)

pub returns-clause-begun : goal.returns-clause-begun
returns-clause-begun c =
    let a = c.self.inside.application in
    let m = c.self.inside.requests in
    let n = c.self.inside.sessions in
    let request = c.args.request.now in
    let session = c.args.session.now in
    let slot = c.in_ok-slot.slot in
    let e : c.insert.new.self ≡ m ++ (slot, new_kept request (Some session)) ∷ [] = c.in_ok-slot.ensures.ok ∙ ap (λ k. m ++ (slot, k) ∷ []) c.in_ok-kept.ensures in
    subst (λ s. Begins request (Some session) s (record { request = Some slot; session = Some c.in-Some.session_slot }) (standing a c.insert.new.self n)) c.self.view_is
    (subst (λ x. Begins request (Some session) (standing a m n) (record { request = Some slot; session = Some c.in-Some.session_slot }) (standing a x n)) (sym e)
    (begins_known a m n request slot c.in_ok-slot.ensures.free session c.in-Some.session_slot (session_of c.in-Some._kept.now)
    (ap (λ s. session_in s.contexts.sessions session) c.self.view_is ∙ sym c.in-Some.ensures.value)
    (ap (λ s. in_slot s.session_slots s.contexts.sessions c.in-Some.session_slot) c.self.view_is ∙ c.in-Some.ensures.there)))
