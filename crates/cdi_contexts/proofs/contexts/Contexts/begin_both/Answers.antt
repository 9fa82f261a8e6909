use Rattle.std.proofs.Common.{◌≡◌, ◌∙◌, ap, sym, subst, Some, ◌++◌, ◌∷◌, [], false, Bool}
use Rattle.cdi_base.specs.Maps.{without}
use Rattle.cdi_contexts.specs.declared.group.Kept.{Kept}
use Rattle.cdi_contexts.specs.Contexts.{fresh, request_in, session_in}
use Rattle.cdi_contexts.specs.Standing.{Begins}
use Rattle.cdi_contexts.specs.Group.{kept_named, standing}
use Rattle.cdi_contexts.proofs.Begins.{new_request_name, new_session_name, begins_both, new_kept, taken_back}
use Rattle.cdi_contexts.proofs.contexts.Contexts.begin_both.Goals as goal

pub insert-requires : goal.insert-requires
insert-requires c =
    let n = c.self.inside.sessions in
    ap (λ k. kept_named n k.name) c.in_ok-session.ensures
    ∙ new_session_name c.self.inside.application c.self.inside.requests n c.args.session.now (ap (λ s. session_in s.contexts.sessions c.args.session.now) c.self.view_is ∙ c.requires.session)

pub insert-requires-2 : goal.insert-requires-2
insert-requires-2 c =
    let m = c.self.inside.requests in
    ap (λ k. kept_named m k.name) c.in_ok-kept.ensures
    ∙ new_request_name c.self.inside.application m c.self.inside.sessions c.args.request.now (ap (λ s. request_in s.contexts.requests c.args.request.now) c.self.view_is ∙ c.requires.request)

pub returns-in-Ok-clause-begun : goal.returns-in-Ok-clause-begun
returns-in-Ok-clause-begun c =
    let a = c.self.inside.application in
    let m = c.self.inside.requests in
    let n = c.self.inside.sessions in
    let request = c.args.request.now in
    let session = c.args.session.now in
    let slot = c.in-Ok.slot in
    let place = c.in_ok-session_slot.session_slot in
    let new : Kept Bool = record { name = session; detail = false; table = fresh } in
    let e : c.insert-2.new.self ≡ m ++ (slot, new_kept request (Some session)) ∷ [] = c.in-Ok.ensures.ok ∙ ap (λ k. m ++ (slot, k) ∷ []) c.in_ok-kept.ensures in
    let i : c.insert.new.self ≡ n ++ (place, new) ∷ [] = c.in_ok-session_slot.ensures.ok ∙ ap (λ k. n ++ (place, k) ∷ []) c.in_ok-session.ensures in
    subst (λ s. Begins request (Some session) s (record { request = Some slot; session = Some place }) (standing a c.insert-2.new.self c.insert.new.self)) c.self.view_is
    (subst (λ x. Begins request (Some session) (standing a m n) (record { request = Some slot; session = Some place }) (standing a x c.insert.new.self)) (sym e)
    (subst (λ y. Begins request (Some session) (standing a m n) (record { request = Some slot; session = Some place }) (standing a (m ++ (slot, new_kept request (Some session)) ∷ []) y)) (sym i)
    (begins_both a m n request slot c.in-Ok.ensures.free session place c.in_ok-session_slot.ensures.free (ap (λ s. session_in s.contexts.sessions session) c.self.view_is ∙ c.requires.session))))

pub returns-in-Err-clause-err : goal.returns-in-Err-clause-err
returns-in-Err-clause-err c =
    let a = c.self.inside.application in
    let m = c.self.inside.requests in
    let n = c.self.inside.sessions in
    let place = c.in_ok-session_slot.session_slot in
    ap (λ x. standing a x c.remove.new.self) c.in-Err.ensures.err
    ∙ ap (λ y. standing a m y) (c.remove.ensures.removed ∙ ap (without place) c.in_ok-session_slot.ensures.ok ∙ taken_back n place c.in_ok-session.session c.in_ok-session_slot.ensures.free)
    ∙ c.self.view_is
