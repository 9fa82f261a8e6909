-- How a request begins and a session is marked.
use Rattle.std.proofs.Common.{◌≡◌, ◌∙◌, ℕ, List, [], ◌∷◌, ◌++◌, Bool, true, false, cond, Option, Some, None, Ok, Err, OnOk, OnErr, IfErr, bytes_eq, refl, ap, sym}
use Rattle.std.specs.Prelude.{Result}
use Rattle.cdi_base.specs.declared.reply.Refusal.{Refusal}
use Rattle.cdi_contexts.specs.Contexts.{Contexts, OpenRequest, OpenSession, fresh, request_in, session_in, with_mark, with_request, with_session}
use Rattle.cdi_contexts.specs.Refusals.{begin_refusal, invalidate_refusal, is_new}
use Rattle.cdi_contexts.specs.Standing.{Standing, with_begun, with_marked, IsBy}
use Rattle.cdi_contexts.proofs.Begins.{not_refused}
use Rattle.cdi_contexts.proofs.Slots.{own_bytes}
use Rattle.cdi_machine.specs.Commands.{session_of}
use Rattle.cdi_machine.specs.World.{World, with_contexts}
use Rattle.cdi_host.specs.Standing.{standing_in, with_request_begun}
use Rattle.cdi_world.proofs.Changed.{changed_absent, changed_same}

-- what is new at the end is found
found_last : (rs : List OpenRequest) (r : OpenRequest) → request_in rs r.name ≡ None
    → request_in (rs ++ r ∷ []) r.name ≡ Some r
found_last [] r h = rw (own_bytes r.name) refl
found_last (x ∷ more) r h = by (bytes_eq x.name r.name) h (found_last more r)
  where
    by : (b : Bool) → cond b (Some x) (request_in more r.name) ≡ None
        → (request_in more r.name ≡ None → request_in (more ++ r ∷ []) r.name ≡ Some r)
        → cond b (Some x) (request_in (more ++ r ∷ []) r.name) ≡ Some r
    by true i rest = absurd cc
    by false i rest = rest i

session_found : (c : Contexts) (request : List ℕ) (session : Option (List ℕ))
    → request_in c.requests request ≡ None
    → session_of (request_in (with_request request session c).requests request) ≡ session
session_found c request session h = ap session_of (found_last c.requests (record { name = request; session = session; active = fresh }) h)

-- the contexts of a world in which a request has begun
begun_contexts : (w : World) (request : List ℕ) (session : Option (List ℕ))
    → with_request_begun request session w ≡ with_contexts (with_begun request session) w
begun_contexts w request None = refl
begun_contexts w request (Some s) = by (is_new w.contexts s)
  where
    by : (b : Bool)
        → with_contexts (with_request request (Some s)) (elim b [ true ↦ with_contexts (with_session s) w | false ↦ w ])
        ≡ with_contexts (λ c. with_request request (Some s) (cond b (with_session s c) c)) w
    by true = refl
    by false = refl

begun_session : (c : Contexts) (request : List ℕ) (session : Option (List ℕ))
    → request_in c.requests request ≡ None
    → session_of (request_in (with_begun request session c).requests request) ≡ session
begun_session c request None h = session_found c request None h
begun_session c request (Some s) h = by (is_new c s)
  where
    by : (b : Bool)
        → session_of (request_in (with_request request (Some s) (cond b (with_session s c) c)).requests request)
        ≡ Some s
    by true = session_found (with_session s c) request (Some s) h
    by false = session_found c request (Some s) h

-- the command runs in what has begun
pub begun : (w : World) (request : List ℕ) (session : Option (List ℕ))
    → begin_refusal w.contexts request session ≡ None
    → record w { contexts = with_begun request session w.contexts; environment = record { request = Some request; session = session } }
    ≡ standing_in (Some request) (with_request_begun request session w)
begun w request session h =
    ap (λ s. let v : World = record w { contexts = with_begun request session w.contexts; environment = record { request = Some request; session = s } } in v)
    (sym (begun_session w.contexts request session (not_refused w.contexts request session h)))
    ∙ ap (standing_in (Some request)) (sym (begun_contexts w request session))

-- a mark that is refused changes nothing
marked_before : (c : Contexts) (name : List ℕ) (r : Refusal) → invalidate_refusal c name ≡ Some r
    → with_mark name c ≡ c
marked_before c name r h = by (session_in c.sessions name) refl
  where
    of : (s : OpenSession) (b : Bool) → s.is_marked ≡ b → session_in c.sessions name ≡ Some s
        → with_mark name c ≡ c
    of s true m e =
        ap (λ ss. let d : Contexts = record c { sessions = ss } in d)
        (changed_same (λ s. s.name) name (λ s. record s { is_marked = true }) c.sessions s e (ap (λ x. let t : OpenSession = record s { is_marked = x } in t) (sym m)))
    of s false m e = absurd (let z = rw (e, m) at h in cc)

    by : (o : Option OpenSession) → session_in c.sessions name ≡ o → with_mark name c ≡ c
    by None e = ap (λ ss. let d : Contexts = record c { sessions = ss } in d) (changed_absent (λ s. s.name) name (λ s. record s { is_marked = true }) c.sessions e)
    by (Some s) e = of s s.is_marked refl e

pub marked : {X : Type 0} (old new : Standing) (name : List ℕ) (r : Result X Refusal)
    → OnOk r (new ≡ with_marked name old)
    → IfErr r (IsBy (invalidate_refusal old.contexts name)) → OnErr r (new ≡ old)
    → new.contexts ≡ with_mark name old.contexts
marked old new name (Ok x) goes refused stays = ap (λ (s : Standing). s.contexts) goes
marked old new name (Err r) goes refused stays = ap (λ (s : Standing). s.contexts) stays ∙ sym (marked_before old.contexts name r refused)
