-- What stands once a request has begun.
use Rattle.std.proofs.Common.{◌≡◌, ◌∙◌, ℕ, ◌==◌, refl, ap, sym, List, [], ◌∷◌, ◌++◌, map, cond, not, true, false, Bool, Some, None, Option, option_map, is_some, bytes_eq}
use Rattle.std.proofs.lemmas.List.{map_push}
use Rattle.cdi_base.specs.Maps.{Map, at, without}
use Rattle.cdi_contexts.specs.declared.group.Kept.{Kept}
use Rattle.cdi_contexts.specs.Contexts.{Active, Contexts, OpenRequest, OpenSession, fresh, request_in, session_in}
use Rattle.cdi_contexts.specs.Refusals.{begin_refusal}
use Rattle.cdi_contexts.specs.Standing.{Begins, in_slot}
use Rattle.cdi_contexts.specs.Group.{kept_named, request_of, session_of, standing}
use Rattle.cdi_store.proofs.Absent.{nothing}
use Rattle.cdi_contexts.proofs.Slots.{own_number, same_bytes}
use Rattle.cdi_contexts.proofs.ByName.{in_slot_seen, named_seen}

-- a request that isn't there may be added
pub new_request_name : (a : Option Active) (m : Map (Kept (Option (List ℕ)))) (n : Map (Kept Bool)) (name : List ℕ) → request_in (standing a m n).contexts.requests name ≡ None → kept_named m name ≡ None
new_request_name a m n name h = nothing (λ p. request_of p.1) _ (sym (named_seen request_of (λ r. r.name) (λ k. refl) m name) ∙ h)

pub new_session_name : (a : Option Active) (m : Map (Kept (Option (List ℕ)))) (n : Map (Kept Bool)) (name : List ℕ) → session_in (standing a m n).contexts.sessions name ≡ None → kept_named n name ≡ None
new_session_name a m n name h = nothing (λ p. session_of p.1) _ (sym (named_seen session_of (λ s. s.name) (λ k. refl) n name) ∙ h)

pub not_refused : (c : Contexts) (request : List ℕ) (session : Option (List ℕ)) → begin_refusal c request session ≡ None → request_in c.requests request ≡ None
not_refused c request session h = by (request_in c.requests request) refl
  where
    by : (o : Option OpenRequest) → request_in c.requests request ≡ o → request_in c.requests request ≡ None
    by None e = e
    by (Some r) e = let b : is_some (request_in c.requests request) ≡ true = ap is_some e in absurd (let z = rw b at h in cc)

at_last : {X : Type 0} (m : Map X) (slot : ℕ) (x : X) → at m slot ≡ None → at (m ++ (slot, x) ∷ []) slot ≡ Some x
at_last [] slot x h = rw (own_number slot) refl
at_last (p ∷ more) slot x h = by (slot == p.0) h (at_last more slot x)
  where
    by : (b : Bool) → cond b (Some p.1) (at more slot) ≡ None → (at more slot ≡ None → at (more ++ (slot, x) ∷ []) slot ≡ Some x) → cond b (Some p.1) (at (more ++ (slot, x) ∷ []) slot) ≡ Some x
    by true i rest = absurd cc
    by false i rest = rest i

-- what was added last taken out again
pub taken_back : {X : Type 0} (m : Map X) (slot : ℕ) (x : X) → at m slot ≡ None → without slot (m ++ (slot, x) ∷ []) ≡ m
taken_back [] slot x h = rw (own_number slot) refl
taken_back (p ∷ more) slot x h = by (slot == p.0) h (taken_back more slot x)
  where
    by : (b : Bool) → cond b (Some p.1) (at more slot) ≡ None → (at more slot ≡ None → without slot (more ++ (slot, x) ∷ []) ≡ more)
        → cond (not b) (p ∷ without slot (more ++ (slot, x) ∷ [])) (without slot (more ++ (slot, x) ∷ [])) ≡ p ∷ more
    by true i rest = absurd cc
    by false i rest = ap (λ r. p ∷ r) (rest i)

pub named_name : (xs : List OpenSession) (name : List ℕ) (s : OpenSession) → session_in xs name ≡ Some s → s.name ≡ name
named_name [] name s h = absurd cc
named_name (x ∷ more) name s h = by (bytes_eq x.name name) refl h (named_name more name s)
  where
    by : (b : Bool) → bytes_eq x.name name ≡ b → cond b (Some x) (session_in more name) ≡ Some s → (session_in more name ≡ Some s → s.name ≡ name) → s.name ≡ name
    by true e i rest = let same : x ≡ s = cc in ap (λ (y : OpenSession). y.name) (sym same) ∙ same_bytes x.name name e
    by false e i rest = rest i

abbrev pub new_kept : List ℕ → Option (List ℕ) → Kept (Option (List ℕ))
new_kept name session = record { name = name; detail = session; table = fresh }

module _ (a : Option Active) (m : Map (Kept (Option (List ℕ)))) (n : Map (Kept Bool)) (request : List ℕ) (slot : ℕ) (free : at m slot ≡ None) where
  -- the new request is in its slot, which was empty
  was : in_slot (map (λ p. p.0) m) (map (λ p. request_of p.1) m) slot ≡ None
  was = in_slot_seen request_of (λ r. r.name) (λ k. refl) m slot ∙ ap (option_map request_of) free

  is : (session : Option (List ℕ)) → in_slot (map (λ p. p.0) (m ++ (slot, new_kept request session) ∷ [])) (map (λ p. request_of p.1) (m ++ (slot, new_kept request session) ∷ [])) slot ≡ Some (request_of (new_kept request session))
  is session = in_slot_seen request_of (λ r. r.name) (λ k. refl) (m ++ (slot, new_kept request session) ∷ []) slot ∙ ap (option_map request_of) (at_last m slot (new_kept request session) free)

  pub begins_alone : Begins request None (standing a m n) (record { request = Some slot; session = None }) (standing a (m ++ (slot, new_kept request None) ∷ []) n)
  begins_alone = record {
    contexts = ap (λ rs. record { application = a; requests = rs; sessions = map (λ p. session_of p.1) n }) (map_push (λ p. request_of p.1) m (slot, new_kept request None));
    environment = ap (λ o. record { request = option_map (λ r. r.name) o; session = None }) (is None);
    earlier = ap (λ o. record { request = option_map (λ r. r.name) o; session = None }) was;
    request_slots = map_push (λ p. p.0) m (slot, new_kept request None);
    session_slots = refl;
  }

  pub begins_known : (session : List ℕ) (session_slot : ℕ) (s : OpenSession) → session_in (map (λ p. session_of p.1) n) session ≡ Some s → in_slot (map (λ p. p.0) n) (map (λ p. session_of p.1) n) session_slot ≡ Some s
      → Begins request (Some session) (standing a m n) (record { request = Some slot; session = Some session_slot }) (standing a (m ++ (slot, new_kept request (Some session)) ∷ []) n)
  begins_known session session_slot s known there =
      let name : s.name ≡ session = named_name (map (λ p. session_of p.1) n) session s known in
      record {
        contexts = rw known (ap (λ rs. record { application = a; requests = rs; sessions = map (λ p. session_of p.1) n }) (map_push (λ p. request_of p.1) m (slot, new_kept request (Some session))));
        environment = rw (is (Some session), there) (ap (λ t. record { request = Some request; session = Some t }) name);
        earlier = rw (was, there, known) refl;
        request_slots = map_push (λ p. p.0) m (slot, new_kept request (Some session));
        session_slots = rw known refl;
      }

  pub begins_both : (session : List ℕ) (session_slot : ℕ) → at n session_slot ≡ None → session_in (map (λ p. session_of p.1) n) session ≡ None
      → Begins request (Some session) (standing a m n) (record { request = Some slot; session = Some session_slot })
      (standing a (m ++ (slot, new_kept request (Some session)) ∷ []) (n ++ (session_slot, record { name = session; detail = false; table = fresh }) ∷ []))
  begins_both session session_slot empty new =
      let k : Kept Bool = record { name = session; detail = false; table = fresh } in
      let was_free : in_slot (map (λ p. p.0) n) (map (λ p. session_of p.1) n) session_slot ≡ None = in_slot_seen session_of (λ s. s.name) (λ k. refl) n session_slot ∙ ap (option_map session_of) empty in
      let now : in_slot (map (λ p. p.0) (n ++ (session_slot, k) ∷ [])) (map (λ p. session_of p.1) (n ++ (session_slot, k) ∷ [])) session_slot ≡ Some (session_of k) =
      in_slot_seen session_of (λ s. s.name) (λ k. refl) (n ++ (session_slot, k) ∷ []) session_slot ∙ ap (option_map session_of) (at_last n session_slot k empty) in
      record {
        contexts = rw new (rw (map_push (λ p. request_of p.1) m (slot, new_kept request (Some session)), map_push (λ p. session_of p.1) n (session_slot, k)) refl);
        environment = rw (is (Some session), now) refl;
        earlier = rw (was, was_free, new) refl;
        request_slots = map_push (λ p. p.0) m (slot, new_kept request (Some session));
        session_slots = rw new (map_push (λ p. p.0) n (session_slot, k));
      }
