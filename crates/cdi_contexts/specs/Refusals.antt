-- What the contexts refuse, and why.
use Rattle.std.specs.Prelude.{ℕ, Bool, false, not, nat_le, ◌&&◌, ◌∷◌, [], List, length, Option, Some, None, is_some, if◌then◌else◌}
use Rattle.cdi_base.specs.declared.reply.Refusal.{Refusal}
use Rattle.cdi_base.specs.declared.reply.Refusal.TheVariants as refusals
use Rattle.cdi_contexts.specs.Contexts.{Contexts, OpenSession, request_in, session_in}

-- ---- requests and sessions by their names

abbrev pub is_open : Contexts → List ℕ → Bool
is_open c r = is_some (request_in c.requests r)

-- no such session is there
abbrev pub is_new : Contexts → List ℕ → Bool
is_new c s = not (is_some (session_in c.sessions s))

abbrev pub is_marked_in : Option OpenSession → Bool
is_marked_in None = false
is_marked_in (Some s) = s.is_marked

-- the session is there, and marked
abbrev pub is_marked : Contexts → List ℕ → Bool
is_marked c s = is_marked_in (session_in c.sessions s)

-- the session, if one is named that is there
abbrev pub session_for : Contexts → Option (List ℕ) → Option OpenSession
session_for c None = None
session_for c (Some name) = session_in c.sessions name

-- a request is named that isn't there
abbrev pub lacks_request : Contexts → Option (List ℕ) → Bool
lacks_request c None = false
lacks_request c (Some r) = not (is_open c r)

-- a session is named that isn't there
abbrev pub opens_session : Contexts → Option (List ℕ) → Bool
opens_session c None = false
opens_session c (Some s) = is_new c s

-- a session is named that is there, and marked
abbrev pub joins_marked : Contexts → Option (List ℕ) → Bool
joins_marked c s = is_marked_in (session_for c s)

-- ---- what is refused

-- the first whose condition holds
abbrev pub first_that_holds : List (Bool × Refusal) → Option Refusal
first_that_holds [] = None
first_that_holds (p ∷ more) = if p.0 then Some p.1 else first_that_holds more

-- the begin of a request, in a session if one is named
abbrev pub begin_refusals : Contexts → List ℕ → Option (List ℕ) → List (Bool × Refusal)
begin_refusals c r s =
    (is_open c r, refusals.RequestOpen) ∷
    (joins_marked c s, refusals.SessionEnding) ∷
    (nat_le 256 (length c.requests), refusals.TooManyRequests) ∷
    (opens_session c s && nat_le 1024 (length c.sessions), refusals.TooManySessions) ∷ []

-- the invalidation of a session
abbrev pub invalidate_refusals : Contexts → List ℕ → List (Bool × Refusal)
invalidate_refusals c s =
    (is_new c s, refusals.NoSession) ∷ (is_marked c s, refusals.SessionEnding) ∷ []

-- what is done in a request, or in none
abbrev pub request_refusals : Contexts → Option (List ℕ) → List (Bool × Refusal)
request_refusals c r = (lacks_request c r, refusals.NoRequest) ∷ []

abbrev pub begin_refusal : Contexts → List ℕ → Option (List ℕ) → Option Refusal
begin_refusal c r s = first_that_holds (begin_refusals c r s)

abbrev pub invalidate_refusal : Contexts → List ℕ → Option Refusal
invalidate_refusal c s = first_that_holds (invalidate_refusals c s)

abbrev pub request_refusal : Contexts → Option (List ℕ) → Option Refusal
request_refusal c r = first_that_holds (request_refusals c r)
