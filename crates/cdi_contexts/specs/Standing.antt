-- The contexts with the slots that they are reached by, and what is refused.
use Rattle.std.specs.Prelude.{◌≡◌, ℕ, Bool, false, not, nat_eq, ◌==◌, ◌++◌, ◌∷◌, [], List, length, filter, Option, Some, None, if◌then◌else◌, option_map}
use Rattle.std.specs.List.{IsDistinct}
use Rattle.cdi_base.specs.declared.reply.Refusal.{Refusal}
use Rattle.cdi_base.specs.declared.scope.Scope.{Scope}
use Rattle.cdi_base.specs.declared.scope.Scope.TheVariants as scopes
use Rattle.cdi_store.specs.declared.instance.Context.{Context}
use Rattle.cdi_store.specs.declared.instance.Context.TheVariants as contexts
use Rattle.cdi_contexts.specs.Named.{HaveOwnNames}
use Rattle.cdi_contexts.specs.Refusals.{session_for, is_new, opens_session, begin_refusal, request_refusal}
use Rattle.cdi_contexts.specs.declared.context.Env.{Env}
use Rattle.cdi_contexts.specs.Contexts.{Active, Contexts, Environment, OpenRequest, OpenSession, request_in, session_in, active_context, context_of, at_boot, is_due, is_ending, with_mark, with_request, with_session, with_ending, without_context}

-- The contexts, and the slots of the requests and of the sessions in the order of those.
pub record Standing : Type 0 where
  pub contexts : Contexts
  pub request_slots : List ℕ
  pub session_slots : List ℕ

-- Each request and each session has a slot and a name of its own.
pub record IsOrderly (s : Standing) : Type 0 where
  pub request_slots : IsDistinct nat_eq s.request_slots
  pub session_slots : IsDistinct nat_eq s.session_slots
  pub request_names : HaveOwnNames (λ r. r.name) s.contexts.requests
  pub session_names : HaveOwnNames (λ r. r.name) s.contexts.sessions
  pub requests : length s.request_slots ≡ length s.contexts.requests
  pub sessions : length s.session_slots ≡ length s.contexts.sessions

-- the thing whose slot this is
abbrev pub in_slot : {X : Type 0} → List ℕ → List X → ℕ → Option X
in_slot [] xs slot = None
in_slot (s ∷ slots) [] slot = None
in_slot (s ∷ slots) (x ∷ xs) slot = if slot == s then Some x else in_slot slots xs slot

abbrev pub of_slot : {X Y : Type 0} → (ℕ → Option X) → Option ℕ → (X → Y) → Option Y
of_slot f None g = None
of_slot f (Some slot) g = option_map g (f slot)

-- the request and the session of a slot, and those of a name
abbrev pub request_at : Standing → ℕ → Option OpenRequest
request_at s = in_slot s.request_slots s.contexts.requests

abbrev pub session_at : Standing → ℕ → Option OpenSession
session_at s = in_slot s.session_slots s.contexts.sessions

abbrev pub request_by : Standing → List ℕ → Option OpenRequest
request_by s = request_in s.contexts.requests

abbrev pub session_by : Standing → List ℕ → Option OpenSession
session_by s = session_in s.contexts.sessions

-- the name of what is in a slot, and the name if something has it
abbrev pub request_name_at : Standing → Option ℕ → Option (List ℕ)
request_name_at s slot = of_slot (request_at s) slot (λ r. r.name)

abbrev pub session_name_at : Standing → Option ℕ → Option (List ℕ)
session_name_at s slot = of_slot (session_at s) slot (λ r. r.name)

abbrev pub request_name : Standing → List ℕ → Option (List ℕ)
request_name s name = option_map (λ r. r.name) (request_by s name)

abbrev pub session_name : Standing → List ℕ → Option (List ℕ)
session_name s name = option_map (λ r. r.name) (session_by s name)

-- the names of the contexts in the slots
abbrev pub environment_of : Standing → Env → Environment
environment_of s env =
    record {
      request = of_slot (in_slot s.request_slots s.contexts.requests) env.request (λ r. r.name);
      session = of_slot (in_slot s.session_slots s.contexts.sessions) env.session (λ r. r.name);
    }

-- the name of the session, if a request names one that is there
abbrev pub session_name_for : Standing → Option (List ℕ) → Option (List ℕ)
session_name_for s session = option_map (λ r. r.name) (session_for s.contexts session)

-- ---- what is refused

-- why a request doesn't begin: the first reason that holds
abbrev pub refusal_at : Standing → List ℕ → Option (List ℕ) → Option Refusal
refusal_at s = begin_refusal s.contexts

-- a refusal is this one
abbrev pub IsBy : Option Refusal → Refusal → Type 0
IsBy refusal r = refusal ≡ Some r

-- the end of a request is refused
abbrev pub RefusesEnd : Standing → List ℕ → Refusal → Type 0
RefusesEnd s name r = IsBy (request_refusal s.contexts (Some name)) r

-- ---- environments

-- the names of an environment, if there is one
abbrev pub environment_if : Standing → Option Env → Option Environment
environment_if s env = option_map (environment_of s) env

-- the environment has this session alone
abbrev pub IsAloneIn : Standing → List ℕ → Env → Type 0
IsAloneIn s name env = environment_of s env ≡ record { request = None; session = Some name }

-- a request and its session, if that is there
abbrev pub environment_for : Contexts → OpenRequest → Environment
environment_for c r =
    record { request = Some r.name; session = option_map (λ s. s.name) (session_for c r.session) }

-- the environment is that of the request of this name
abbrev pub EndsIn : Standing → List ℕ → Env → Type 0
EndsIn s name env =
    Some (environment_of s env) ≡ option_map (environment_for s.contexts) (request_by s name)

abbrev pub session_environment : OpenSession → Environment
session_environment s = record { request = None; session = Some s.name }

-- the environment that has just this context, if it is there
abbrev pub environment_with : Contexts → Context → Environment
environment_with c contexts.Application = record { request = None; session = None }
environment_with c (contexts.Request name) =
    record { request = option_map (λ r. r.name) (request_in c.requests name); session = None }
environment_with c (contexts.Session name) =
    record { request = None; session = option_map (λ s. s.name) (session_in c.sessions name) }

-- the first that isn't being destroyed
abbrev pub first_open : {X : Type 0} → (X → Active) → List X → Option X
first_open active [] = None
first_open active (x ∷ more) =
    if is_ending (active x).status then first_open active more else Some x

abbrev pub first_open_request : Standing → Option OpenRequest
first_open_request s = first_open (λ r. r.active) s.contexts.requests

abbrev pub first_open_session : Standing → Option OpenSession
first_open_session s = first_open (λ s. s.active) s.contexts.sessions

-- the environment of the first context of a scope that isn't being destroyed
abbrev pub oldest_environment : Contexts → Scope → Option Environment
oldest_environment c scopes.RequestScoped =
    option_map (environment_for c) (first_open (λ r. r.active) c.requests)
oldest_environment c scopes.SessionScoped =
    option_map session_environment (first_open (λ s. s.active) c.sessions)
oldest_environment c _ = None

-- the session is marked, and no request that is there belongs to it
abbrev pub is_due_in : Contexts → Option (List ℕ) → Bool
is_due_in c None = false
is_due_in c (Some name) = is_due c name

-- ---- a begin

-- the contexts with a request, and with its session if that is new
abbrev pub with_begun : List ℕ → Option (List ℕ) → Contexts → Contexts
with_begun request None c = with_request request None c
with_begun request (Some session) c =
    with_request request (Some session) (if is_new c session then with_session session c else c)

abbrev pub with_slot : Option ℕ → List ℕ → List ℕ
with_slot None slots = slots
with_slot (Some slot) slots = slots ++ slot ∷ []

-- the request has begun in an environment; its slot, and that of a new session, were no one's
pub record Begins (request : List ℕ) (session : Option (List ℕ)) (old : Standing) (env : Env)
    (new : Standing) : Type 0 where
  pub contexts : new.contexts ≡ with_begun request session old.contexts
  pub environment : environment_of new env ≡ record { request = Some request; session = session }
  pub earlier : environment_of old env
      ≡ record {
        request = None;
        session = option_map (λ s. s.name) (session_for old.contexts session);
      }
  pub request_slots : new.request_slots ≡ with_slot env.request old.request_slots
  pub session_slots : new.session_slots
      ≡ (if opens_session old.contexts session then with_slot env.session old.session_slots
      else old.session_slots)

-- ---- changes in an environment

abbrev pub for_context : Option Context → (Context → Contexts → Contexts) → Contexts → Contexts
for_context None change c = c
for_context (Some context) change c = change context c

-- the context of a scope changed, if it is there; the slots stay
abbrev pub in_env : Env → Scope → (Context → Contexts → Contexts) → Standing → Standing
in_env env scope change s =
    record s { contexts = for_context (context_of (environment_of s env) scope) change s.contexts }

-- what is active in an environment
abbrev pub active_in : Standing → Env → Scope → Option Active
active_in s env scope = active_context s.contexts (environment_of s env) scope

-- nothing stands but the application
abbrev pub nothing_begun : Standing
nothing_begun = record { contexts = at_boot; request_slots = []; session_slots = [] }

abbrev pub all_but_slot : Option ℕ → List ℕ → List ℕ
all_but_slot None slots = slots
all_but_slot (Some slot) slots = filter (λ s. not (slot == s)) slots

-- the context of a scope gone, and its slot free
abbrev pub without_env : Env → Scope → Standing → Standing
without_env env scopes.RequestScoped s =
    record (in_env env scopes.RequestScoped without_context s)
    { request_slots = all_but_slot env.request s.request_slots }
without_env env scopes.SessionScoped s =
    record (in_env env scopes.SessionScoped without_context s)
    { session_slots = all_but_slot env.session s.session_slots }
without_env env scope s = in_env env scope without_context s

-- an open context is being destroyed, and one that was being destroyed is gone
abbrev pub with_step : Env → Scope → Option Active → Standing → Standing
with_step env scope None s = s
with_step env scope (Some a) s =
    if is_ending a.status then without_env env scope s else in_env env scope with_ending s

-- a session that is marked
abbrev pub with_marked : List ℕ → Standing → Standing
with_marked name s = record s { contexts = with_mark name s.contexts }
