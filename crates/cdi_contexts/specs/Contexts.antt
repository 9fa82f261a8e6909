-- The contexts that are there, and how they change.
use Rattle.std.specs.Prelude.{ℕ, Bool, true, false, not, ◌&&◌, ◌==◌, ◌++◌, ◌∷◌, [], List, max, bytes_eq, Option, Some, None, option_map}
use Rattle.std.specs.List.{list_any}
use Rattle.cdi_base.specs.Maps.{Map, at, put_in_order, without}
use Rattle.cdi_base.specs.declared.scope.Scope.{Scope}
use Rattle.cdi_base.specs.declared.scope.Scope.TheVariants as scopes
use Rattle.cdi_store.specs.declared.instance.Context.{Context}
use Rattle.cdi_store.specs.declared.instance.Context.TheVariants.{Application, Request, Session}
use Rattle.cdi_contexts.specs.Named.{named, changed, without_name}
use Rattle.cdi_contexts.specs.declared.context.Status.{Status}
use Rattle.cdi_contexts.specs.declared.context.Status.TheVariants.{Open, Ending}
use Rattle.cdi_contexts.specs.declared.context.Held.{Held}
use Rattle.cdi_contexts.specs.declared.context.Held.TheVariants.{Making, Is}

-- What a context that isn't gone has: for beans, by their indices in rising order, their instances.
pub record Active : Type 0 where
  pub status : Status
  pub holds : Map Held

-- A request by its name, with the session that it belongs to.
pub record OpenRequest : Type 0 where
  pub name : List ℕ
  pub session : Option (List ℕ)
  pub active : Active

-- A session by its name. One that is marked ends with its last request.
pub record OpenSession : Type 0 where
  pub name : List ℕ
  pub is_marked : Bool
  pub active : Active

-- The contexts that aren't gone: requests in the order of their begin, sessions in that of their creation.
pub record Contexts : Type 0 where
  pub application : Option Active
  pub requests : List OpenRequest
  pub sessions : List OpenSession

-- The request and the session of a command.
pub record Environment : Type 0 where
  pub request : Option (List ℕ)
  pub session : Option (List ℕ)

-- ---- look-ups

abbrev pub request_in : List OpenRequest → List ℕ → Option OpenRequest
request_in = named (λ r. r.name)

abbrev pub session_in : List OpenSession → List ℕ → Option OpenSession
session_in = named (λ s. s.name)

-- the session that a request belongs to, if the request is there and has one
abbrev pub session_of_request : Contexts → List ℕ → Option (List ℕ)
session_of_request c name =
    elim (request_in c.requests name) [ None ↦ None | Some r ↦ r.session ]

-- the context, unless it is gone
abbrev pub context_at : Contexts → Context → Option Active
context_at c Application = c.application
context_at c (Request name) = option_map (λ r. r.active) (request_in c.requests name)
context_at c (Session name) = option_map (λ s. s.active) (session_in c.sessions name)

-- the context of a scope in an environment; the application is in every environment
abbrev pub context_of : Environment → Scope → Option Context
context_of e scopes.ApplicationScoped = Some Application
context_of e scopes.SessionScoped = option_map Session e.session
context_of e scopes.RequestScoped = option_map Request e.request
context_of e scopes.Dependent = None

abbrev pub context_among : Contexts → Option Context → Option Active
context_among c None = None
context_among c (Some context) = context_at c context

-- an entry takes the place of what the bean has without memory: it is the same, or the bean has one and it is `Making`
abbrev pub fits : Option Held → Held → Bool
fits None held = false
fits (Some before) Making = true
fits (Some Making) (Is n) = false
fits (Some (Is m)) (Is n) = m == n

-- the entry can be put there for the bean without memory: it fits, or the context is gone
abbrev pub has_place : Option Active → ℕ → Held → Bool
has_place None bean held = true
has_place (Some a) bean held = fits (at a.holds bean) held

-- the active context of a scope
abbrev pub active_context : Contexts → Environment → Scope → Option Active
active_context c e scope = context_among c (context_of e scope)

abbrev pub greater : Option ℕ → Held → Option ℕ
greater None (Is n) = Some n
greater (Some m) (Is n) = Some (max m n)
greater most Making = most

abbrev pub greatest : Option ℕ → Map Held → Option ℕ
greatest most [] = most
greatest most (h ∷ more) = greatest (greater most h.1) more

-- the greatest number of an instance that it has
abbrev pub last_in : Option Active → Option ℕ
last_in None = None
last_in (Some a) = greatest None a.holds

-- what it has for the bean
abbrev pub entry_in : Option Active → ℕ → Option Held
entry_in None bean = None
entry_in (Some a) bean = at a.holds bean

abbrev pub is_ending : Status → Bool
is_ending Open = false
is_ending Ending = true

abbrev pub is_ending_in : Option Active → Bool
is_ending_in None = false
is_ending_in (Some a) = is_ending a.status

abbrev pub belongs_to : List ℕ → OpenRequest → Bool
belongs_to session r = elim r.session [ None ↦ false | Some s ↦ bytes_eq s session ]

-- the session is marked, and has no open request
abbrev pub is_due : Contexts → List ℕ → Bool
is_due c name =
    elim (session_in c.sessions name) [
      | None ↦ false
      | Some s ↦ s.is_marked
          && not (list_any (belongs_to name) c.requests)
    ]

-- ---- changes

abbrev pub in_request : List ℕ → (Active → Active) → List OpenRequest → List OpenRequest
in_request name f = changed (λ r. r.name) name (λ r. record r { active = f r.active })

abbrev pub in_session : List ℕ → (OpenSession → OpenSession) → List OpenSession → List OpenSession
in_session = changed (λ s. s.name)

-- a context changed, unless it is gone
abbrev pub with_context : Context → (Active → Active) → Contexts → Contexts
with_context Application f c = record c { application = option_map f c.application }
with_context (Request name) f c = record c { requests = in_request name f c.requests }
with_context (Session name) f c =
    record c { sessions = in_session name (λ s. record s { active = f s.active }) c.sessions }

-- a context at its begin
abbrev pub fresh : Active
fresh = record { status = Open; holds = [] }

abbrev pub with_request : List ℕ → Option (List ℕ) → Contexts → Contexts
with_request name session c =
    record c {
      requests = c.requests ++ record { name = name; session = session; active = fresh } ∷ [];
    }

abbrev pub with_session : List ℕ → Contexts → Contexts
with_session name c =
    record c {
      sessions = c.sessions ++ record { name = name; is_marked = false; active = fresh } ∷ [];
    }

abbrev pub with_mark : List ℕ → Contexts → Contexts
with_mark name c =
    record c { sessions = in_session name (λ s. record s { is_marked = true }) c.sessions }

-- a context with this for the bean, with nothing for it, and one that is being destroyed
abbrev pub active_with : ℕ → Held → Active → Active
active_with bean held a = record a { holds = put_in_order bean held a.holds }

abbrev pub active_without : ℕ → Active → Active
active_without bean a = record a { holds = without bean a.holds }

abbrev pub ending_active : Active → Active
ending_active a = record a { status = Ending }

-- the context has this for the bean
abbrev pub with_held : ℕ → Held → Context → Contexts → Contexts
with_held bean held context = with_context context (active_with bean held)

-- the context has nothing for the bean
abbrev pub with_nothing : ℕ → Context → Contexts → Contexts
with_nothing bean context = with_context context (active_without bean)

-- the context is being destroyed
abbrev pub with_ending : Context → Contexts → Contexts
with_ending context = with_context context ending_active

-- the context is gone
abbrev pub without_context : Context → Contexts → Contexts
without_context Application c = record c { application = None }
without_context (Request name) c =
    record c { requests = without_name (λ r. r.name) name c.requests }
without_context (Session name) c =
    record c { sessions = without_name (λ s. s.name) name c.sessions }

-- the contexts at the boot
abbrev pub at_boot : Contexts
at_boot = record { application = Some fresh; requests = []; sessions = [] }
