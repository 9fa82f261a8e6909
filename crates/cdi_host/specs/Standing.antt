-- In which request and session a command runs, and how they come and go.
use Rattle.std.specs.Prelude.{List, ℕ, Bool, true, false, Option, Some, None, if◌then◌else◌}
use Rattle.cdi_base.specs.declared.scope.Scope.{Scope}
use Rattle.cdi_base.specs.declared.scope.Scope.TheVariants as scopes
use Rattle.cdi_store.specs.declared.instance.Context.{Context}
use Rattle.cdi_store.specs.declared.instance.Context.TheVariants.{Session}
use Rattle.cdi_contexts.specs.Contexts.{Contexts, is_due}
use Rattle.cdi_contexts.specs.Refusals.{is_new}
use Rattle.cdi_machine.specs.World.{World, Change, after_change}
use Rattle.cdi_machine.specs.Commands.{environment_of}

-- the command runs in the request, and in its session, or in none
abbrev pub standing_in : Option (List ℕ) → World → World
standing_in r w = after_change (Change.Stand (environment_of w.contexts r)) w

-- in the session alone
abbrev pub standing_in_session : List ℕ → World → World
standing_in_session s w = after_change (Change.Stand (record { request = None; session = Some s })) w

-- with a session, if it is new
abbrev pub with_session_begun : List ℕ → World → World
with_session_begun s w =
    elim (is_new w.contexts s) [ true ↦ after_change (Change.BeginSession s) w | false ↦ w ]

-- with a request, and with its session if that is new
abbrev pub with_request_begun : List ℕ → Option (List ℕ) → World → World
with_request_begun r None w = after_change (Change.BeginRequest r None) w
with_request_begun r (Some s) w =
    after_change (Change.BeginRequest r (Some s)) (with_session_begun s w)

-- a scope of which there may be several contexts, each with its name
abbrev pub has_named_contexts : Scope → Bool
has_named_contexts scopes.RequestScoped = true
has_named_contexts scopes.SessionScoped = true
has_named_contexts scope = false

-- the session, if it is due
abbrev pub due_in : Contexts → Option (List ℕ) → Option Context
due_in c None = None
due_in c (Some s) = if is_due c s then Some (Session s) else None

abbrev pub due_session : World → Option Context
due_session w = due_in w.contexts w.environment.session
