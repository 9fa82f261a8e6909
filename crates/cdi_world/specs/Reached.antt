-- What is reached by the names of an environment, and what an instance has a place in.
use Rattle.std.specs.Prelude.{ℕ, List, Option, Some, None, option_map}
use Rattle.cdi_base.specs.declared.scope.Scope.{Scope}
use Rattle.cdi_base.specs.declared.scope.Scope.TheVariants as scopes
use Rattle.cdi_store.specs.declared.instance.Context.{Context}
use Rattle.cdi_store.specs.declared.instance.Context.TheVariants as contexts
use Rattle.cdi_contexts.specs.Contexts.{Contexts, Environment, request_in, session_in}
use Rattle.cdi_machine.specs.World.{World, for_instance, instance_at, with_owned, without_making, without_owned}

-- the scope of a context
abbrev pub scope_of : Context → Scope
scope_of contexts.Application = scopes.ApplicationScoped
scope_of (contexts.Request name) = scopes.RequestScoped
scope_of (contexts.Session name) = scopes.SessionScoped

-- the name, if a request has it, and if a session has it
abbrev pub request_there : Contexts → Option (List ℕ) → Option (List ℕ)
request_there c None = None
request_there c (Some name) = option_map (λ r. r.name) (request_in c.requests name)

abbrev pub session_there : Contexts → Option (List ℕ) → Option (List ℕ)
session_there c None = None
session_there c (Some name) = option_map (λ s. s.name) (session_in c.sessions name)

-- the environment with those names alone that are there
abbrev pub environment_there : Contexts → Environment → Environment
environment_there c e =
    record { request = request_there c e.request; session = session_there c e.session }

-- the name of the context of a scope, if that is named
abbrev pub name_in : Environment → Scope → Option (List ℕ)
name_in e scopes.RequestScoped = e.request
name_in e scopes.SessionScoped = e.session
name_in e scope = None

-- ---- an instance, if it is there, and what has it beside the dependents of its owner

-- its context or the temporaries have it
abbrev pub with_home : ℕ → World → World
with_home n w = for_instance w (instance_at w n) λ o. with_owned n o.component o.owner w

-- they have it no longer
abbrev pub without_home : ℕ → World → World
without_home n w = for_instance w (instance_at w n) λ o. without_owned n o.component o.owner w

-- its context has it no longer
abbrev pub without_context_home : ℕ → World → World
without_context_home n w =
    for_instance w (instance_at w n) λ o. without_making o.component o.owner w
