-- The environment that has just one context reaches that context, and the names that are there reach what all do.
use Rattle.std.proofs.Common.{◌≡◌, ◌∙◌, ℕ, List, true, false, cond, Option, Some, None, option_map, refl, ap, sym}
use Rattle.cdi_base.specs.declared.scope.Scope.{Scope}
use Rattle.cdi_base.specs.declared.scope.Scope.TheVariants as scopes
use Rattle.cdi_store.specs.declared.instance.Context.{Context}
use Rattle.cdi_store.specs.declared.instance.Context.TheVariants.{Application, Request, Session}
use Rattle.cdi_contexts.specs.declared.context.Env.{Env}
use Rattle.cdi_contexts.specs.declared.context.Status.{Status}
use Rattle.cdi_contexts.specs.declared.context.Status.TheVariants.{Open, Ending}
use Rattle.cdi_contexts.specs.Contexts.{Active, Contexts, Environment, OpenRequest, OpenSession, request_in, session_in, context_at, context_of, context_among, active_context, ending_active, is_due, is_ending, is_ending_in, last_in, with_context, with_ending, without_context}
use Rattle.cdi_contexts.specs.Standing.{Standing, active_in, environment_of, environment_with, for_context, in_env, is_due_in, with_step, without_env}
use Rattle.cdi_machine.specs.Destruction.{greatest_in}
use Rattle.cdi_host.specs.Standing.{due_in}
use Rattle.cdi_world.specs.Reached.{environment_there, request_there, session_there, scope_of}
use Rattle.cdi_world.proofs.Changed.{own_name, changed_absent, changed_same, without_absent, named_changed, without_changed}

-- ---- the names that are there

pub active_there : (c : Contexts) (e : Environment) (scope : Scope)
    → active_context c (environment_there c e) scope ≡ active_context c e scope
active_there c e scopes.ApplicationScoped = refl
active_there c e scopes.Dependent = refl
active_there c e scopes.RequestScoped = of e.request
  where
    by : (name : List ℕ) (o : Option OpenRequest) → request_in c.requests name ≡ o
        → context_among c (option_map Request (option_map (λ r. r.name) o))
        ≡ context_at c (Request name)
    by name None h = sym (ap (option_map (λ r. r.active)) h)
    by name (Some r) h = ap (λ n. context_at c (Request n)) (own_name (λ r. r.name) name c.requests r h)

    of : (o : Option (List ℕ))
        → context_among c (option_map Request (request_there c o))
        ≡ context_among c (option_map Request o)
    of None = refl
    of (Some name) = by name (request_in c.requests name) refl
active_there c e scopes.SessionScoped = of e.session
  where
    by : (name : List ℕ) (o : Option OpenSession) → session_in c.sessions name ≡ o
        → context_among c (option_map Session (option_map (λ s. s.name) o))
        ≡ context_at c (Session name)
    by name None h = sym (ap (option_map (λ s. s.active)) h)
    by name (Some s) h = ap (λ n. context_at c (Session n)) (own_name (λ s. s.name) name c.sessions s h)

    of : (o : Option (List ℕ))
        → context_among c (option_map Session (session_there c o))
        ≡ context_among c (option_map Session o)
    of None = refl
    of (Some name) = by name (session_in c.sessions name) refl

-- a session that isn't there isn't due
pub due_there : (c : Contexts) (o : Option (List ℕ))
    → due_in c o ≡ cond (is_due_in c (session_there c o)) (option_map Session o) None
due_there c None = refl
due_there c (Some name) = ap (λ b. cond b (Some (Session name)) None) (sym (by (session_in c.sessions name) refl))
  where
    by : (o : Option OpenSession) → session_in c.sessions name ≡ o
        → is_due_in c (option_map (λ s. s.name) o) ≡ is_due c name
    by None h = rw (h, is_due) refl
    by (Some s) h = ap (is_due c) (own_name (λ s. s.name) name c.sessions s h)

-- ---- a context that is gone changes nothing

pub change_absent : (c : Contexts) (context : Context) (f : Active → Active)
    → context_at c context ≡ None
    → with_context context f c ≡ c
change_absent c Application f h = ap (λ a. let d : Contexts = record c { application = a } in d) (ap (option_map f) h ∙ sym h)
change_absent c (Request name) f h = by (request_in c.requests name) refl h
  where
    by : (o : Option OpenRequest) → request_in c.requests name ≡ o
        → option_map (λ r. r.active) o ≡ None → with_context (Request name) f c ≡ c
    by None e i = ap (λ rs. let d : Contexts = record c { requests = rs } in d) (changed_absent (λ r. r.name) name (λ r. record r { active = f r.active }) c.requests e)
    by (Some r) e i = absurd cc
change_absent c (Session name) f h = by (session_in c.sessions name) refl h
  where
    by : (o : Option OpenSession) → session_in c.sessions name ≡ o
        → option_map (λ s. s.active) o ≡ None → with_context (Session name) f c ≡ c
    by None e i = ap (λ ss. let d : Contexts = record c { sessions = ss } in d) (changed_absent (λ s. s.name) name (λ s. record s { active = f s.active }) c.sessions e)
    by (Some s) e i = absurd cc

pub change_same : (c : Contexts) (context : Context) (f : Active → Active) (a : Active)
    → context_at c context ≡ Some a → f a ≡ a
    → with_context context f c ≡ c
change_same c Application f a h e = ap (λ o. let d : Contexts = record c { application = o } in d) (ap (option_map f) h ∙ ap (λ x. Some x) e ∙ sym h)
change_same c (Request name) f a h e = by (request_in c.requests name) refl h
  where
    by : (o : Option OpenRequest) → request_in c.requests name ≡ o
        → option_map (λ r. r.active) o ≡ Some a → with_context (Request name) f c ≡ c
    by None q i = absurd cc
    by (Some r) q i =
        let own : r.active ≡ a = cc in
        ap (λ rs. let d : Contexts = record c { requests = rs } in d)
        (changed_same (λ r. r.name) name (λ r. record r { active = f r.active }) c.requests r q
        (ap (λ x. let s : OpenRequest = record r { active = x } in s) (ap f own ∙ e ∙ sym own)))
change_same c (Session name) f a h e = by (session_in c.sessions name) refl h
  where
    by : (o : Option OpenSession) → session_in c.sessions name ≡ o
        → option_map (λ s. s.active) o ≡ Some a → with_context (Session name) f c ≡ c
    by None q i = absurd cc
    by (Some r) q i =
        let own : r.active ≡ a = cc in
        ap (λ ss. let d : Contexts = record c { sessions = ss } in d)
        (changed_same (λ s. s.name) name (λ s. record s { active = f s.active }) c.sessions r q
        (ap (λ x. let s : OpenSession = record r { active = x } in s) (ap f own ∙ e ∙ sym own)))

gone_absent : (c : Contexts) (context : Context) → context_at c context ≡ None
    → without_context context c ≡ c
gone_absent c Application h = ap (λ o. let d : Contexts = record c { application = o } in d) (sym h)
gone_absent c (Request name) h = by (request_in c.requests name) refl h
  where
    by : (o : Option OpenRequest) → request_in c.requests name ≡ o
        → option_map (λ r. r.active) o ≡ None → without_context (Request name) c ≡ c
    by None e i = ap (λ rs. let d : Contexts = record c { requests = rs } in d) (without_absent (λ r. r.name) name c.requests e)
    by (Some r) e i = absurd cc
gone_absent c (Session name) h = by (session_in c.sessions name) refl h
  where
    by : (o : Option OpenSession) → session_in c.sessions name ≡ o
        → option_map (λ s. s.active) o ≡ None → without_context (Session name) c ≡ c
    by None e i = ap (λ ss. let d : Contexts = record c { sessions = ss } in d) (without_absent (λ s. s.name) name c.sessions e)
    by (Some s) e i = absurd cc

-- ---- the environment that has just one context

-- the context of the scope there
abbrev just : Contexts → Context → Option Context
just c context = context_of (environment_with c context) (scope_of context)

-- it is the context, or that is gone
just_is : {Y : Type 0} (c : Contexts) (context : Context) (g : Option Context → Y)
    → (context_at c context ≡ None → g None ≡ g (Some context))
    → g (just c context) ≡ g (Some context)
just_is c Application g gone = refl
just_is c (Request name) g gone = by (request_in c.requests name) refl
  where
    by : (o : Option OpenRequest) → request_in c.requests name ≡ o
        → g (option_map Request (option_map (λ r. r.name) o)) ≡ g (Some (Request name))
    by None h = gone (ap (option_map (λ r. r.active)) h)
    by (Some r) h = ap (λ n. g (Some (Request n))) (own_name (λ r. r.name) name c.requests r h)
just_is c (Session name) g gone = by (session_in c.sessions name) refl
  where
    by : (o : Option OpenSession) → session_in c.sessions name ≡ o
        → g (option_map Session (option_map (λ s. s.name) o)) ≡ g (Some (Session name))
    by None h = gone (ap (option_map (λ s. s.active)) h)
    by (Some s) h = ap (λ n. g (Some (Session n))) (own_name (λ s. s.name) name c.sessions s h)

module _ (s : Standing) (env : Env) (context : Context) (is : environment_of s env ≡ environment_with s.contexts context) where
  pub reached_at : active_in s env (scope_of context) ≡ context_at s.contexts context
  reached_at =
      ap (λ e. active_context s.contexts e (scope_of context)) is
      ∙ just_is s.contexts context (context_among s.contexts) (λ h. sym h)

  pub reached_change : (f : Active → Active)
      → (in_env env (scope_of context) (λ x. with_context x f) s).contexts
      ≡ with_context context f s.contexts
  reached_change f =
      ap (λ e. for_context (context_of e (scope_of context)) (λ x. with_context x f) s.contexts) is
      ∙ just_is s.contexts context (λ o. for_context o (λ x. with_context x f) s.contexts) (λ h. sym (change_absent s.contexts context f h))

  reached_gone : for_context (context_of (environment_of s env) (scope_of context)) without_context s.contexts
      ≡ without_context context s.contexts
  reached_gone =
      ap (λ e. for_context (context_of e (scope_of context)) without_context s.contexts) is
      ∙ just_is s.contexts context (λ o. for_context o without_context s.contexts) (λ h. sym (gone_absent s.contexts context h))

-- ---- its end

gone_contexts : (s : Standing) (env : Env) (scope : Scope)
    → (without_env env scope s).contexts
    ≡ for_context (context_of (environment_of s env) scope) without_context s.contexts
gone_contexts s env scopes.ApplicationScoped = refl
gone_contexts s env scopes.RequestScoped = refl
gone_contexts s env scopes.SessionScoped = refl
gone_contexts s env scopes.Dependent = refl

-- an open context is ending
pub finished : (s : Standing) (env : Env) (context : Context)
    → environment_of s env ≡ environment_with s.contexts context
    → is_ending_in (active_in s env (scope_of context)) ≡ false
    → (with_step env (scope_of context) (active_in s env (scope_of context)) s).contexts
    ≡ with_ending context s.contexts
finished s env context is now = by (active_in s env (scope_of context)) (reached_at s env context is) now
  where
    on : (a : Active) → is_ending a.status ≡ false
        → (with_step env (scope_of context) (Some a) s).contexts ≡ with_ending context s.contexts
    on a h = rw h (reached_change s env context is ending_active)

    by : (o : Option Active) → o ≡ context_at s.contexts context → is_ending_in o ≡ false
        → (with_step env (scope_of context) o s).contexts ≡ with_ending context s.contexts
    by None e h = sym (change_absent s.contexts context ending_active (sym e))
    by (Some a) e h = on a h

-- and one that is ending stays as it is
pub finished_before : (s : Standing) (env : Env) (context : Context)
    → environment_of s env ≡ environment_with s.contexts context
    → is_ending_in (active_in s env (scope_of context)) ≡ true
    → s.contexts ≡ with_ending context s.contexts
finished_before s env context is now = by (active_in s env (scope_of context)) (reached_at s env context is) now
  where
    ending : (status : Status) → is_ending status ≡ true → Ending ≡ status
    ending Open h = absurd cc
    ending Ending h = refl

    by : (o : Option Active) → o ≡ context_at s.contexts context → is_ending_in o ≡ true
        → s.contexts ≡ with_ending context s.contexts
    by None e h = absurd cc
    by (Some a) e h = sym (change_same s.contexts context ending_active a (sym e) (ap (λ x. let b : Active = record a { status = x } in b) (ending a.status h)))

abbrev ending_request : OpenRequest → OpenRequest
ending_request r = record r { active = ending_active r.active }

abbrev ending_session : OpenSession → OpenSession
ending_session s = record s { active = ending_active s.active }

ending_at : (c : Contexts) (context : Context)
    → context_at (with_ending context c) context ≡ option_map ending_active (context_at c context)
ending_at c Application = refl
ending_at c (Request name) = rw (named_changed (λ r. r.name) name ending_request (λ r. refl) c.requests) (by (request_in c.requests name))
  where
    by : (o : Option OpenRequest)
        → option_map (λ r. r.active) (option_map ending_request o)
        ≡ option_map ending_active (option_map (λ r. r.active) o)
    by None = refl
    by (Some r) = refl
ending_at c (Session name) = rw (named_changed (λ s. s.name) name ending_session (λ s. refl) c.sessions) (by (session_in c.sessions name))
  where
    by : (o : Option OpenSession)
        → option_map (λ s. s.active) (option_map ending_session o)
        ≡ option_map ending_active (option_map (λ s. s.active) o)
    by None = refl
    by (Some s) = refl

ending_gone : (c : Contexts) (context : Context)
    → without_context context (with_ending context c) ≡ without_context context c
ending_gone c Application = refl
ending_gone c (Request name) = ap (λ rs. let d : Contexts = record c { requests = rs } in d) (without_changed (λ r. r.name) name ending_request (λ r. refl) c.requests)
ending_gone c (Session name) = ap (λ ss. let d : Contexts = record c { sessions = ss } in d) (without_changed (λ s. s.name) name ending_session (λ s. refl) c.sessions)

-- a context that is ending is gone
pub closed : (c : Contexts) (s : Standing) (env : Env) (context : Context)
    → s.contexts ≡ with_ending context c
    → environment_of s env ≡ environment_with s.contexts context
    → (with_step env (scope_of context) (active_in s env (scope_of context)) s).contexts
    ≡ without_context context c
closed c s env context ended is =
    by (context_at c context) refl (active_in s env (scope_of context)) (reached_at s env context is ∙ ap (λ d. context_at d context) ended ∙ ending_at c context)
  where
    by : (o : Option Active) → context_at c context ≡ o → (p : Option Active)
        → p ≡ option_map ending_active (context_at c context)
        → (with_step env (scope_of context) p s).contexts ≡ without_context context c
    by None e None q = ended ∙ change_absent c context ending_active e ∙ sym (gone_absent c context e)
    by None e (Some b) q = let z : Some b ≡ None = q ∙ ap (option_map ending_active) e in absurd cc
    by (Some a) e None q = let z : None ≡ Some (ending_active a) = q ∙ ap (option_map ending_active) e in absurd cc
    by (Some a) e (Some b) q =
        let z : Some b ≡ Some (ending_active a) = q ∙ ap (option_map ending_active) e in
        let same : b ≡ ending_active a = cc in
        rw same (gone_contexts s env (scope_of context) ∙ reached_gone s env context is ∙ ap (without_context context) ended ∙ ending_gone c context)

-- the greatest number, by either word
pub last_is : (a : Option Active) → last_in a ≡ greatest_in a
last_is None = refl
last_is (Some a) = refl
