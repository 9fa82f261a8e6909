-- What is put into a context and taken back.
use Rattle.std.proofs.Common.{◌≡◌, ◌∙◌, ℕ, ◌==◌, Bool, true, false, [], ◌∷◌, cond, nat_lt, Option, Some, None, option_map, is_some, refl, ap, sym}
use Rattle.cdi_base.specs.Maps.{Map, at, put_in_order, without}
use Rattle.cdi_base.specs.declared.scope.Scope.{Scope}
use Rattle.cdi_store.specs.declared.instance.Context.{Context}
use Rattle.cdi_store.specs.declared.instance.Context.TheVariants.{Application, Request, Session}
use Rattle.cdi_contexts.specs.declared.context.Env.{Env}
use Rattle.cdi_contexts.specs.declared.context.Held.{Held}
use Rattle.cdi_contexts.specs.declared.context.Held.TheVariants.{Making}
use Rattle.cdi_contexts.specs.Contexts.{Active, Contexts, OpenRequest, OpenSession, request_in, session_in, context_at, context_of, context_among, entry_in, fits, has_place, active_with, active_without, with_context, with_held, with_nothing}
use Rattle.cdi_contexts.specs.Standing.{Standing, active_in, environment_of, for_context, in_env, in_slot, of_slot}
use Rattle.cdi_store.proofs.Absent.{without-absent}
use Rattle.cdi_contexts.proofs.Slots.{own_number, past}
use Rattle.cdi_world.proofs.Changed.{changed_back, slot_changed}
use Rattle.cdi_world.proofs.Reached.{change_absent}

pub no_entry : {X : Type 0} (o : Option X) → is_some o ≡ false → o ≡ None
no_entry None h = refl
no_entry (Some x) h = absurd cc

-- `Making` in place of another entry needs no memory
pub has_place_over : (a : Option Active) (bean : ℕ) → is_some (entry_in a bean) ≡ true
    → has_place a bean Making ≡ true
has_place_over None bean h = refl
has_place_over (Some a) bean h = by (at a.holds bean) h
  where
    by : (o : Option Held) → is_some o ≡ true → fits o Making ≡ true
    by None i = i
    by (Some x) i = refl

module _ {X : Type 0} where
  -- a new entry that is taken out again
  taken_out : (m : Map X) (key : ℕ) (x : X) → at m key ≡ None
      → without key (put_in_order key x m) ≡ m
  taken_out [] key x none = rw (own_number key) refl
  taken_out (p ∷ more) key x none =
      let apart = past (key == p.0) p.1 (at more key) none in
      rw apart.0 (by (nat_lt key p.0) apart.0 (taken_out more key x apart.1))
    where
      by : (b : Bool) → (key == p.0) ≡ false → without key (put_in_order key x more) ≡ more
          → without key (cond b ((key, x) ∷ p ∷ more) (p ∷ put_in_order key x more)) ≡ p ∷ more
      by true differs e = rw (own_number key) (without-absent (p ∷ more) key none)
      by false differs e = rw differs (ap (λ r. p ∷ r) e)

module _ (bean : ℕ) (held : Held) where
  active_back : (a : Active) → at a.holds bean ≡ None
      → active_without bean (active_with bean held a) ≡ a
  active_back a none = ap (λ holds. let b : Active = record a { holds = holds } in b) (taken_out a.holds bean held none)

  back : (c : Contexts) (context : Context) → entry_in (context_at c context) bean ≡ None
      → with_nothing bean context (with_held bean held context c) ≡ c
  back c context none = of (context_at c context) refl none
    where
      on : (context : Context) (a : Active) → context_at c context ≡ Some a → at a.holds bean ≡ None
          → with_nothing bean context (with_held bean held context c) ≡ c
      on Application a h i = ap (λ o. let d : Contexts = record c { application = o } in d) (ap (λ o. option_map (active_without bean) (option_map (active_with bean held) o)) h ∙ ap (λ x. Some x) (active_back a i) ∙ sym h)
      on (Request name) a h i = by (request_in c.requests name) refl h
        where
          by : (o : Option OpenRequest) → request_in c.requests name ≡ o
              → option_map (λ r. r.active) o ≡ Some a
              → with_nothing bean (Request name) (with_held bean held (Request name) c) ≡ c
          by None q e = absurd cc
          by (Some r) q e =
              let own : r.active ≡ a = cc in
              ap (λ rs. let d : Contexts = record c { requests = rs } in d)
              (changed_back (λ r. r.name) name (λ r. record r { active = active_with bean held r.active }) (λ r. refl) (λ r. record r { active = active_without bean r.active }) c.requests r q
              (ap (λ x. let s : OpenRequest = record r { active = x } in s) (ap (λ x. active_without bean (active_with bean held x)) own ∙ active_back a i ∙ sym own)))
      on (Session name) a h i = by (session_in c.sessions name) refl h
        where
          by : (o : Option OpenSession) → session_in c.sessions name ≡ o
              → option_map (λ s. s.active) o ≡ Some a
              → with_nothing bean (Session name) (with_held bean held (Session name) c) ≡ c
          by None q e = absurd cc
          by (Some r) q e =
              let own : r.active ≡ a = cc in
              ap (λ ss. let d : Contexts = record c { sessions = ss } in d)
              (changed_back (λ s. s.name) name (λ s. record s { active = active_with bean held s.active }) (λ s. refl) (λ s. record s { active = active_without bean s.active }) c.sessions r q
              (ap (λ x. let s : OpenSession = record r { active = x } in s) (ap (λ x. active_without bean (active_with bean held x)) own ∙ active_back a i ∙ sym own)))

      of : (o : Option Active) → context_at c context ≡ o → entry_in o bean ≡ None
          → with_nothing bean context (with_held bean held context c) ≡ c
      of None h i = ap (with_nothing bean context) (change_absent c context (active_with bean held) h) ∙ change_absent c context (active_without bean) h
      of (Some a) h i = on context a h i

-- the names stay
same_names : (s : Standing) (env : Env) (context : Context) (f : Active → Active)
    → environment_of (record s { contexts = with_context context f s.contexts }) env
    ≡ environment_of s env
same_names s env Application f = refl
same_names s env (Request name) f = ap (λ o. record { request = o; session = (environment_of s env).session }) (by env.request)
  where
    by : (o : Option ℕ)
        → of_slot (in_slot s.request_slots (with_context (Request name) f s.contexts).requests) o (λ r. r.name)
        ≡ of_slot (in_slot s.request_slots s.contexts.requests) o (λ r. r.name)
    by None = refl
    by (Some slot) = slot_changed (λ r. r.name) name (λ r. record r { active = f r.active }) (λ r. refl) s.request_slots s.contexts.requests slot
same_names s env (Session name) f = ap (λ o. record { request = (environment_of s env).request; session = o }) (by env.session)
  where
    by : (o : Option ℕ)
        → of_slot (in_slot s.session_slots (with_context (Session name) f s.contexts).sessions) o (λ r. r.name)
        ≡ of_slot (in_slot s.session_slots s.contexts.sessions) o (λ r. r.name)
    by None = refl
    by (Some slot) = slot_changed (λ s. s.name) name (λ s. record s { active = f s.active }) (λ s. refl) s.session_slots s.contexts.sessions slot

abbrev with_all : Standing → Contexts → Standing
with_all s c = record s { contexts = c }

-- what the context of a scope had nothing for
pub put_back : (s : Standing) (env : Env) (scope : Scope) (bean : ℕ) (held : Held)
    → entry_in (active_in s env scope) bean ≡ None
    → in_env env scope (with_nothing bean) (in_env env scope (with_held bean held) s) ≡ s
put_back s env scope bean held none = by (context_of (environment_of s env) scope) refl none
  where
    again : (c : Contexts) (o : Option Context)
        → context_of (environment_of (with_all s c) env) scope ≡ o
        → in_env env scope (with_nothing bean) (with_all s c)
        ≡ with_all s (for_context o (with_nothing bean) c)
    again c o h = ap (λ x. with_all s (for_context x (with_nothing bean) c)) h

    by : (o : Option Context) → context_of (environment_of s env) scope ≡ o
        → entry_in (context_among s.contexts o) bean ≡ None
        → in_env env scope (with_nothing bean) (with_all s (for_context o (with_held bean held) s.contexts))
        ≡ s
    by None h i = again s.contexts None h
    by (Some context) h i =
        again (with_held bean held context s.contexts) (Some context) (ap (λ e. context_of e scope) (same_names s env context (active_with bean held)) ∙ h)
        ∙ ap (with_all s) (back bean held s.contexts context i)
