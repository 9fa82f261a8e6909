-- What is reached by its slot is what is reached by its name.
use Rattle.std.specs.List.{list_any}
use Rattle.std.proofs.Common.{◌&&◌, filter, IfSome, Bor, ◌≡◌, ◌∙◌, ℕ, ◌==◌, refl, ap, sym, List, [], ◌∷◌, map, cond, not, true, false, true≢false, Bool, Some, None, Option, option_map, bytes_eq, OnSome}
use Rattle.std.proofs.lemmas.Map.Views.{exact_unsigned_eq}
use Rattle.cdi_base.specs.Maps.{Map, at, adjusted, without}
use Rattle.cdi_base.specs.declared.scope.Scope.TheVariants as scopes
use Rattle.cdi_store.specs.declared.instance.Context.TheVariants.{Request, Session}
use Rattle.cdi_contexts.specs.declared.context.Env.{Env}
use Rattle.cdi_contexts.specs.declared.group.Kept.{Kept}
use Rattle.cdi_contexts.specs.Named.{named, changed, without_name}
use Rattle.cdi_contexts.specs.Contexts.{OpenSession, belongs_to, is_ending, Active, Contexts, context_among, with_context, without_context}
use Rattle.cdi_contexts.specs.Standing.{Standing, is_due_in, with_marked, without_env, first_open, in_slot, active_in, in_env, for_context}
use Rattle.cdi_contexts.specs.Group.{marked, shown, without_at, first_kept, kept_named, with_table, with_table_at, table_at, outline, AreApart, request_of, session_of, standing}
use Rattle.cdi_store.proofs.Absent.{nothing, without-absent, untouched}
use Rattle.cdi_contexts.proofs.Slots.{own_number, own_bytes, same_bytes, named-outline, at-outline}

abbrev standing_of : Contexts → List ℕ → List ℕ → Standing
standing_of c requests sessions = record { contexts = c; request_slots = requests; session_slots = sessions }

-- the first isn't named as a later one
apart_name : {D : Type 0} (p : ℕ × Kept D) (more : Map (Kept D)) (slot : ℕ) (k : Kept D) → AreApart (outline (p ∷ more)) → at more slot ≡ Some k → bytes_eq p.1.name k.name ≡ false
apart_name {D} p more slot k a h = by (bytes_eq p.1.name k.name) refl
  where
    none : kept_named more p.1.name ≡ None
    none = nothing (λ q. (q.0, q.1.name)) _ (sym (named-outline more p.1.name) ∙ a.1)

    there : (m : Map (Kept D)) (n : List ℕ) → at m slot ≡ Some k → k.name ≡ n → kept_named m n ≡ None → false ≡ true
    there [] n i e z = absurd cc
    there (q ∷ rest) n i e z = here (slot == q.0) (bytes_eq q.1.name n) refl i z (there rest n)
      where
        here : (b t : Bool) → bytes_eq q.1.name n ≡ t → cond b (Some q.1) (at rest slot) ≡ Some k → cond t (Some q) (kept_named rest n) ≡ None
            → (at rest slot ≡ Some k → k.name ≡ n → kept_named rest n ≡ None → false ≡ true) → false ≡ true
        here b true s i z rec = absurd cc
        here true false s i z rec =
            let same : q.1 ≡ k = cc in
            sym s ∙ ap (λ x. bytes_eq x n) (ap (λ (x : Kept D). x.name) same ∙ e) ∙ own_bytes n
        here false false s i z rec = rec i e z

    by : (t : Bool) → bytes_eq p.1.name k.name ≡ t → bytes_eq p.1.name k.name ≡ false
    by false e = e
    by true e = absurd (true≢false (sym (there more p.1.name h (sym (same_bytes p.1.name k.name e)) none)))

module _ {D Y : Type 0} (view : Kept D → Y) (name_of : Y → List ℕ) (names : (k : Kept D) → name_of (view k) ≡ k.name) where
  pub in_slot_seen : (m : Map (Kept D)) (slot : ℕ) → in_slot (map (λ p. p.0) m) (map (λ p. view p.1) m) slot ≡ option_map view (at m slot)
  in_slot_seen [] slot = refl
  in_slot_seen (p ∷ more) slot = by (slot == p.0) (in_slot_seen more slot)
    where
      by : (b : Bool) → in_slot (map (λ p. p.0) more) (map (λ p. view p.1) more) slot ≡ option_map view (at more slot)
          → cond b (Some (view p.1)) (in_slot (map (λ p. p.0) more) (map (λ p. view p.1) more) slot) ≡ option_map view (cond b (Some p.1) (at more slot))
      by true rest = refl
      by false rest = rest

  pub named_seen : (m : Map (Kept D)) (n : List ℕ) → named name_of (map (λ p. view p.1) m) n ≡ option_map (λ p. view p.1) (kept_named m n)
  named_seen [] n = refl
  named_seen (p ∷ more) n = ap (λ x. cond (bytes_eq x n) (Some (view p.1)) (named name_of (map (λ p. view p.1) more) n)) (names p.1) ∙ by (bytes_eq p.1.name n) (named_seen more n)
    where
      by : (b : Bool) → named name_of (map (λ p. view p.1) more) n ≡ option_map (λ p. view p.1) (kept_named more n)
          → cond b (Some (view p.1)) (named name_of (map (λ p. view p.1) more) n) ≡ option_map (λ p. view p.1) (cond b (Some p) (kept_named more n))
      by true rest = refl
      by false rest = rest

  own_name : (k : Kept D) → bytes_eq (name_of (view k)) k.name ≡ true
  own_name k = ap (λ x. bytes_eq x k.name) (names k) ∙ own_bytes k.name

  pub found : (m : Map (Kept D)) (slot : ℕ) (k : Kept D) → AreApart (outline m) → at m slot ≡ Some k → named name_of (map (λ p. view p.1) m) k.name ≡ Some (view k)
  found [] slot k a h = absurd cc
  found (p ∷ more) slot k a h = by (slot == p.0) h (found more slot k a.2)
    where
      by : (b : Bool) → cond b (Some p.1) (at more slot) ≡ Some k → (at more slot ≡ Some k → named name_of (map (λ p. view p.1) more) k.name ≡ Some (view k))
          → cond (bytes_eq (name_of (view p.1)) k.name) (Some (view p.1)) (named name_of (map (λ p. view p.1) more) k.name) ≡ Some (view k)
      by true i rest =
          let same : p.1 ≡ k = cc in
          rw same (rw (own_name k) refl)
      by false i rest = rw (names p.1, apart_name p more slot k a i) (rest i)

  pub changed_seen : (f : Kept D → Kept D) (g : Y → Y) → ((k : Kept D) → view (f k) ≡ g (view k)) → (m : Map (Kept D)) (slot : ℕ) (k : Kept D) → AreApart (outline m) → at m slot ≡ Some k
      → map (λ p. view p.1) (adjusted slot f m) ≡ changed name_of k.name g (map (λ p. view p.1) m)
  changed_seen f g goes [] slot k a h = absurd cc
  changed_seen f g goes (p ∷ more) slot k a h = by (slot == p.0) h (changed_seen f g goes more slot k a.2)
    where
      by : (b : Bool) → cond b (Some p.1) (at more slot) ≡ Some k → (at more slot ≡ Some k → map (λ p. view p.1) (adjusted slot f more) ≡ changed name_of k.name g (map (λ p. view p.1) more))
          → map (λ p. view p.1) (cond b ((p.0, f p.1) ∷ more) (p ∷ adjusted slot f more))
          ≡ cond (bytes_eq (name_of (view p.1)) k.name) (g (view p.1) ∷ map (λ p. view p.1) more) (view p.1 ∷ changed name_of k.name g (map (λ p. view p.1) more))
      by true i rest =
          let same : p.1 ≡ k = cc in
          let own : bytes_eq (name_of (view p.1)) k.name ≡ true = ap (λ x. bytes_eq (name_of (view x)) k.name) same ∙ own_name k in
          rw own (ap (λ y. y ∷ map (λ p. view p.1) more) (goes p.1))
      by false i rest = rw (names p.1, apart_name p more slot k a i) (ap (λ r. view p.1 ∷ r) (rest i))

  no_name : (m : Map (Kept D)) (n : List ℕ) → kept_named m n ≡ None → without_name name_of n (map (λ p. view p.1) m) ≡ map (λ p. view p.1) m
  no_name [] n h = refl
  no_name (p ∷ more) n h = ap (λ x. cond (not (bytes_eq x n)) (view p.1 ∷ without_name name_of n (map (λ p. view p.1) more)) (without_name name_of n (map (λ p. view p.1) more))) (names p.1) ∙ by (bytes_eq p.1.name n) h (no_name more n)
    where
      by : (b : Bool) → cond b (Some p) (kept_named more n) ≡ None → (kept_named more n ≡ None → without_name name_of n (map (λ p. view p.1) more) ≡ map (λ p. view p.1) more)
          → cond (not b) (view p.1 ∷ without_name name_of n (map (λ p. view p.1) more)) (without_name name_of n (map (λ p. view p.1) more)) ≡ view p.1 ∷ map (λ p. view p.1) more
      by true i rest = absurd cc
      by false i rest = ap (λ r. view p.1 ∷ r) (rest i)

  pub removed_seen : (m : Map (Kept D)) (slot : ℕ) (k : Kept D) → AreApart (outline m) → at m slot ≡ Some k → map (λ p. view p.1) (without slot m) ≡ without_name name_of k.name (map (λ p. view p.1) m)
  removed_seen [] slot k a h = absurd cc
  removed_seen (p ∷ more) slot k a h = by (slot == p.0) refl h (removed_seen more slot k a.2)
    where
      by : (b : Bool) → (slot == p.0) ≡ b → cond b (Some p.1) (at more slot) ≡ Some k → (at more slot ≡ Some k → map (λ p. view p.1) (without slot more) ≡ without_name name_of k.name (map (λ p. view p.1) more))
          → map (λ p. view p.1) (cond (not b) (p ∷ without slot more) (without slot more))
          ≡ cond (not (bytes_eq (name_of (view p.1)) k.name)) (view p.1 ∷ without_name name_of k.name (map (λ p. view p.1) more)) (without_name name_of k.name (map (λ p. view p.1) more))
      by true e i rest =
          let same : p.1 ≡ k = cc in
          let own : bytes_eq (name_of (view p.1)) k.name ≡ true = ap (λ x. bytes_eq (name_of (view x)) k.name) same ∙ own_name k in
          let gone : at more slot ≡ None = nothing (λ k. k.name) _ (sym (at-outline more slot) ∙ ap (at (outline more)) (exact_unsigned_eq slot p.0 e) ∙ a.0) in
          let none : kept_named more k.name ≡ None = ap (λ (x : Kept D). kept_named more x.name) (sym same) ∙ nothing (λ q. (q.0, q.1.name)) _ (sym (named-outline more p.1.name) ∙ a.1) in
          rw own (ap (map (λ p. view p.1)) (without-absent more slot gone) ∙ sym (no_name more k.name none))
      by false e i rest = rw (names p.1, apart_name p more slot k a i) (ap (λ r. view p.1 ∷ r) (rest i))

same_slots : {D : Type 0} (m : Map (Kept D)) (slot : ℕ) (f : Kept D → Kept D) → map (λ p. p.0) (adjusted slot f m) ≡ map (λ p. p.0) m
same_slots [] slot f = refl
same_slots (p ∷ more) slot f = by (slot == p.0) (same_slots more slot f)
  where
    by : (b : Bool) → map (λ p. p.0) (adjusted slot f more) ≡ map (λ p. p.0) more → map (λ p. p.0) (cond b ((p.0, f p.1) ∷ more) (p ∷ adjusted slot f more)) ≡ p.0 ∷ map (λ p. p.0) more
    by true rest = refl
    by false rest = ap (λ r. p.0 ∷ r) rest

slots_left : {D : Type 0} (m : Map (Kept D)) (slot : ℕ) → map (λ p. p.0) (without slot m) ≡ filter (λ s. not (slot == s)) (map (λ p. p.0) m)
slots_left [] slot = refl
slots_left (p ∷ more) slot = by (slot == p.0) (slots_left more slot)
  where
    by : (b : Bool) → map (λ p. p.0) (without slot more) ≡ filter (λ s. not (slot == s)) (map (λ p. p.0) more)
        → map (λ p. p.0) (cond (not b) (p ∷ without slot more) (without slot more)) ≡ cond (not b) (p.0 ∷ filter (λ s. not (slot == s)) (map (λ p. p.0) more)) (filter (λ s. not (slot == s)) (map (λ p. p.0) more))
    by true rest = rest
    by false rest = ap (λ r. p.0 ∷ r) rest

-- ---- the active context

module _ (a : Option Active) (m : Map (Kept (Option (List ℕ)))) (n : Map (Kept Bool)) where
  pub request_table : (env : Env) → OnSome env.request (AreApart (outline m)) → table_at m env.request ≡ active_in (standing a m n) env scopes.RequestScoped
  request_table env = of env.request
    where
      by : (slot : ℕ) (o : Option (Kept (Option (List ℕ)))) → at m slot ≡ o → AreApart (outline m)
          → option_map (λ k. k.table) o ≡ context_among (standing a m n).contexts (option_map Request (option_map (λ r. r.name) (option_map request_of o)))
      by slot None h own = refl
      by slot (Some k) h own = sym (ap (option_map (λ r. r.active)) (found request_of (λ r. r.name) (λ k. refl) m slot k own h))

      of : (o : Option ℕ) → OnSome o (AreApart (outline m)) → table_at m o ≡ active_in (standing a m n) (record { request = o; session = env.session }) scopes.RequestScoped
      of None own = refl
      of (Some slot) own =
          by slot (at m slot) refl own
          ∙ ap (λ o. context_among (standing a m n).contexts (option_map Request (option_map (λ r. r.name) o))) (sym (in_slot_seen request_of (λ r. r.name) (λ k. refl) m slot))

  pub session_table : (env : Env) → OnSome env.session (AreApart (outline n)) → table_at n env.session ≡ active_in (standing a m n) env scopes.SessionScoped
  session_table env = of env.session
    where
      by : (slot : ℕ) (o : Option (Kept Bool)) → at n slot ≡ o → AreApart (outline n)
          → option_map (λ k. k.table) o ≡ context_among (standing a m n).contexts (option_map Session (option_map (λ s. s.name) (option_map session_of o)))
      by slot None h own = refl
      by slot (Some k) h own = sym (ap (option_map (λ s. s.active)) (found session_of (λ s. s.name) (λ k. refl) n slot k own h))

      of : (o : Option ℕ) → OnSome o (AreApart (outline n)) → table_at n o ≡ active_in (standing a m n) (record { request = env.request; session = o }) scopes.SessionScoped
      of None own = refl
      of (Some slot) own =
          by slot (at n slot) refl own
          ∙ ap (λ o. context_among (standing a m n).contexts (option_map Session (option_map (λ s. s.name) o))) (sym (in_slot_seen session_of (λ s. s.name) (λ k. refl) n slot))

  -- ---- a change of the active context
  pub request_change : (f : Active → Active) (env : Env) → OnSome env.request (AreApart (outline m)) → standing a (with_table_at env.request f m) n ≡ in_env env scopes.RequestScoped (λ x. with_context x f) (standing a m n)
  request_change f env = of env.request
    where
      by : (slot : ℕ) (o : Option (Kept (Option (List ℕ)))) → at m slot ≡ o → AreApart (outline m)
          → (standing a (with_table slot f m) n).contexts ≡ for_context (option_map Request (option_map (λ r. r.name) (option_map request_of o))) (λ x. with_context x f) (standing a m n).contexts
      by slot None h own = ap (λ m. (standing a m n).contexts) (untouched m slot (λ k. record k { table = f k.table }) h)
      by slot (Some k) h own =
          ap (λ rs. record { application = a; requests = rs; sessions = map (λ p. session_of p.1) n })
          (changed_seen request_of (λ r. r.name) (λ k. refl) (λ k. record k { table = f k.table }) (λ r. record r { active = f r.active }) (λ k. refl) m slot k own h)

      of : (o : Option ℕ) → OnSome o (AreApart (outline m)) → standing a (with_table_at o f m) n ≡ in_env (record { request = o; session = env.session }) scopes.RequestScoped (λ x. with_context x f) (standing a m n)
      of None own = refl
      of (Some slot) own = both (by slot (at m slot) refl own
          ∙ ap (λ o. for_context (option_map Request (option_map (λ r. r.name) o)) (λ x. with_context x f) (standing a m n).contexts) (sym (in_slot_seen request_of (λ r. r.name) (λ k. refl) m slot)))
          (same_slots m slot (λ k. record k { table = f k.table }))
        where
          both : {c d : Contexts} {s t : List ℕ} → c ≡ d → s ≡ t → standing_of c s (map (λ p. p.0) n) ≡ standing_of d t (map (λ p. p.0) n)
          both e i = λ j. standing_of (e j) (i j) (map (λ p. p.0) n)

  pub session_change : (f : Active → Active) (env : Env) → OnSome env.session (AreApart (outline n)) → standing a m (with_table_at env.session f n) ≡ in_env env scopes.SessionScoped (λ x. with_context x f) (standing a m n)
  session_change f env = of env.session
    where
      by : (slot : ℕ) (o : Option (Kept Bool)) → at n slot ≡ o → AreApart (outline n)
          → (standing a m (with_table slot f n)).contexts ≡ for_context (option_map Session (option_map (λ s. s.name) (option_map session_of o))) (λ x. with_context x f) (standing a m n).contexts
      by slot None h own = ap (λ n. (standing a m n).contexts) (untouched n slot (λ k. record k { table = f k.table }) h)
      by slot (Some k) h own =
          ap (λ ss. record { application = a; requests = map (λ p. request_of p.1) m; sessions = ss })
          (changed_seen session_of (λ s. s.name) (λ k. refl) (λ k. record k { table = f k.table }) (λ s. record s { active = f s.active }) (λ k. refl) n slot k own h)

      of : (o : Option ℕ) → OnSome o (AreApart (outline n)) → standing a m (with_table_at o f n) ≡ in_env (record { request = env.request; session = o }) scopes.SessionScoped (λ x. with_context x f) (standing a m n)
      of None own = refl
      of (Some slot) own = both (by slot (at n slot) refl own
          ∙ ap (λ o. for_context (option_map Session (option_map (λ s. s.name) o)) (λ x. with_context x f) (standing a m n).contexts) (sym (in_slot_seen session_of (λ s. s.name) (λ k. refl) n slot)))
          (same_slots n slot (λ k. record k { table = f k.table }))
        where
          both : {c d : Contexts} {s t : List ℕ} → c ≡ d → s ≡ t → standing_of c (map (λ p. p.0) m) s ≡ standing_of d (map (λ p. p.0) m) t
          both e i = λ j. standing_of (e j) (map (λ p. p.0) m) (i j)

  -- ---- a context that is gone
  pub request_gone : (env : Env) → OnSome env.request (AreApart (outline m)) → standing a (without_at env.request m) n ≡ without_env env scopes.RequestScoped (standing a m n)
  request_gone env = of env.request
    where
      by : (slot : ℕ) (o : Option (Kept (Option (List ℕ)))) → at m slot ≡ o → AreApart (outline m)
          → (standing a (without slot m) n).contexts ≡ for_context (option_map Request (option_map (λ r. r.name) (option_map request_of o))) without_context (standing a m n).contexts
      by slot None h own = ap (λ m. (standing a m n).contexts) (without-absent m slot h)
      by slot (Some k) h own = ap (λ rs. record { application = a; requests = rs; sessions = map (λ p. session_of p.1) n }) (removed_seen request_of (λ r. r.name) (λ k. refl) m slot k own h)

      of : (o : Option ℕ) → OnSome o (AreApart (outline m)) → standing a (without_at o m) n ≡ without_env (record { request = o; session = env.session }) scopes.RequestScoped (standing a m n)
      of None own = refl
      of (Some slot) own = both (by slot (at m slot) refl own
          ∙ ap (λ o. for_context (option_map Request (option_map (λ r. r.name) o)) without_context (standing a m n).contexts) (sym (in_slot_seen request_of (λ r. r.name) (λ k. refl) m slot)))
          (slots_left m slot)
        where
          both : {c d : Contexts} {s t : List ℕ} → c ≡ d → s ≡ t → standing_of c s (map (λ p. p.0) n) ≡ standing_of d t (map (λ p. p.0) n)
          both e i = λ j. standing_of (e j) (i j) (map (λ p. p.0) n)

  pub session_gone : (env : Env) → OnSome env.session (AreApart (outline n)) → standing a m (without_at env.session n) ≡ without_env env scopes.SessionScoped (standing a m n)
  session_gone env = of env.session
    where
      by : (slot : ℕ) (o : Option (Kept Bool)) → at n slot ≡ o → AreApart (outline n)
          → (standing a m (without slot n)).contexts ≡ for_context (option_map Session (option_map (λ s. s.name) (option_map session_of o))) without_context (standing a m n).contexts
      by slot None h own = ap (λ n. (standing a m n).contexts) (without-absent n slot h)
      by slot (Some k) h own = ap (λ ss. record { application = a; requests = map (λ p. request_of p.1) m; sessions = ss }) (removed_seen session_of (λ s. s.name) (λ k. refl) n slot k own h)

      of : (o : Option ℕ) → OnSome o (AreApart (outline n)) → standing a m (without_at o n) ≡ without_env (record { request = env.request; session = o }) scopes.SessionScoped (standing a m n)
      of None own = refl
      of (Some slot) own = both (by slot (at n slot) refl own
          ∙ ap (λ o. for_context (option_map Session (option_map (λ s. s.name) o)) without_context (standing a m n).contexts) (sym (in_slot_seen session_of (λ s. s.name) (λ k. refl) n slot)))
          (slots_left n slot)
        where
          both : {c d : Contexts} {s t : List ℕ} → c ≡ d → s ≡ t → standing_of c (map (λ p. p.0) m) s ≡ standing_of d (map (λ p. p.0) m) t
          both e i = λ j. standing_of (e j) (map (λ p. p.0) m) (i j)

  -- ---- a session that is marked, and one that is due
  pub session_due : (slot : ℕ) (o : Option (Kept Bool)) → at n slot ≡ o → AreApart (outline n)
      → elim o [ None ↦ false | Some k ↦ k.detail && not (list_any (belongs_to k.name) (map (λ p. request_of p.1) m)) ]
      ≡ is_due_in (standing a m n).contexts (option_map (λ s. s.name) (in_slot (map (λ p. p.0) n) (map (λ p. session_of p.1) n) slot))
  session_due slot None h own = rw (in_slot_seen session_of (λ s. s.name) (λ k. refl) n slot, h) refl
  session_due slot (Some k) h own = rw (in_slot_seen session_of (λ s. s.name) (λ k. refl) n slot, h) (sym (ap (λ (o : Option OpenSession). elim o [ None ↦ false | Some s ↦ s.is_marked && not (list_any (belongs_to k.name) (map (λ p. request_of p.1) m)) ]) (found session_of (λ s. s.name) (λ k. refl) n slot k own h)))

  pub session_marked : (slot : ℕ) (name : List ℕ) (s : OpenSession) → AreApart (outline n) → in_slot (map (λ p. p.0) n) (map (λ p. session_of p.1) n) slot ≡ Some s → s.name ≡ name
      → standing a m (adjusted slot marked n) ≡ with_marked name (standing a m n)
  session_marked slot name s own there e = by (at n slot) refl (sym (in_slot_seen session_of (λ s. s.name) (λ k. refl) n slot) ∙ there)
    where
      both : {c d : List OpenSession} {s t : List ℕ} → c ≡ d → s ≡ t
          → standing_of (record { application = a; requests = map (λ p. request_of p.1) m; sessions = c }) (map (λ p. p.0) m) s
          ≡ standing_of (record { application = a; requests = map (λ p. request_of p.1) m; sessions = d }) (map (λ p. p.0) m) t
      both e i = λ j. standing_of (record { application = a; requests = map (λ p. request_of p.1) m; sessions = e j }) (map (λ p. p.0) m) (i j)

      by : (o : Option (Kept Bool)) → at n slot ≡ o → option_map session_of (at n slot) ≡ Some s → standing a m (adjusted slot marked n) ≡ with_marked name (standing a m n)
      by None h i = let z : None ≡ Some s = ap (option_map session_of) (sym h) ∙ i in absurd cc
      by (Some k) h i =
          let z : Some (session_of k) ≡ Some s = ap (option_map session_of) (sym h) ∙ i in
          let same : session_of k ≡ s = cc in
          let named : k.name ≡ name = ap (λ (x : OpenSession). x.name) same ∙ e in
          both (changed_seen session_of (λ s. s.name) (λ k. refl) marked (λ s. record s { is_marked = true }) (λ k. refl) n slot k own h
          ∙ ap (λ t. changed (λ (s : OpenSession). s.name) t (λ s. record s { is_marked = true }) (map (λ p. session_of p.1) n)) named)
          (same_slots n slot marked)

  at_adjusted : {X : Type 0} (m : Map X) (slot : ℕ) (f : X → X) → at (adjusted slot f m) slot ≡ option_map f (at m slot)
  at_adjusted [] slot f = refl
  at_adjusted (p ∷ more) slot f = by (slot == p.0) refl (at_adjusted more slot f)
    where
      by : (b : Bool) → (slot == p.0) ≡ b → at (adjusted slot f more) slot ≡ option_map f (at more slot) → at (cond b ((p.0, f p.1) ∷ more) (p ∷ adjusted slot f more)) slot ≡ option_map f (cond b (Some p.1) (at more slot))
      by true e rest = rw e refl
      by false e rest = rw e rest

  pub marked_name : (slot : ℕ) → option_map (λ s. s.name) (in_slot (map (λ p. p.0) (adjusted slot marked n)) (map (λ p. session_of p.1) (adjusted slot marked n)) slot)
      ≡ option_map (λ s. s.name) (in_slot (map (λ p. p.0) n) (map (λ p. session_of p.1) n) slot)
  marked_name slot = rw (in_slot_seen session_of (λ s. s.name) (λ k. refl) (adjusted slot marked n) slot, in_slot_seen session_of (λ s. s.name) (λ k. refl) n slot, at_adjusted n slot marked) (by (at n slot))
    where
      by : (o : Option (Kept Bool)) → option_map (λ s. s.name) (option_map session_of (option_map marked o)) ≡ option_map (λ s. s.name) (option_map session_of o)
      by None = refl
      by (Some k) = refl

-- a later slot isn't that of the first
other_slot : {D : Type 0} (q : ℕ × Kept D) (more : Map (Kept D)) (slot : ℕ) (k : Kept D) → AreApart (outline (q ∷ more)) → at more slot ≡ Some k → (slot == q.0) ≡ false
other_slot q more slot k a h = by (slot == q.0) refl
  where
    by : (b : Bool) → (slot == q.0) ≡ b → (slot == q.0) ≡ false
    by false e = e
    by true e =
        let none : at more slot ≡ None = ap (at more) (exact_unsigned_eq slot q.0 e) ∙ nothing (λ k. k.name) _ (sym (at-outline more q.0) ∙ a.0) in
        absurd cc

own_slot : {D : Type 0} (q p : ℕ × Kept D) (o : Option (Kept D)) → Some q ≡ Some p → cond (p.0 == q.0) (Some q.1) o ≡ Some p.1
own_slot q p o e = let same : q ≡ p = cc in rw same (rw (own_number p.0) refl)

at_named : {D : Type 0} (m : Map (Kept D)) (n : List ℕ) (p : ℕ × Kept D) → AreApart (outline m) → kept_named m n ≡ Some p → at m p.0 ≡ Some p.1
at_named [] n p a h = absurd cc
at_named (q ∷ more) n p a h = by (bytes_eq q.1.name n) h (at_named more n p a.2)
  where
    by : (b : Bool) → cond b (Some q) (kept_named more n) ≡ Some p → (kept_named more n ≡ Some p → at more p.0 ≡ Some p.1) → cond (p.0 == q.0) (Some q.1) (at more p.0) ≡ Some p.1
    by true i rest = own_slot q p (at more p.0) i
    by false i rest = rw (other_slot q more p.0 p.1 a (rest i)) (rest i)

at_first : {D : Type 0} (m : Map (Kept D)) (p : ℕ × Kept D) → AreApart (outline m) → first_kept m ≡ Some p → at m p.0 ≡ Some p.1
at_first [] p a h = absurd cc
at_first (q ∷ more) p a h = by (is_ending q.1.table.status) h (at_first more p a.2)
  where
    by : (b : Bool) → cond b (first_kept more) (Some q) ≡ Some p → (first_kept more ≡ Some p → at more p.0 ≡ Some p.1) → cond (p.0 == q.0) (Some q.1) (at more p.0) ≡ Some p.1
    by false i rest = own_slot q p (at more p.0) i
    by true i rest = rw (other_slot q more p.0 p.1 a (rest i)) (rest i)

-- ---- what a search shows

module _ {D Y : Type 0} (view : Kept D → Y) (name_of : Y → List ℕ) (names : (k : Kept D) → name_of (view k) ≡ k.name) (active : Y → Active) (tables : (k : Kept D) → active (view k) ≡ k.table) where
  viewed : (r : Option (ℕ × Bor (Kept D))) → option_map (λ p. view p.1.now) r ≡ option_map (λ p. view p.1) (option_map shown r)
  viewed None = refl
  viewed (Some x) = refl

  pub shown_named : (m : Map (Kept D)) (r : Option (ℕ × Bor (Kept D))) (n : List ℕ) → option_map shown r ≡ kept_named m n → option_map (λ p. view p.1.now) r ≡ named name_of (map (λ p. view p.1) m) n
  shown_named m r n h = viewed r ∙ ap (option_map (λ p. view p.1)) h ∙ sym (named_seen view name_of names m n)

  first_seen : (m : Map (Kept D)) → first_open active (map (λ p. view p.1) m) ≡ option_map (λ p. view p.1) (first_kept m)
  first_seen [] = refl
  first_seen (p ∷ more) = ap (λ (a : Active). cond (is_ending a.status) (first_open active (map (λ p. view p.1) more)) (Some (view p.1))) (tables p.1) ∙ by (is_ending p.1.table.status) (first_seen more)
    where
      by : (b : Bool) → first_open active (map (λ p. view p.1) more) ≡ option_map (λ p. view p.1) (first_kept more)
          → cond b (first_open active (map (λ p. view p.1) more)) (Some (view p.1)) ≡ option_map (λ p. view p.1) (cond b (first_kept more) (Some p))
      by true rest = rest
      by false rest = refl

  pub shown_first : (m : Map (Kept D)) (r : Option (ℕ × Bor (Kept D))) → option_map shown r ≡ first_kept m → option_map (λ p. view p.1.now) r ≡ first_open active (map (λ p. view p.1) m)
  shown_first m r h = viewed r ∙ ap (option_map (λ p. view p.1)) h ∙ sym (first_seen m)

  there : (m : Map (Kept D)) (r : Option (ℕ × Bor (Kept D))) → ((p : ℕ × Kept D) → option_map shown r ≡ Some p → at m p.0 ≡ Some p.1)
      → IfSome r (λ p. in_slot (map (λ p. p.0) m) (map (λ p. view p.1) m) p.0 ≡ Some (view p.1.now))
  there m None f = tt
  there m (Some x) f = in_slot_seen view name_of names m x.0 ∙ ap (option_map view) (f (shown x) refl)

  pub named_there : (m : Map (Kept D)) (r : Option (ℕ × Bor (Kept D))) (n : List ℕ) → AreApart (outline m) → option_map shown r ≡ kept_named m n
      → IfSome r (λ p. in_slot (map (λ p. p.0) m) (map (λ p. view p.1) m) p.0 ≡ Some (view p.1.now))
  named_there m r n a h = there m r (λ p e. at_named m n p a (sym h ∙ e))

  pub first_there : (m : Map (Kept D)) (r : Option (ℕ × Bor (Kept D))) → AreApart (outline m) → option_map shown r ≡ first_kept m
      → IfSome r (λ p. in_slot (map (λ p. p.0) m) (map (λ p. view p.1) m) p.0 ≡ Some (view p.1.now))
  first_there m r a h = there m r (λ p e. at_first m p a (sym h ∙ e))
