-- The enabled interceptors as the machine has them, and what their bodies give.
use Rattle.std.proofs.Common.{ℕ, ◌≡◌, ◌∙◌, ◌⊎◌, ◌↔◌, ◌&&◌, not, inl, inr, true, nat_eq, List, [], ◌∷◌, map, filter, Some, refl, sym, ap, subst}
use Rattle.std.specs.Prelude.{option_and_then, option_map, slice_get}
use Rattle.std.proofs.lemmas.Bool.{eqb-true, true≢false}
use Rattle.std.specs.List.{Contains, enumerate_from, filter_map}
use Rattle.cdi_base.specs.declared.place.InterceptorMethod.{InterceptorMethod}
use Rattle.cdi_base.specs.declared.place.InterceptorMethod.TheVariants as methods
use Rattle.cdi_beans.specs.Interceptors.{Indexed, IsEnabledInterceptor, has_priority, listed}
use Rattle.cdi_beans.specs.declared.bean.EnabledInterceptor.{EnabledInterceptor}
use Rattle.cdi_bodies.specs.Gives.{LieInShape, lookups_of}
use Rattle.cdi_bodies.specs.declared.entry.Entry.{Entry}
use Rattle.cdi_body_check.specs.Shapes.{shape_of}
use Rattle.cdi_body_check.specs.Sites.{Site, method_body}
use Rattle.cdi_accepted.specs.Chains.{HasRole}
use Rattle.cdi_plans.specs.Chains.{method_of}
use Rattle.cdi_check.specs.Accepted.{AreBodiesSound}
use Rattle.cdi_check.specs.Tables.{setting_by}
use Rattle.cdi_deployment.specs.declared.deployment.Deployment.{Deployment}
use Rattle.cdi_deployment.specs.declared.deployment.InjectedField.{InjectedField}
use Rattle.cdi_deployment.specs.declared.deployment.Interceptor.{Interceptor}
use Rattle.cdi_machine.specs.Registered.{legal_of}
use Rattle.cdi_machine.specs.Tables as machine
use Rattle.cdi_machine.specs.Words.{Asked}
use Rattle.cdi_run_tables.specs.Machine.{AreIdsOf, asked_by, body_number, id_of, injection, machine_interceptor, machine_tables}
use Rattle.cdi_run_tables.specs.Planned.{IsTabled}
use Rattle.cdi_run_tables.specs.Texts.{has_texts}
use Rattle.cdi_run_tables.specs.declared.tables.RunTables.{RunTables}
use Rattle.cdi_shape_check.specs.OwnParts.{parts_of_interceptor}
use Rattle.cdi_body_check.specs.WrittenPoints.{point_of_field}
use Rattle.cdi_resolve.specs.declared.bean_tables.BeanTables.{BeanTables}
use Rattle.cdi_ledger.specs.Whose.{IsIn}
use Rattle.cdi_whole.specs.Fits.{FitsBody, FitsRole, IsThereInterceptor, interceptor_site}
use Rattle.cdi_accepted.proofs.Beans.{before, place_of}
use Rattle.cdi_accepted.proofs.Lists.{Among, among_contains, among_map, among_parts, at_among, contains_among, found_among, given, mapped, of_filter, of_is_in}
use Rattle.cdi_accepted.proofs.Apart.{field_has, named_apart}
use Rattle.cdi_accepted.proofs.Bodies.{registered}
use Rattle.cdi_accepted.proofs.Live.{method_live, method_stands}
use Rattle.cdi_accepted.proofs.Sites.{fits_body, lookups_there}

-- what stands in a list, in the words of the machine's tables
pub to_is_in : {X : Type 0} (x : X) (xs : List X) → Among x xs → IsIn x xs
to_is_in x [] a = a
to_is_in x (y ∷ ys) (inl same) = inl (sym same)
to_is_in x (y ∷ ys) (inr a) = inr (to_is_in x ys a)

-- an enabled interceptor is one of the deployment
pub record IsDeclared (d : Deployment) (e : EnabledInterceptor) : Type 0 where
  pub interceptor : Interceptor
  pub has : slice_get d.interceptors e.index ≡ Some interceptor
  pub name : e.name ≡ interceptor.name
  pub bodies : (role : InterceptorMethod) → method_of role e ≡ method_body interceptor role

pub declared : (t : RunTables) → IsTabled t → (e : EnabledInterceptor) → Among e t.tables.chains.interceptors → IsDeclared t.deployment e
declared t tabled e stands =
    let d = t.deployment in
    let made = tabled.tables.made in
    let P : BeanTables → Type 0 = λ s. Among e s.chains.interceptors in
    let among : Among e tabled.tables.list.interceptors = subst P tabled.tables.are.are stands in
    let are = made.is.interceptors in
    let found = before (IsEnabledInterceptor d.names made.bindings) are.enabled tabled.tables.list.interceptors e are.each among in
    let Q : List Indexed → Type 0 = λ l. Among found.item l in
    let there : Among found.item (enumerate_from 0 d.interceptors) =
    by are.are_enabled.by_priority are.are_enabled.in_order.same found.item
    (among_parts are.are_enabled.by_priority (filter_map (listed (enumerate_from 0 d.interceptors)) d.order) found.item (subst Q are.are_enabled.are found.stands)) in
    let at = place_of d.interceptors found.item.0 found.item.1 there in
    record {
      interceptor = found.item.1;
      has = ap (slice_get d.interceptors) found.related.index ∙ at;
      name = found.related.name;
      bodies = λ role. of_role role found.item e found.related;
    }
  where
    all : List Indexed
    all = enumerate_from 0 t.deployment.interceptors

    by : (rising : List Indexed) → ((x : Indexed) → Contains rising x ↔ Contains (filter has_priority all) x) → (p : Indexed) → Among p rising ⊎ Among p (filter_map (listed all) t.deployment.order) → Among p all
    by rising same p (inl a) = (of_filter has_priority all p (contains_among (filter has_priority all) p ((same p).0 (among_contains rising p a)))).0
    by rising same p (inr a) =
        let found = given (listed all) t.deployment.order p a in
        (found_among (λ (q : Indexed). nat_eq q.1.name found.item && not (has_priority q)) all p found.is).0

    of_role : (role : InterceptorMethod) (p : Indexed) (e : EnabledInterceptor) → IsEnabledInterceptor t.deployment.names tabled.tables.made.bindings p e → method_of role e ≡ method_body p.1 role
    of_role methods.AroundInvoke p e is = is.invoke
    of_role methods.AroundConstruct p e is = is.construct
    of_role methods.PostConstruct p e is = is.post
    of_role methods.PreDestroy p e is = is.pre

module _ {X : Type 0} {F : X → Type 0} {g : _} (entries : List (Entry X F g)) (lies : LieInShape entries) (t : RunTables) (tabled : IsTabled t) (lookups : t.lookups ≡ lookups_of entries) (ids : AreIdsOf entries t)
    (sound : AreBodiesSound t.deployment (shape_of entries) (setting_by t.deployment t.tables)) (texts : has_texts t.deployment ≡ true) where
  abbrev d : Deployment
  d = t.deployment

  module _ (i : ℕ) (e : EnabledInterceptor) (enabled : slice_get t.tables.chains.interceptors i ≡ Some e) where
    pub of : IsDeclared d e
    of = declared t tabled e (at_among t.tables.chains.interceptors i e enabled)

    abbrev pub own : machine.Interceptor
    own = machine_interceptor (id_of t) of.interceptor

    -- the interceptor as the machine has it
    pub known_interceptor : (machine_tables t).interceptor i ≡ Some own
    known_interceptor =
        ap (λ o. option_map (machine_interceptor (id_of t)) (option_and_then (λ (j : EnabledInterceptor). slice_get d.interceptors j.index) o)) enabled
        ∙ ap (option_map (machine_interceptor (id_of t))) of.has

    stands : Among of.interceptor d.interceptors
    stands = at_among d.interceptors e.index of.interceptor of.has

    point_of : (field : ℕ) (asked : Asked) → IsIn (field, asked) own.injected → (f : InjectedField) → (parts_of_interceptor of.interceptor).injected field ≡ Some f → asked ≡ asked_by (point_of_field f)
    point_of field asked a f is =
        let j = of.interceptor in
        let found = mapped injection j.inject (field, asked) (of_is_in (field, asked) (map injection j.inject) a) in
        let first = found_among (λ (k : InjectedField). nat_eq k.name field) j.inject f is in
        let name : field ≡ found.item.name = ap (λ (q : ℕ × Asked). q.0) found.is in
        let one : found.item ≡ f = named_apart d tabled.tables.made.names_well j stands found.item f found.stands first.0 (sym name ∙ sym (eqb-true f.name field first.1)) in
        ap (λ (q : ℕ × Asked). q.1) found.is ∙ ap (λ k. asked_by (point_of_field k)) one

    injects_it : (field : ℕ) (f : InjectedField) → (parts_of_interceptor of.interceptor).injected field ≡ Some f → (asked : Asked) × IsIn (field, asked) own.injected
    injects_it field f is =
        let j = of.interceptor in
        let first = found_among (λ (k : InjectedField). nat_eq k.name field) j.inject f is in
        let P : ℕ → Type 0 = λ n. IsIn (n, asked_by (point_of_field f)) (map injection j.inject) in
        (asked_by (point_of_field f), subst P (eqb-true f.name field first.1) (to_is_in (injection f) (map injection j.inject) (among_map injection j.inject f first.0)))

    -- whatever the body of one of its methods gives fits
    pub method_fits : (role : InterceptorMethod) (body : ℕ) → method_body of.interceptor role ≡ Some body → FitsBody (machine_tables t) (legal_of entries) (interceptor_site own (body_number (id_of t) body))
    method_fits role body is =
        let j = of.interceptor in
        let s = Site.AnInterceptorMethod j role body in
        let there = method_stands d j role body is stands in
        let live = method_live t i j e role body (at_among t.tables.chains.interceptors i e enabled) of.name in
        let shape = (registered entries t ids sound s there live).shape in
        fits_body entries lies t tabled lookups ids sound texts s there live (parts_of_interceptor j) refl (interceptor_site own (body_number (id_of t) body)) refl
        (record {
          sets = λ field h. field_has j.fields field h;
          owns = λ name count h. absurd (true≢false (sym h));
          injected = point_of;
          there = injects_it;
          points = refl;
          lookups = lookups_there entries lies t tabled lookups ids sound texts s there live;
          chained = λ c. refl;
        })

    -- it is in the tables
    pub there_interceptor : IsThereInterceptor (machine_tables t) i
    there_interceptor = (own, known_interceptor)

  -- what has a role has it in the tables
  pub role_fits : (i : ℕ) (role : InterceptorMethod) → HasRole t.tables.chains i role → FitsRole (machine_tables t) (legal_of entries) i role
  role_fits i role r =
      let e = r.interceptor in
      let one : IsDeclared d e = of i e r.enabled in
      let is : method_body one.interceptor role ≡ Some r.body = sym (one.bodies role) ∙ r.has in
      record {
        interceptor = machine_interceptor (id_of t) one.interceptor;
        known = known_interceptor i e r.enabled;
        body = body_number (id_of t) r.body;
        has = ap (option_map (body_number (id_of t))) is;
        fits = method_fits i e r.enabled role r.body is;
      }
