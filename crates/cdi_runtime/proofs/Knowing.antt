-- Bodies that the engine can come to run are registered, if those of what is enabled are.
use Rattle.std.proofs.Common.{ℕ, zero, suc, ◌≡◌, ◌∙◌, ◌<◌, ◌&&◌, Bool, true, false, cond, not, nat_eq, if◌then◌else◌, List, [], ◌∷◌, length, map, filter, Option, Some, None, is_some, refl, sym, ap, subst}
use Rattle.std.specs.Prelude.{option_map, option_and_then, position, slice_get, unwrap_or}
use Rattle.std.specs.List.{cons_option, list_all}
use Rattle.std.proofs.lemmas.Bool.{and_parts}
use Rattle.std.proofs.lemmas.List.Quantifiers.{position-Some}
use Rattle.std.proofs.lemmas.Option.{same_Some}
use Rattle.cdi_base.specs.Maps.{at}
use Rattle.cdi_base.specs.declared.place.InterceptorMethod.{InterceptorMethod}
use Rattle.cdi_base.specs.declared.place.InterceptorMethod.TheVariants as roles
use Rattle.cdi_base.specs.declared.place.Place.TheVariants as places
use Rattle.cdi_bodies.specs.Gives.{place_of}
use Rattle.cdi_bodies.specs.declared.entry.Entry.{Entry}
use Rattle.cdi_body_check.specs.Sites.{method_body, sites_of}
use Rattle.cdi_deployment.specs.declared.deployment.Interceptor.{Interceptor}
use Rattle.cdi_event_tables.specs.Ids.{is_named}
use Rattle.cdi_event_tables.specs.Observers.{managed_bean}
use Rattle.cdi_event_tables.specs.declared.observer_groups.ObserverGroup.{ObserverGroup}
use Rattle.cdi_event_tables.specs.declared.observers.PlannedObserver.{PlannedObserver}
use Rattle.cdi_host.specs.Asked.{code_in, injecting, interceptor_code, interceptor_plan, method_at, method_in, plan_at, plan_of, pre_destroy_of, product_of}
use Rattle.cdi_machine.specs.Tables as machine
use Rattle.cdi_machine.specs.Words.{Name, Asked}
use Rattle.cdi_numbered_plans.specs.Machine.{machine_observer}
use Rattle.cdi_plans.specs.declared.plan.BusinessMethod.{BusinessMethod}
use Rattle.cdi_plans.specs.declared.plan.Code.{Code}
use Rattle.cdi_plans.specs.declared.plan.InjectedMethod.{InjectedMethod}
use Rattle.cdi_plans.specs.declared.plan.ManagedPlan.{ManagedPlan}
use Rattle.cdi_plans.specs.declared.plan.Plan.{Plan}
use Rattle.cdi_plans.specs.declared.plan.Plan.TheVariants as plans
use Rattle.cdi_plans.specs.declared.plan.ProductPlan.{ProductPlan}
use Rattle.cdi_plans.specs.declared.plan.Source.{Source}
use Rattle.cdi_plans.specs.declared.plan.Source.TheVariants as sources
use Rattle.cdi_plans.specs.declared.plan.Step.{Step}
use Rattle.cdi_plans.specs.declared.plan.Step.TheVariants as steps
use Rattle.cdi_run_tables.specs.Machine as tables
use Rattle.cdi_run_tables.specs.Machine.{AreIdsOf, bean_at, bean_with, body_number, declared_at, does_something, has_none, id_of, interceptor_at, machine_code, machine_interceptor, machine_lifecycle, machine_member, machine_methods, machine_source, machine_step, machine_steps, machine_tables, method_with, planned_at, product_with}
use Rattle.cdi_run_tables.proofs.Heard.{heard_observers, hears_it}
use Rattle.cdi_run_tables.specs.Observers.{heard_among, planned_groups}
use Rattle.cdi_run_tables.specs.Parts.{PlannedBean}
use Rattle.cdi_run_tables.specs.declared.tables.RunTables.{RunTables}
use Rattle.cdi_runtime.proofs.Lists.{mapped_at, passes_at}
use Rattle.cdi_runtime.specs.Knowing.{DrivesRegistered}
use Rattle.cdi_run_tables.specs.Registered.{HasBodies, are_registered, is_registered, registers_body, registers_group, registers_interceptor, registers_member, registers_plan, registers_source, registers_step}
use Rattle.cdi_steps.specs.ContainerCalls.{disposers_of}
use Rattle.cdi_steps.specs.Known.{AreCallbacks, HearsAny, IsKnownBody, completing, constructing, leaving, of_callback, of_disposer, of_initializer, of_interceptor, of_method, of_observer, of_producer}
use Rattle.cdi_store.specs.declared.instance.Component.{Component}
use Rattle.cdi_store.specs.declared.instance.Component.TheVariants as components

-- ---- methods

-- a method that a plan has, and the business method that it comes from
record Comes (ids : ℕ → Option ℕ) (ms : List BusinessMethod) (m : machine.Method) : Type 0 where
  index : ℕ
  method : BusinessMethod
  stands : slice_get ms index ≡ Some method
  id : ids method.code.body ≡ Some m.code.body

comes_of : (ids : ℕ → Option ℕ) (ms : List BusinessMethod) (name : ℕ) (m : machine.Method) → at (machine_methods ids ms) name ≡ Some m → Comes ids ms m
comes_of ids [] name m e = absurd cc
comes_of ids (k ∷ ks) name m e = by (λ f. comes_of ids ks name m f) (ids k.code.body) refl e
  where
    later : Comes ids ks m → Comes ids (k ∷ ks) m
    later more = record { index = suc more.index; method = more.method; stands = more.stands; id = more.id }

    here : (at (machine_methods ids ks) name ≡ Some m → Comes ids ks m) → (body : ℕ) → ids k.code.body ≡ Some body → (b : Bool) → cond b (Some (method_with k body).1) (at (machine_methods ids ks) name) ≡ Some m → Comes ids (k ∷ ks) m
    here rest body is true f =
        let same : body ≡ m.code.body = ap (λ (x : machine.Method). x.code.body) (same_Some (method_with k body).1 m f) in
        record { index = 0; method = k; stands = refl; id = is ∙ ap (λ z. Some z) same }
    here rest body is false f = later (rest f)

    by : (at (machine_methods ids ks) name ≡ Some m → Comes ids ks m) → (o : Option ℕ) → ids k.code.body ≡ o → at (cons_option (option_map (method_with k) o) (machine_methods ids ks)) name ≡ Some m → Comes ids (k ∷ ks) m
    by rest None is f = later (rest f)
    by rest (Some body) is f = here rest body is (nat_eq name k.name) f

-- the number of an item stands in its list
position_within : {X : Type 0} (test : X → Bool) (xs : List X) (i : ℕ) → position test xs ≡ Some i → i < length xs
position_within test [] i e = absurd cc
position_within test (x ∷ xs) i e = (position-Some test (x ∷ xs) i x e).0

module _ {X : Type 0} {F : X → Type 0} {g : _} (entries : List (Entry X F g)) (t : RunTables) (told : AreIdsOf entries t) (has : HasBodies t) where
  abbrev ids : ℕ → Option ℕ
  ids name = id_of t name

  abbrev IsBody : ℕ → Type 0
  IsBody body = body < length entries

  -- a number that the tables have is that of a registered body
  place_registered : (name id : ℕ) → ids name ≡ Some id → place_of entries name ≡ Some id
  place_registered name id e = by (is_named (sites_of t.deployment) name) (sym (ap (option_and_then (λ (x : Option ℕ). x)) (told.told name)) ∙ e)
    where
      by : (b : Bool) → option_and_then (λ (x : Option ℕ). x) (if b then Some (place_of entries name) else None) ≡ Some id → place_of entries name ≡ Some id
      by true f = f
      by false f = absurd cc

  registered : (name id : ℕ) → ids name ≡ Some id → IsBody id
  registered name id e = position_within (λ (k : Entry X F g). nat_eq k.name name) entries id (place_registered name id e)

  number_registered : (name : ℕ) → is_some (ids name) ≡ true → IsBody (body_number ids name)
  number_registered name some = by (ids name) refl some
    where
      by : (o : Option ℕ) → ids name ≡ o → is_some o ≡ true → IsBody (unwrap_or (ids name) 4096)
      by None e s = absurd cc
      by (Some id) e s = subst (λ x. IsBody (unwrap_or x 4096)) (sym e) (registered name id e)

  -- ---- what runs in the life of an instance

  abbrev AllBodies : List machine.Code → Type 0
  AllBodies codes = (i : ℕ) (c : machine.Code) → slice_get codes i ≡ Some c → IsBody c.body

  codes_registered : (codes : List Code) → are_registered ids codes ≡ true → AllBodies (map (machine_code ids) codes)
  codes_registered codes h i c e = by (slice_get codes i) refl (sym (mapped_at (machine_code ids) codes i) ∙ e)
    where
      by : (o : Option Code) → slice_get codes i ≡ o → option_map (machine_code ids) o ≡ Some c → IsBody c.body
      by None is f = absurd cc
      by (Some k) is f =
          let q : machine_code ids k ≡ c = same_Some (machine_code ids k) c f in
          subst (λ (x : machine.Code). IsBody x.body) q (number_registered k.body (passes_at (is_registered ids) codes i k h is))

  abbrev Registered : machine.Step → Type 0
  Registered (machine.Step.Construct points l) = AllBodies l.callbacks
  Registered (machine.Step.Initialize code points) = IsBody code.body
  Registered (machine.Step.Complete l) = AllBodies l.callbacks
  Registered step = Unit {0}

  step_registered : (s : Step) → registers_step ids s ≡ true → Registered (machine_step ids s)
  step_registered (steps.Intercept i) h = tt
  step_registered (steps.Construct points l) h = codes_registered l.callbacks h
  step_registered (steps.Inject field point) h = tt
  step_registered (steps.Initialize code points) h = number_registered code.body h
  step_registered (steps.Complete l) h = codes_registered l.callbacks h

  step_or_rest : (s : Step) (rest : List Step) → registers_step ids s ≡ true → ((k : ℕ) (y : machine.Step) → slice_get (machine_steps ids rest) k ≡ Some y → Registered y)
      → (b : Bool) (i : ℕ) (x : machine.Step) → slice_get (map (machine_step ids) (cond b (s ∷ filter does_something rest) (filter does_something rest))) i ≡ Some x → Registered x
  step_or_rest s rest here later false i x f = later i x f
  step_or_rest s rest here later true zero x f = subst Registered (same_Some (machine_step ids s) x f) (step_registered s here)
  step_or_rest s rest here later true (suc k) x f = later k x f

  steps_registered : (all : List Step) → list_all (registers_step ids) all ≡ true → (i : ℕ) (x : machine.Step) → slice_get (machine_steps ids all) i ≡ Some x → Registered x
  steps_registered [] h i x e = absurd cc
  steps_registered (s ∷ rest) h i x e =
      let parts = and_parts (registers_step ids s) (list_all (registers_step ids) rest) h in
      step_or_rest s rest parts.0 (λ k y f. steps_registered rest parts.1 k y f) (does_something s) i x e

  -- what is so of each managed bean and of each product is so of the bean at each index
  module _ (P : Option machine.Bean → Type 0) (none : P None)
      (managed : (b : PlannedBean) (p : ManagedPlan) → registers_plan ids (plans.Managed p) ≡ true → P (Some (bean_with b (machine.Kind.Class (tables.machine_managed ids p)))))
      (product : (b : PlannedBean) (p : ProductPlan) (k : ℕ) → registers_plan ids (plans.Product p) ≡ true → P (Some (bean_with b (product_with ids p k)))) where
    at_plan : (b : PlannedBean) (plan : Plan) → registers_plan ids plan ≡ true → P (option_map (bean_with b) (tables.machine_kind ids t.tables.resolver.beans plan))
    at_plan b (plans.Managed p) h = managed b p h
    at_plan b (plans.Product p) h = by (managed_bean t.tables.resolver.beans p.declaring)
      where
        by : (o : Option ℕ) → P (option_map (bean_with b) (option_map (product_with ids p) o))
        by None = none
        by (Some k) = product b p k h

    at_bean : (n : ℕ) → P (bean_at t n)
    at_bean n = by (planned_at t n) refl
      where
        by : (o : Option PlannedBean) → planned_at t n ≡ o → P (option_and_then (tables.machine_bean ids t.tables.resolver.beans) o)
        by None e = none
        by (Some b) e = at_plan b b.plan (has.beans n b e)

  -- the parts of a managed bean, and of a product
  managed_parts : (p : ManagedPlan) → registers_plan ids (plans.Managed p) ≡ true → (list_all (registers_step ids) p.steps ≡ true) × (are_registered ids p.pre_destroy.callbacks ≡ true)
  managed_parts p h = and_parts (list_all (registers_step ids) p.steps) (are_registered ids p.pre_destroy.callbacks) h

  product_parts : (p : ProductPlan) → registers_plan ids (plans.Product p) ≡ true → (registers_source ids p.source ≡ true) × (list_all (registers_member ids) p.disposers ≡ true)
  product_parts p h = and_parts (registers_source ids p.source) (list_all (registers_member ids) p.disposers) h

  bean_steps : (n i : ℕ) (x : machine.Step) → slice_get (plan_of (bean_at t n)) i ≡ Some x → Registered x
  bean_steps n i x =
      at_bean (λ o. slice_get (plan_of o) i ≡ Some x → Registered x) (λ e. absurd cc) (λ b p h e. steps_registered p.steps (managed_parts p h).0 i x e) (λ b p k h e. absurd cc) n

  all_steps : (c : Component) (i : ℕ) (x : machine.Step) → slice_get (plan_at (machine_tables t) c) i ≡ Some x → Registered x
  all_steps (components.Bean n) i x e = bean_steps n i x e
  all_steps (components.Interceptor k) i x e = by (interceptor_at t k) e
    where
      injected : (o : Option (Name × Asked)) → option_map injecting o ≡ Some x → Registered x
      injected None f = absurd cc
      injected (Some p) f = subst Registered (same_Some (injecting p) x f) tt

      by : (o : Option machine.Interceptor) → slice_get (interceptor_plan o) i ≡ Some x → Registered x
      by None f = absurd cc
      by (Some j) f = injected (slice_get j.injected i) (sym (mapped_at injecting j.injected i) ∙ f)

  farewells : (n : ℕ) (l : machine.Lifecycle) → pre_destroy_of (bean_at t n) ≡ Some l → AllBodies l.callbacks
  farewells n l =
      at_bean (λ o. pre_destroy_of o ≡ Some l → AllBodies l.callbacks) (λ e. absurd cc)
      (λ b p h e. subst (λ (x : machine.Lifecycle). AllBodies x.callbacks) (same_Some (machine_lifecycle ids p.pre_destroy) l e) (codes_registered p.pre_destroy.callbacks (managed_parts p h).1))
      (λ b p k h e. absurd cc) n

  callbacks_registered : (callbacks : List machine.Code) → AreCallbacks (machine_tables t) callbacks → AllBodies callbacks
  callbacks_registered callbacks (completing b i l e q) = subst AllBodies q (all_steps b i (machine.Step.Complete l) e)
  callbacks_registered callbacks (constructing b i points l e q) = subst AllBodies q (all_steps b i (machine.Step.Construct points l) e)
  callbacks_registered callbacks (leaving n l e q) = subst AllBodies q (farewells n l e)

  -- ---- methods of interceptors

  role_registered : (j : Interceptor) (role : InterceptorMethod) → registers_interceptor ids j ≡ true → registers_body ids (method_body j role) ≡ true
  role_registered j role h =
      let three = and_parts (registers_body ids j.invoke && registers_body ids j.construct && registers_body ids j.post) (registers_body ids j.pre) h in
      let two = and_parts (registers_body ids j.invoke && registers_body ids j.construct) (registers_body ids j.post) three.0 in
      let one = and_parts (registers_body ids j.invoke) (registers_body ids j.construct) two.0 in
      by one.0 one.1 two.1 three.1 role
    where
      by : registers_body ids j.invoke ≡ true → registers_body ids j.construct ≡ true → registers_body ids j.post ≡ true → registers_body ids j.pre ≡ true
          → (role : InterceptorMethod) → registers_body ids (method_body j role) ≡ true
      by a b c d roles.AroundInvoke = a
      by a b c d roles.AroundConstruct = b
      by a b c d roles.PostConstruct = c
      by a b c d roles.PreDestroy = d

  interceptors_registered : (i : ℕ) (role : InterceptorMethod) (code : machine.Code) → interceptor_code (machine_tables t) i role ≡ Some code → IsBody code.body
  interceptors_registered i role code e = by (declared_at t i) refl e
    where
      of_name : (j : Interceptor) (o : Option ℕ) → registers_body ids o ≡ true → option_map (λ b. record { place = places.Interceptor j.name role; body = b }) (option_map (body_number ids) o) ≡ Some code → IsBody code.body
      of_name j None h e = absurd cc
      of_name j (Some name) h e = subst (λ (x : machine.Code). IsBody x.body) (same_Some (record { place = places.Interceptor j.name role; body = body_number ids name }) code e) (number_registered name h)

      by : (o : Option Interceptor) → declared_at t i ≡ o → option_and_then (code_in role) (option_map (machine_interceptor ids) o) ≡ Some code → IsBody code.body
      by None is f = absurd cc
      by (Some j) is f = of_name j (method_body j role) (role_registered j role (has.interceptors i j is)) f

  -- ---- business methods

  method_of_plan : (plan : Plan) (b : PlannedBean) (name : ℕ) (m : machine.Method)
      → option_and_then (λ (bean : machine.Bean). method_in bean.kind name) (option_map (bean_with b) (tables.machine_kind ids t.tables.resolver.beans plan)) ≡ Some m
      → IsBody m.code.body
  method_of_plan (plans.Managed p) b name m e = let from = comes_of ids p.methods name m e in registered from.method.code.body m.code.body from.id
  method_of_plan (plans.Product p) b name m e = absurd (by (managed_bean t.tables.resolver.beans p.declaring) e)
    where
      by : (o : Option ℕ) → option_and_then (λ (bean : machine.Bean). method_in bean.kind name) (option_map (bean_with b) (option_map (product_with ids p) o)) ≡ Some m → ⊥
      by None f = cc
      by (Some k) f = cc

  methods_registered : (bean name : ℕ) (m : machine.Method) → method_at (machine_tables t) bean name ≡ Some m → IsBody m.code.body
  methods_registered bean name m e = by (planned_at t bean) e
    where
      by : (o : Option PlannedBean)
          → option_and_then (λ (k : machine.Bean). method_in k.kind name) (option_and_then (tables.machine_bean ids t.tables.resolver.beans) o) ≡ Some m → IsBody m.code.body
      by None f = absurd cc
      by (Some b) f = method_of_plan b.plan b name m f

  -- ---- products

  member_registered : (k : InjectedMethod) → registers_member ids k ≡ true → IsBody (machine_member ids k).code.body
  member_registered k h = number_registered k.code.body h

  -- the member of a producer method
  abbrev member_or : machine.Member → machine.Source → machine.Member
  member_or d (machine.Source.ProducerMethod m) = m
  member_or d (machine.Source.ProducerField field) = d

  source_registered : (s : Source) (m : machine.Member) → registers_source ids s ≡ true → machine_source ids s ≡ machine.Source.ProducerMethod m → IsBody m.code.body
  source_registered (sources.ProducerMethod k) m h e =
      let same : machine_member ids k ≡ m = ap (member_or m) e in subst (λ (x : machine.Member). IsBody x.code.body) same (member_registered k h)
  source_registered (sources.ProducerField field) m h e = absurd cc

  members_registered : (ks : List InjectedMethod) → list_all (registers_member ids) ks ≡ true → (i : ℕ) (m : machine.Member) → slice_get (map (machine_member ids) ks) i ≡ Some m → IsBody m.code.body
  members_registered ks h i m e = by (slice_get ks i) refl (sym (mapped_at (machine_member ids) ks i) ∙ e)
    where
      by : (o : Option InjectedMethod) → slice_get ks i ≡ o → option_map (machine_member ids) o ≡ Some m → IsBody m.code.body
      by None is f = absurd cc
      by (Some k) is f =
          let same : machine_member ids k ≡ m = same_Some (machine_member ids k) m f in
          subst (λ (x : machine.Member). IsBody x.code.body) same (member_registered k (passes_at (registers_member ids) ks i k h is))

  abbrev product_told : ProductPlan → ℕ → machine.Product
  product_told p k = record { declaring = k; source = machine_source ids p.source; disposers = map (machine_member ids) p.disposers }

  producers_registered : (n : ℕ) (x : machine.Product) (m : machine.Member) → product_of (bean_at t n) ≡ Some x → x.source ≡ machine.Source.ProducerMethod m → IsBody m.code.body
  producers_registered n x m =
      at_bean (λ o. product_of o ≡ Some x → x.source ≡ machine.Source.ProducerMethod m → IsBody m.code.body) (λ e f. absurd cc) (λ b p h e f. absurd cc)
      (λ b p k h e f. source_registered p.source m (product_parts p h).0 (ap (λ (y : machine.Product). y.source) (same_Some (product_told p k) x e) ∙ f)) n

  disposers_registered : (n i : ℕ) (m : machine.Member) → slice_get (disposers_of (product_of (bean_at t n))) i ≡ Some m → IsBody m.code.body
  disposers_registered n i m =
      at_bean (λ o. slice_get (disposers_of (product_of o)) i ≡ Some m → IsBody m.code.body) (λ e. absurd cc) (λ b p h e. absurd cc)
      (λ b p k h e. members_registered p.disposers (product_parts p h).1 i m e) n

  -- ---- observers

  abbrev seen : PlannedObserver → machine.Observer
  seen o = machine_observer ids o

  module _ (hears : PlannedObserver → Bool) where
    in_group : (os : List PlannedObserver) → list_all (λ (x : PlannedObserver). registers_member ids x.member) os ≡ true → (i : ℕ) (o : machine.Observer) → slice_get (map seen (filter hears os)) i ≡ Some o → IsBody o.member.code.body
    in_group [] h i o e = absurd cc
    in_group (x ∷ os) h i o e =
        let parts = and_parts (registers_member ids x.member) (list_all (λ (y : PlannedObserver). registers_member ids y.member) os) h in
        by (hears x) i parts.0 (λ k f. in_group os parts.1 k o f) e
      where
        by : (b : Bool) (i : ℕ) → registers_member ids x.member ≡ true → ((k : ℕ) → slice_get (map seen (filter hears os)) k ≡ Some o → IsBody o.member.code.body)
            → slice_get (map seen (cond b (x ∷ filter hears os) (filter hears os))) i ≡ Some o → IsBody o.member.code.body
        by false i here later f = later i f
        by true zero here later f = subst (λ (y : machine.Observer). IsBody y.member.code.body) (same_Some (seen x) o f) (member_registered x.member here)
        by true (suc k) here later f = later k f

    in_groups : (gs : List ObserverGroup) → list_all (registers_group ids) gs ≡ true → (i : ℕ) (group : List machine.Observer) → slice_get (map (map seen) (heard_among hears gs)) i ≡ Some group
        → (k : ℕ) (o : machine.Observer) → slice_get group k ≡ Some o → IsBody o.member.code.body
    in_groups [] h i group e k o f = absurd cc
    in_groups (g ∷ gs) h i group e k o f =
        let parts = and_parts (registers_group ids g) (list_all (registers_group ids) gs) h in
        by (not (has_none (filter hears g.observers))) i (λ d. in_group g.observers parts.0 k o d) (λ j d. in_groups gs parts.1 j group d k o f) e
      where
        by : (b : Bool) (i : ℕ) → (slice_get (map seen (filter hears g.observers)) k ≡ Some o → IsBody o.member.code.body) → ((j : ℕ) → slice_get (map (map seen) (heard_among hears gs)) j ≡ Some group → IsBody o.member.code.body)
            → slice_get (map (map seen) (cond b (filter hears g.observers ∷ heard_among hears gs) (heard_among hears gs))) i ≡ Some group → IsBody o.member.code.body
        by false i here later d = later i d
        by true zero here later d = here (ap (λ (os : List machine.Observer). slice_get os k) (same_Some (map seen (filter hears g.observers)) group d) ∙ f)
        by true (suc j) here later d = later j d

  observers_registered : (o : machine.Observer) → HearsAny (machine_tables t) o → IsBody o.member.code.body
  observers_registered o h =
      in_groups (hears_it t h.class h.qualifiers) (planned_groups t) has.observers h.at h.group (ap (λ (gs : List (List machine.Observer)). slice_get gs h.at) (heard_observers t h.class h.qualifiers) ∙ h.grouped) h.place o h.stands

  pub all_registered : (body : ℕ) → IsKnownBody (machine_tables t) body → IsBody body
  all_registered body (of_method is) = subst IsBody is.body_is (methods_registered is.bean is.name is.method is.found)
  all_registered body (of_callback is) = subst IsBody is.body_is (callbacks_registered is.callbacks is.called is.at is.code is.stands)
  all_registered body (of_initializer is) = subst IsBody is.body_is (all_steps is.component is.at (machine.Step.Initialize is.code is.points) is.stands)
  all_registered body (of_interceptor is) = subst IsBody is.body_is (interceptors_registered is.interceptor is.role is.code is.found)
  all_registered body (of_producer is) = subst IsBody is.body_is (producers_registered is.bean is.product is.member is.found is.source)
  all_registered body (of_disposer is) = subst IsBody is.body_is (disposers_registered is.bean is.at is.member is.stands)
  all_registered body (of_observer is) = subst IsBody is.body_is (observers_registered is.observer is.hears)

pub drives_registered : {X : Type 0} {F : X → Type 0} {g : _} (entries : List (Entry X F g)) → DrivesRegistered entries
drives_registered entries t told has body is = all_registered entries t told has body is
