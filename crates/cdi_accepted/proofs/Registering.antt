-- The bodies that can come to run are registered: of enabled beans, of enabled interceptors, and of the observers of enabled beans.
use Rattle.std.proofs.Common.{ℕ, ℤ, ◌≡◌, ◌∙◌, ◌&&◌, inl, inr, Bool, true, false, cond, List, [], ◌∷◌, ◌++◌, map, Option, Some, None, refl, sym, ap, subst}
use Rattle.std.specs.Prelude.{fold, int_lt, is_some, option_and_then, option_map, slice_get}
use Rattle.std.specs.List.{filter_map, list_all}
use Rattle.std.specs.Ordering.{int_eq}
use Rattle.std.proofs.lemmas.Bool.{and_from, and_parts}
use Rattle.std.proofs.lemmas.List.Folds.{list_all-append}
use Rattle.std.proofs.lemmas.Option.{same_Some}
use Rattle.cdi_base.specs.declared.place.InterceptorMethod.{InterceptorMethod}
use Rattle.cdi_base.specs.declared.place.InterceptorMethod.TheVariants as roles
use Rattle.cdi_base.specs.declared.place.Place.TheVariants as places
use Rattle.cdi_beans.specs.Kinds.{is_managed}
use Rattle.cdi_beans.specs.declared.bean.Bean.{Bean}
use Rattle.cdi_beans.specs.declared.bean.EnabledInterceptor.{EnabledInterceptor}
use Rattle.cdi_beans.specs.declared.bean.ObserverMethod.{ObserverMethod}
use Rattle.cdi_bodies.specs.declared.entry.Entry.{Entry}
use Rattle.cdi_body_check.specs.Shapes.{shape_of}
use Rattle.cdi_body_check.specs.Sites.{Site, body_of, member_body, method_body}
use Rattle.cdi_plans.specs.Chains.{interceptors_of}
use Rattle.cdi_check.specs.Accepted.{AreBodiesSound}
use Rattle.cdi_check.specs.Tables.{setting_by}
use Rattle.cdi_deployment.specs.declared.deployment.Class.{Class}
use Rattle.cdi_deployment.specs.declared.deployment.Constructor.{Constructor}
use Rattle.cdi_deployment.specs.declared.deployment.Deployment.{Deployment}
use Rattle.cdi_deployment.specs.declared.deployment.Interceptor.{Interceptor}
use Rattle.cdi_deployment.specs.declared.deployment.Member.{Member}
use Rattle.cdi_deployment.specs.declared.deployment.Member.TheVariants as members
use Rattle.cdi_deployment.specs.declared.deployment.Observer.{Observer}
use Rattle.cdi_event_tables.specs.Observers.{group_with, planned_observer, planned_with, with_next, with_planned, with_told}
use Rattle.cdi_event_tables.specs.declared.ids.BodyIds.{BodyIds}
use Rattle.cdi_event_tables.specs.declared.observer_groups.ObserverGroup.{ObserverGroup}
use Rattle.cdi_event_tables.specs.declared.observers.PlannedObserver.{PlannedObserver}
use Rattle.cdi_planner.specs.Codes.{completion, constructor_body, post_construct, pre_destroy}
use Rattle.cdi_planner.specs.Observers.{observer_of, observer_method}
use Rattle.cdi_planner.specs.Plans.{IsPlanOf}
use Rattle.cdi_planner.specs.Products.{IsProductPlan, disposer_method}
use Rattle.cdi_planner.specs.Steps.{construction, injections, steps_of}
use Rattle.cdi_planner.specs.Tables.{PlanTables}
use Rattle.cdi_plans.specs.declared.plan.Code.{Code}
use Rattle.cdi_plans.specs.declared.plan.InjectedMethod.{InjectedMethod}
use Rattle.cdi_plans.specs.declared.plan.ManagedPlan.{ManagedPlan}
use Rattle.cdi_plans.specs.declared.plan.Plan.{Plan}
use Rattle.cdi_plans.specs.declared.plan.Plan.TheVariants as plans
use Rattle.cdi_plans.specs.declared.plan.ProductPlan.{ProductPlan}
use Rattle.cdi_plans.specs.declared.plan.Source.{Source}
use Rattle.cdi_plans.specs.declared.plan.Step.{Step}
use Rattle.cdi_plans.specs.declared.plan.Step.TheVariants as steps
use Rattle.cdi_resolve.specs.Filters.{Candidates, enabled_of, is_enabled}
use Rattle.cdi_run_tables.specs.Machine.{AreIdsOf, declared_at, id_of, planned_at}
use Rattle.cdi_run_tables.specs.Observers.{planned_groups}
use Rattle.cdi_run_tables.specs.Planned.{IsPlanned, IsTabled, plan_tables}
use Rattle.cdi_run_tables.specs.Registered.{are_registered, is_registered, registers_body, registers_group, registers_interceptor, registers_member, registers_plan, registers_source, registers_step}
use Rattle.cdi_run_tables.specs.Parts.{PlannedBean}
use Rattle.cdi_run_tables.specs.declared.tables.RunTables.{RunTables}
use Rattle.cdi_types.specs.Line.{class_named}
use Rattle.cdi_types.specs.Members.{members_of}
use Rattle.cdi_accepted.proofs.Lists.{Among, at_among, given, mapped}
use Rattle.cdi_accepted.proofs.Bodies.{numbered}
use Rattle.cdi_accepted.proofs.Enabled.{by_flag, is_told, made_from, managed_at, of_planned}
use Rattle.cdi_accepted.proofs.Fitting.{sound}
use Rattle.cdi_accepted.proofs.Interceptors.{declared}
use Rattle.cdi_accepted.proofs.Live.{IsLiveSite, method_live, method_stands}
use Rattle.cdi_accepted.proofs.MemberCodes.{IsCodeOf, IsSourceOf, of_disposer, of_initialization, of_post_construct, of_pre_destroy, of_source}
use Rattle.cdi_accepted.proofs.Methods.{constructor_site, member_site}
use Rattle.cdi_accepted.proofs.Observers.{declared_is, observer_inside, observer_stands}
use Rattle.cdi_accepted.proofs.Places.{Beneath, beneath}
use Rattle.cdi_accepted.proofs.FitPlans.{HasPlan, has_plan}
use Rattle.cdi_accepted.proofs.Producing.{HasDeclaring, declaring, own_stands}
use Rattle.cdi_accepted.proofs.Products.{of_those}
use Rattle.cdi_accepted.proofs.Ready.{IsFrom, of_injections}
use Rattle.cdi_accepted.specs.Accepted.{WholeIsRegistered}

-- ---- lists

-- all pass, by what stands in the list
all_hold : {A : Type 0} (p : A → Bool) (xs : List A) → ((x : A) → Among x xs → p x ≡ true) → list_all p xs ≡ true
all_hold p [] each = refl
all_hold p (x ∷ xs) each = and_from (p x) (list_all p xs) (each x (inl refl)) (all_hold p xs (λ y a. each y (inr a)))

-- all of two lists pass, if all of each do
both_hold : {A : Type 0} (p : A → Bool) (xs ys : List A) → list_all p xs ≡ true → list_all p ys ≡ true → list_all p (xs ++ ys) ≡ true
both_hold p xs ys first second = list_all-append p xs ys ∙ and_from (list_all p xs) (list_all p ys) first second

-- all of a list of one pass, if that does
one_holds : {A : Type 0} (p : A → Bool) (x : A) → p x ≡ true → list_all p (x ∷ []) ≡ true
one_holds p x h = and_from (p x) true h refl

-- ---- groups of observers

module _ (p : PlannedObserver → Bool) where
  -- all observers of all groups pass
  abbrev PassInGroups : List ObserverGroup → Type 0
  PassInGroups groups = list_all (λ (g : ObserverGroup). list_all p g.observers) groups ≡ true

  -- and still do where an observer that passes is added
  with_one : (n : ℤ) (o : PlannedObserver) → p o ≡ true → (gs : List ObserverGroup) → PassInGroups gs → PassInGroups (with_planned n o gs)
  with_one n o h [] all = and_from (list_all p (o ∷ [])) true (one_holds p o h) refl
  with_one n o h (g ∷ more) all = by (int_eq n g.priority) (int_lt n g.priority) (with_one n o h more parts.1)
    where
      rest : Bool
      rest = list_all (λ (k : ObserverGroup). list_all p k.observers) more

      parts : (list_all p g.observers ≡ true) × PassInGroups more
      parts = and_parts (list_all p g.observers) rest all

      by : (b c : Bool) → PassInGroups (with_planned n o more) → PassInGroups (cond b (group_with g.priority (g.observers ++ o ∷ []) ∷ more) (cond c (group_with n (o ∷ []) ∷ g ∷ more) (g ∷ with_planned n o more)))
      by true c later = and_from (list_all p (g.observers ++ o ∷ [])) rest (both_hold p g.observers (o ∷ []) parts.0 (one_holds p o h)) parts.1
      by false true later = and_from (list_all p (o ∷ [])) (list_all (λ (k : ObserverGroup). list_all p k.observers) (g ∷ more)) (one_holds p o h) all
      by false false later = and_from (list_all p g.observers) (list_all (λ (k : ObserverGroup). list_all p k.observers) (with_planned n o more)) parts.0 later

  module _ (planning : PlanTables) (beans : Candidates) (ids : BodyIds) where
    -- what is planned of each of these observers passes, so that all in the groups do
    all_pass_in : (os : List ObserverMethod) (gs : List ObserverGroup) → ((o : ObserverMethod) → Among o os → (x : PlannedObserver) → planned_observer planning beans ids o ≡ Some x → p x ≡ true)
        → PassInGroups gs → PassInGroups (fold (with_next planning beans ids) gs os)
    all_pass_in [] gs each all = all
    all_pass_in (o ∷ os) gs each all = all_pass_in os (with_next planning beans ids gs o) (λ k a. each k (inr a)) (by (planned_observer planning beans ids o) refl)
      where
        by : (m : Option PlannedObserver) → planned_observer planning beans ids o ≡ m → PassInGroups (with_told o.priority m gs)
        by None e = all
        by (Some x) e = with_one o.priority x (each o (inl refl) x e) gs all

-- ---- live sites

module _ {X : Type 0} {F : X → Type 0} {g : _} (entries : List (Entry X F g)) (t : RunTables) (tabled : IsTabled t) (ids : AreIdsOf entries t)
    (sound_bodies : AreBodiesSound t.deployment (shape_of entries) (setting_by t.deployment t.tables)) where
  abbrev d : Deployment
  d = t.deployment

  abbrev Has : ℕ → Type 0
  Has body = is_some (id_of t body) ≡ true

  -- the body of a live site is registered
  of_site : (s : Site) → IsLiveSite t s → Has (body_of s)
  of_site s is = ap (λ o. is_some o) (numbered entries t ids sound_bodies s is.stands is.live)

  -- ---- managed beans

  module _ (b : ℕ) (listed : Bean) (enabled : Among (b, listed) (enabled_of t.tables.resolver)) (plan : HasPlan t b listed) where
    -- the body of a member of the bean
    of_member : (p : Class × Member) (body : ℕ) → member_body p.1 ≡ Some body → Among p (members_of plan.line) → Has body
    of_member p body is stands = of_site (Site.AMember p.0 p.1 body) (member_site entries t tabled ids sound_bodies b listed enabled plan p body is stands)

    -- and so is the code of a member, as a plan has it
    of_code : (test : Member → Bool) (p : Class × Member) (code : Code) (points : List _) → IsCodeOf test p code points → Among p (members_of plan.line) → is_registered (id_of t) code ≡ true
    of_code test p code points of stands = ap (λ (k : Code). is_some (id_of t k.body)) of.is ∙ of_member p of.body of.has stands

    -- callbacks among the members
    of_callbacks : (test : Member → Bool) (pick : Class × Member → Option Code) → ((p : Class × Member) (k : Code) → pick p ≡ Some k → IsCodeOf test p k []) → are_registered (id_of t) (filter_map pick (members_of plan.line)) ≡ true
    of_callbacks test pick each =
        all_hold (is_registered (id_of t)) (filter_map pick (members_of plan.line))
        (λ code a. let from = given pick (members_of plan.line) code a in of_code test from.item code [] (each from.item code from.is) from.stands)

    -- injected fields and initializers
    of_injection : (s : Step) → IsFrom (members_of plan.line) s → registers_step (id_of t) s ≡ true
    of_injection s (IsFrom.injects field point e) = ap (registers_step (id_of t)) e
    of_injection s (IsFrom.initializes p a e) =
        let from = of_initialization p s e in
        ap (registers_step (id_of t)) from.is ∙ of_code _ p from.code from.points from.of a

    -- the constructor
    of_construction : is_managed listed.kind ≡ true → registers_step (id_of t) (construction t.tables.chains listed.class plan.constructor) ≡ true
    of_construction kind =
        let P : Option Constructor → Type 0 = λ o. registers_step (id_of t) (construction t.tables.chains listed.class o) ≡ true in
        subst P (sym plan.is_constructor) (by (class_named d.classes listed.class) refl)
      where
        body : (c : Class) → class_named d.classes listed.class ≡ Some c → (k : Constructor) → c.constructor ≡ Some k → (o : Option ℕ) → k.body ≡ o → are_registered (id_of t) (constructor_body listed.class o) ≡ true
        body c named k has None is = refl
        body c named k has (Some n) is =
            one_holds (is_registered (id_of t)) (record { place = places.Constructor listed.class; body = n })
            (of_site (Site.AConstructor c k n) (constructor_site entries t tabled ids sound_bodies b listed enabled plan kind c named k n has is))

        in_class : (c : Class) → class_named d.classes listed.class ≡ Some c → (o : Option Constructor) → c.constructor ≡ o → registers_step (id_of t) (construction t.tables.chains listed.class o) ≡ true
        in_class c named None has = refl
        in_class c named (Some k) has = body c named k has k.body refl

        by : (o : Option Class) → class_named d.classes listed.class ≡ o → registers_step (id_of t) (construction t.tables.chains listed.class (option_and_then (λ (c : Class). c.constructor) o)) ≡ true
        by None named = refl
        by (Some c) named = in_class c named c.constructor refl

    -- the steps of its plan
    of_steps : is_managed listed.kind ≡ true → list_all (registers_step (id_of t)) (steps_of t.tables.chains plan.constructor listed plan.line) ≡ true
    of_steps kind =
        let runs = registers_step (id_of t) in
        let making = map steps.Intercept (interceptors_of t.tables.chains listed) in
        let made = construction t.tables.chains listed.class plan.constructor in
        let completing = steps.Complete (completion t.tables.chains listed.class (members_of plan.line)) in
        both_hold runs ((making ++ made ∷ []) ++ injections plan.line) (completing ∷ [])
        (both_hold runs (making ++ made ∷ []) (injections plan.line)
        (both_hold runs making (made ∷ [])
        (all_hold runs making (λ s a. ap runs (mapped steps.Intercept (interceptors_of t.tables.chains listed) s a).is))
        (one_holds runs made (of_construction kind)))
        (all_hold runs (injections plan.line) (λ s a. of_injection s (of_injections plan.line s a))))
        (one_holds runs completing (of_callbacks _ post_construct of_post_construct))

    -- what runs in the life of an instance of a managed bean
    of_managed : is_managed listed.kind ≡ true → registers_plan (id_of t) (plans.Managed plan.plan) ≡ true
    of_managed kind =
        ap (λ (p : ManagedPlan). registers_plan (id_of t) (plans.Managed p)) plan.is
        ∙ and_from (list_all (registers_step (id_of t)) (steps_of t.tables.chains plan.constructor listed plan.line))
        (are_registered (id_of t) (filter_map pre_destroy (members_of plan.line)))
        (of_steps kind) (of_callbacks _ pre_destroy of_pre_destroy)

  -- ---- products

  module _ (p : ProductPlan) (declared_in : Class × Member) (of : HasDeclaring t tabled p declared_in) where
    -- the body of a member of the declaring class
    of_own : (m : Member) → Among m declared_in.0.members → (body : ℕ) → member_body m ≡ Some body → Has body
    of_own m own body is =
        let at = of.at in
        of_member of.index at.listed at.enabled at.plan (declared_in.0, m) body is (own_stands t tabled declared_in of.index at of.named m own)

    -- the producer
    of_producer : (s : Source) → IsSourceOf t.tables.chains declared_in s → registers_source (id_of t) s ≡ true
    of_producer s (IsSourceOf.method k e from) =
        ap (registers_source (id_of t)) e ∙ ap (registers_member (id_of t)) from.is ∙ of_own declared_in.1 of.own from.body from.has
    of_producer s (IsSourceOf.field f e is) = ap (registers_source (id_of t)) e

    -- a disposer
    of_own_disposer : (m : Member) → Among m declared_in.0.members → (x : InjectedMethod) → disposer_method t.tables.chains declared_in.0 m ≡ Some x → registers_member (id_of t) x ≡ true
    of_own_disposer m own x e =
        let from = of_disposer t.tables.chains declared_in.0 m x e in
        ap (registers_member (id_of t)) from.is ∙ of_own m own from.body from.has

  -- what runs in the life of a product
  of_product : (b : ℕ) (listed : Bean) → Among (b, listed) (enabled_of t.tables.resolver) → (p : ProductPlan) → IsProductPlan (plan_tables d t.tables) listed.class listed.kind p → registers_plan (id_of t) (plans.Product p) ≡ true
  of_product b listed enabled p is =
      let of = declaring t tabled b listed enabled p is in
      let these = is.by.disposers in
      let method = disposer_method t.tables.chains is.declared.0 in
      let disposers : list_all (registers_member (id_of t)) p.disposers ≡ true =
      ap (list_all (registers_member (id_of t))) these.are
      ∙ all_hold (registers_member (id_of t)) (filter_map method these.serving)
      (λ x a.
      let from = given method these.serving x a in
      of_own_disposer p is.declared of from.item (of_those _ is.declared.0.members these.serving from.item these.serve from.stands) x from.is) in
      and_from (registers_source (id_of t) p.source) (list_all (registers_member (id_of t)) p.disposers)
      (of_producer p is.declared of p.source (of_source t.tables.chains is.declared p.source is.by.source)) disposers

  -- ---- beans

  -- what runs in the life of an instance of an enabled bean
  of_bean : (b : ℕ) (planned : PlannedBean) → planned_at t b ≡ Some planned → registers_plan (id_of t) planned.plan ≡ true
  of_bean b planned e = by planned.plan refl below.related.plan
    where
      there : (is_enabled t.tables.resolver.flags b ≡ true) × (slice_get t.beans b ≡ Some planned)
      there = of_planned t b planned e

      below : Beneath (IsPlanned (plan_tables d t.tables)) t.tables.resolver.beans b planned
      below = beneath (IsPlanned (plan_tables d t.tables)) t.tables.resolver.beans t.beans b planned tabled.planned there.1

      enabled : Among (b, below.item) (enabled_of t.tables.resolver)
      enabled = by_flag t b below.item below.stands there.0

      by : (p : Plan) → planned.plan ≡ p → IsPlanOf (plan_tables d t.tables) below.item p → registers_plan (id_of t) p ≡ true
      by (plans.Managed p) is (IsPlanOf.managed kind of) =
          let plan = has_plan t tabled b below.item below.stands kind in
          let same : planned ≡ plan.planned = same_Some planned plan.planned (sym there.1 ∙ plan.has) in
          ap (registers_plan (id_of t)) (sym is ∙ ap (λ (x : PlannedBean). x.plan) same ∙ plan.is_plan)
          ∙ of_managed b below.item enabled plan (ap is_managed kind)
      by (plans.Product p) is (IsPlanOf.product of) = of_product b below.item enabled p of

  -- ---- interceptors

  -- the methods of an enabled interceptor
  of_interceptor : (i : ℕ) (j : Interceptor) → declared_at t i ≡ Some j → registers_interceptor (id_of t) j ≡ true
  of_interceptor i j e = by (slice_get t.tables.chains.interceptors i) refl e
    where
      by : (o : Option EnabledInterceptor) → slice_get t.tables.chains.interceptors i ≡ o → option_and_then (λ (k : EnabledInterceptor). slice_get d.interceptors k.index) o ≡ Some j → registers_interceptor (id_of t) j ≡ true
      by None at h = absurd cc
      by (Some k) at h =
          let both = and_from (registers_body (id_of t) j.invoke && registers_body (id_of t) j.construct && registers_body (id_of t) j.post) (registers_body (id_of t) j.pre) in
          both
          (and_from (registers_body (id_of t) j.invoke && registers_body (id_of t) j.construct) (registers_body (id_of t) j.post)
          (and_from (registers_body (id_of t) j.invoke) (registers_body (id_of t) j.construct) (of_role roles.AroundInvoke) (of_role roles.AroundConstruct)) (of_role roles.PostConstruct))
          (of_role roles.PreDestroy)
        where
          stands : Among k t.tables.chains.interceptors
          stands = at_among t.tables.chains.interceptors i k at

          of_role : (role : InterceptorMethod) → registers_body (id_of t) (method_body j role) ≡ true
          of_role role = of_method (method_body j role) refl
            where
              of_method : (o : Option ℕ) → method_body j role ≡ o → registers_body (id_of t) o ≡ true
              of_method None is = refl
              of_method (Some body) is =
                  let from = declared t tabled k stands in
                  let same : from.interceptor ≡ j = same_Some from.interceptor j (sym from.has ∙ h) in
                  of_site (Site.AnInterceptorMethod j role body)
                  (record {
                    stands = method_stands d j role body is (at_among d.interceptors k.index j h);
                    live = method_live t i j k role body stands (from.name ∙ ap (λ (x : Interceptor). x.name) same);
                  })

  -- ---- observers

  abbrev Runs : PlannedObserver → Bool
  Runs x = registers_member (id_of t) x.member

  -- what runs where an observer of an enabled bean is notified
  of_observer : (o : ObserverMethod) → Among o t.tables.observers → (x : PlannedObserver) → planned_observer (plan_tables d t.tables) t.tables.resolver t.ids o ≡ Some x → Runs x ≡ true
  of_observer o stands x e =
      let method = observer_method t.tables.chains o.bean in
      let told = is_told t o.bean (λ n. option_map (planned_with t.ids o n) (option_map method (observer_of d.classes o))) x e in
      let made = made_from (planned_with t.ids o told.bean) (option_map method (observer_of d.classes o)) x told.is in
      let from = made_from method (observer_of d.classes o) made.0 made.1 in
      let at = managed_at t tabled told.bean o.bean told.found told.on in
      let inside = observer_inside t tabled o stands in
      let body : Has inside.declared.1.body =
      of_member told.bean at.listed at.enabled at.plan (inside.declared.0, members.Observer inside.declared.1) inside.declared.1.body refl
      (observer_stands entries t tabled ids sound_bodies o told.bean at inside) in
      ap Runs (sym made.2) ∙ ap (registers_member (id_of t)) (sym from.2)
      ∙ ap (λ (q : Class × Observer). is_some (id_of t q.1.body)) (declared_is entries t tabled ids sound_bodies o told.bean at inside from.0 from.1)
      ∙ body

  -- all observers that are kept for a run
  of_groups : list_all (registers_group (id_of t)) (planned_groups t) ≡ true
  of_groups = all_pass_in Runs (plan_tables d t.tables) t.tables.resolver t.ids t.tables.observers [] of_observer refl

-- all bodies that can come to run in an accepted deployment are registered
pub whole_is_registered : {X : Type 0} {F : X → Type 0} {g : _} (entries : List (Entry X F g)) → WholeIsRegistered entries
whole_is_registered entries t a =
    let bodies = sound entries t a in
    record {
      beans = of_bean entries t a.tabled a.ids bodies;
      interceptors = of_interceptor entries t a.tabled a.ids bodies;
      observers = of_groups entries t a.tabled a.ids bodies;
    }
