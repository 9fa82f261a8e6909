-- The steps and places in a plan are numbers of 32 bits, since few interceptors are enabled and the line of its class is short.
use Rattle.std.proofs.Common.{ℕ, ◌≡◌, ◌∙◌, ◌≤◌, ◌^◌, true, List, [], ◌∷◌, ◌++◌, filter, length, map, Option, Some, None, refl, ap, subst, arith}
use Rattle.std.proofs.lemmas.Bool.{and_from, lt-ltb}
use Rattle.std.proofs.lemmas.List.Folds.{list_all-map}
use Rattle.std.proofs.lemmas.Option.{same_Some}
use Rattle.std.specs.List.{AllByRecursion, filter_map, list_all}
use Rattle.cdi_base.specs.declared.place.InterceptorMethod.TheVariants as methods
use Rattle.cdi_beans.specs.declared.bean.Bean.{Bean}
use Rattle.cdi_plans.specs.Chains.{ChainTables, interceptors_of}
use Rattle.cdi_deployment.specs.declared.deployment.Class.{Class}
use Rattle.cdi_deployment.specs.declared.deployment.Constructor.{Constructor}
use Rattle.cdi_deployment.specs.declared.deployment.InjectedField.{InjectedField}
use Rattle.cdi_deployment.specs.declared.deployment.Member.{Member}
use Rattle.cdi_deployment.specs.declared.deployment.Member.TheVariants as members
use Rattle.cdi_numbered_plans.specs.Numbers.{is_number, numbers_managed, numbers_member, numbers_method, numbers_product, numbers_source, numbers_step}
use Rattle.cdi_types.specs.Members.{comes_down, members_of, parts_of}
use Rattle.cdi_planner.specs.Codes.{business_method, completion}
use Rattle.cdi_planner.specs.Plans.{managed_plan}
use Rattle.cdi_planner.specs.Products.{IsPlanBy, disposer_method, source_of}
use Rattle.cdi_planner.specs.Steps.{class_steps, construction, initialization, injection, injections, steps_of}
use Rattle.cdi_planner.specs.Tables.{PlanTables}
use Rattle.cdi_plans.specs.declared.plan.BusinessMethod.{BusinessMethod}
use Rattle.cdi_plans.specs.declared.plan.InjectedMethod.{InjectedMethod}
use Rattle.cdi_plans.specs.declared.plan.ProductPlan.{ProductPlan}
use Rattle.cdi_plans.specs.declared.plan.Source.{Source}
use Rattle.cdi_plans.specs.declared.plan.Step.{Step}
use Rattle.cdi_plans.specs.declared.plan.Step.TheVariants as steps
use Rattle.cdi_report.proofs.Each.{all_pass, each_append, each_given, each_passes}
use Rattle.cdi_report.proofs.PlanLengths.{few_steps}
use Rattle.cdi_report.proofs.Places.{instances_numbered, invoke_numbered, life_numbered}
use Rattle.cdi_report.proofs.Within.{HasFew, HasFewMembers}

abbrev IsNumbered : Step → Type 0
IsNumbered s = numbers_step s ≡ true

-- ---- steps in which no interceptor stands

-- the steps of injected fields
each_injection : (fields : List InjectedField) → AllByRecursion IsNumbered (map injection fields)
each_injection [] = tt
each_injection (f ∷ fields) = (refl, each_injection fields)

-- that of an initializer
of_initializer : (m : Class × Member) (s : Step) → initialization m ≡ Some s → IsNumbered s
of_initializer (c, members.Initializer m) s e = subst IsNumbered (same_Some _ s e) refl
of_initializer (c, m) s e = absurd cc

-- those of a class
each_in_class : (c : Class) (below : List Class) → AllByRecursion IsNumbered (class_steps c below)
each_in_class c below =
    let parts : List (Class × Member) = parts_of c (filter (comes_down below) c.members) in
    each_append IsNumbered (map injection c.inject) (filter_map initialization parts)
    (each_injection c.inject) (each_given IsNumbered initialization parts of_initializer)

-- and of all classes of a line
each_injected : (line : List Class) → AllByRecursion IsNumbered (injections line)
each_injected [] = tt
each_injected (c ∷ below) =
    each_append IsNumbered (class_steps c below) (injections below) (each_in_class c below)
    (each_injected below)

module _ (t : ChainTables) (enabled : length t.interceptors ≤ 2048) where
  -- ---- a managed bean

  -- the steps that create its interceptors
  each_instance : (b : Bean) → AllByRecursion IsNumbered (map steps.Intercept (interceptors_of t b))
  each_instance b =
      each_passes numbers_step (map steps.Intercept (interceptors_of t b))
      (list_all-map numbers_step steps.Intercept (interceptors_of t b) ∙ instances_numbered t enabled b)

  -- its construction
  of_construction : (bean : ℕ) (constructor : Option Constructor)
      → IsNumbered (construction t bean constructor)
  of_construction bean None = life_numbered t enabled bean methods.AroundConstruct
  of_construction bean (Some c) = life_numbered t enabled bean methods.AroundConstruct

  -- its methods
  of_method : (bean : ℕ) (m : Class × Member) (k : BusinessMethod) → business_method t bean m ≡ Some k
      → numbers_method k ≡ true
  of_method bean (c, members.Method m) k e =
      subst (λ (k : BusinessMethod). numbers_method k ≡ true) (same_Some _ k e)
      (invoke_numbered t enabled bean (record { class = c.name; name = m.name }))
  of_method bean (c, m) k e = absurd cc

  module _ (b : Bean) (constructor : Option Constructor) (line : List Class) where
    -- all of its steps
    each_step : AllByRecursion IsNumbered (steps_of t constructor b line)
    each_step =
        let first : List Step = map steps.Intercept (interceptors_of t b) in
        let making : List Step = construction t b.class constructor ∷ [] in
        let last : List Step = steps.Complete (completion t b.class (members_of line)) ∷ [] in
        each_append IsNumbered (first ++ making ++ injections line) last
        (each_append IsNumbered (first ++ making) (injections line)
        (each_append IsNumbered first making (each_instance b) (of_construction b.class constructor, tt))
        (each_injected line))
        (life_numbered t enabled b.class methods.PostConstruct, tt)

    -- its whole plan
    pub managed_numbered : AllByRecursion HasFew line → AllByRecursion HasFewMembers line
        → length line ≤ 1024 → numbers_managed (managed_plan t constructor b line) ≡ true
    managed_numbered few members short =
        let all : List Step = steps_of t constructor b line in
        let had : List (Class × Member) = members_of line in
        and_from _ _
        (and_from _ _
        (and_from (is_number (length all)) (list_all numbers_step all)
        (lt-ltb (length all) (2 ^ 32) (omega (arith, few_steps t enabled b line constructor few members, short)))
        (all_pass IsNumbered numbers_step all (λ s is. is) each_step))
        (life_numbered t enabled b.class methods.PreDestroy))
        (all_pass (λ k. numbers_method k ≡ true) numbers_method (filter_map (business_method t b.class) had)
        (λ k is. is)
        (each_given (λ k. numbers_method k ≡ true) (business_method t b.class) had (of_method b.class)))

  -- ---- a product

  -- what it comes from
  of_source : (declared : Class × Member) (source : Source) → source_of t declared ≡ Some source
      → numbers_source source ≡ true
  of_source (c, members.Producer p) source e =
      subst (λ s. numbers_source s ≡ true) (same_Some _ source e)
      (invoke_numbered t enabled c.name (record { class = c.name; name = p.name }))
  of_source (c, members.ProducerField p) source e =
      subst (λ s. numbers_source s ≡ true) (same_Some _ source e) refl
  of_source (c, m) source e = absurd cc

  -- and each of its disposers
  of_disposer : (c : Class) (m : Member) (k : InjectedMethod) → disposer_method t c m ≡ Some k
      → numbers_member k ≡ true
  of_disposer c (members.Disposer m) k e =
      subst (λ k. numbers_member k ≡ true) (same_Some _ k e)
      (invoke_numbered t enabled c.name (record { class = c.name; name = m.name }))
  of_disposer c m k e = absurd cc

-- its whole plan
pub product_numbered : (t : PlanTables) → length t.chains.interceptors ≤ 2048
    → (declared : Class × Member) (plan : ProductPlan) → IsPlanBy t declared plan
    → numbers_product plan ≡ true
product_numbered t enabled declared plan by =
    let serving : List Member = by.disposers.serving in
    let made : List InjectedMethod = filter_map (disposer_method t.chains declared.0) serving in
    let each : list_all numbers_member made ≡ true =
    all_pass (λ k. numbers_member k ≡ true) numbers_member made (λ k is. is)
    (each_given (λ k. numbers_member k ≡ true) (disposer_method t.chains declared.0) serving
    (of_disposer t.chains enabled declared.0)) in
    and_from (numbers_source plan.source) (list_all numbers_member plan.disposers)
    (of_source t.chains enabled declared plan.source by.source)
    (ap (list_all numbers_member) by.disposers.are ∙ each)
