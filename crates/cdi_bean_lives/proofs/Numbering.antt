-- The places of interceptors in plans are numbers of 32 bits, since few interceptors are enabled.
use Rattle.std.proofs.Common.{ℕ, ◌≡◌, ◌∙◌, ◌+◌, ◌≤◌, ◌^◌, Bool, true, false, cond, List, [], ◌∷◌, ◌++◌, filter, map, length, Option, Some, None, refl, subst, arith}
use Rattle.std.proofs.lemmas.Bool.{and_from, and_parts, lt-ltb}
use Rattle.std.proofs.lemmas.List.Folds.{list_all-map}
use Rattle.std.proofs.lemmas.Option.{same_Some}
use Rattle.std.specs.List.{cons_option, enumerate_from, filter_map, list_all}
use Rattle.cdi_base.specs.declared.place.InterceptorMethod.{InterceptorMethod}
use Rattle.cdi_base.specs.declared.place.InterceptorMethod.TheVariants as methods
use Rattle.cdi_beans.specs.declared.bean.Bean.{Bean}
use Rattle.cdi_beans.specs.declared.bean.BeanMember.{BeanMember}
use Rattle.cdi_beans.specs.declared.bean.EnabledInterceptor.{EnabledInterceptor}
use Rattle.cdi_deployment.specs.declared.deployment.Class.{Class}
use Rattle.cdi_deployment.specs.declared.deployment.Constructor.{Constructor}
use Rattle.cdi_deployment.specs.declared.deployment.InjectedField.{InjectedField}
use Rattle.cdi_deployment.specs.declared.deployment.Member.{Member}
use Rattle.cdi_deployment.specs.declared.deployment.Member.TheVariants as members
use Rattle.cdi_numbered_plans.specs.Numbers.{are_numbers, is_number, numbers_lifecycle, numbers_managed, numbers_method, numbers_methods, numbers_step}
use Rattle.cdi_planner.specs.Codes.{business_method, completion, lifecycle}
use Rattle.cdi_planner.specs.Plans.{managed_plan}
use Rattle.cdi_planner.specs.Steps.{class_steps, construction, first_steps, initialization, injection, injections, steps_of}
use Rattle.cdi_plans.specs.Bindings.{bindings_had}
use Rattle.cdi_plans.specs.Chains.{ChainTables, chain_with, class_level, intercepts, interceptors_of, invoke_chain, is_bound, life_chain, member_level, places_from}
use Rattle.cdi_plans.specs.declared.plan.BusinessMethod.{BusinessMethod}
use Rattle.cdi_plans.specs.declared.plan.Code.{Code}
use Rattle.cdi_plans.specs.declared.plan.Step.{Step}
use Rattle.cdi_plans.specs.declared.plan.Step.TheVariants as steps
use Rattle.cdi_quals.specs.declared.qualifier.Qualifier.{Qualifier}
use Rattle.cdi_types.specs.Members.{comes_down, members_of, parts_of}

-- ---- what passes in each part of a list passes in all of it

module _ {X : Type 0} (p : X → Bool) where
  all_append : (xs ys : List X) → list_all p xs ≡ true → list_all p ys ≡ true → list_all p (xs ++ ys) ≡ true
  all_append [] ys a b = b
  all_append (x ∷ xs) ys a b =
      let parts = and_parts (p x) (list_all p xs) a in
      and_from (p x) (list_all p (xs ++ ys)) parts.0 (all_append xs ys parts.1 b)

  -- each item that is given passes, if each does that can be
  all_given : {Y : Type 0} (h : Y → Option X) → ((y : Y) (x : X) → h y ≡ Some x → p x ≡ true)
      → (ys : List Y) → list_all p (filter_map h ys) ≡ true
  all_given h passes [] = refl
  all_given h passes (y ∷ ys) = by (h y) refl (all_given h passes ys)
    where
      by : (o : Option X) → h y ≡ o → list_all p (filter_map h ys) ≡ true
          → list_all p (cons_option o (filter_map h ys)) ≡ true
      by None e more = more
      by (Some x) e more = and_from (p x) (list_all p (filter_map h ys)) (passes y x e) more

-- ---- steps in which no interceptor stands

all_injected : (fields : List InjectedField) → list_all numbers_step (map injection fields) ≡ true
all_injected [] = refl
all_injected (f ∷ fields) = all_injected fields

of_initializer : (m : Class × Member) (s : Step) → initialization m ≡ Some s → numbers_step s ≡ true
of_initializer (c, members.Initializer m) s e = subst (λ s. numbers_step s ≡ true) (same_Some _ s e) refl
of_initializer (c, m) s e = absurd cc

pub injections_numbered : (line : List Class) → list_all numbers_step (injections line) ≡ true
injections_numbered [] = refl
injections_numbered (c ∷ below) =
    let parts : List (Class × Member) = parts_of c (filter (comes_down below) c.members) in
    all_append numbers_step (class_steps c below) (injections below)
    (all_append numbers_step (map injection c.inject) (filter_map initialization parts)
    (all_injected c.inject) (all_given numbers_step initialization of_initializer parts))
    (injections_numbered below)

-- ---- the places of interceptors

module _ (passes : EnabledInterceptor → Bool) where
  -- those that stand at such numbers are such numbers
  places_are_numbers : (first : ℕ) (js : List EnabledInterceptor) → first + length js ≤ 2 ^ 32
      → are_numbers (places_from passes first js) ≡ true
  places_are_numbers first [] few = refl
  places_are_numbers first (j ∷ js) few =
      by (passes j) (places_are_numbers (first + 1) js (omega (arith, few)))
    where
      others : List (ℕ × EnabledInterceptor)
      others = filter (λ p. passes p.1) (enumerate_from (first + 1) js)

      by : (b : Bool) → are_numbers (places_from passes (first + 1) js) ≡ true
          → are_numbers (map (λ (p : ℕ × EnabledInterceptor). p.0) (cond b ((first, j) ∷ others) others)) ≡ true
      by true more =
          and_from (is_number first) (are_numbers (places_from passes (first + 1) js))
          (lt-ltb first (2 ^ 32) (omega (arith, few))) more
      by false more = more

module _ (t : ChainTables) (few : length t.interceptors ≤ 2 ^ 32) where
  -- the places of those that pass any test
  are_numbered : (passes : EnabledInterceptor → Bool) → are_numbers (places_from passes 0 t.interceptors) ≡ true
  are_numbered passes = places_are_numbers passes 0 t.interceptors (omega (arith, few))

  -- those of a lifecycle chain
  life_numbered : (bean : ℕ) (method : InterceptorMethod) → are_numbers (life_chain t bean method) ≡ true
  life_numbered bean method = are_numbered (is_bound method (class_level t bean))

  -- those of the chain of a member
  invoke_numbered : (bean : ℕ) (m : BeanMember) → are_numbers (invoke_chain t bean m) ≡ true
  invoke_numbered bean m = by (member_level t m)
    where
      by : (own : Option (List Qualifier)) → are_numbers (chain_with methods.AroundInvoke own (class_level t bean) t.interceptors) ≡ true
      by None = refl
      by (Some own) = are_numbered (is_bound methods.AroundInvoke (bindings_had own (class_level t bean)))

  -- ---- what a managed bean has

  of_method : (bean : ℕ) (m : Class × Member) (k : BusinessMethod) → business_method t bean m ≡ Some k → numbers_method k ≡ true
  of_method bean (c, members.Method m) k e =
      subst (λ (k : BusinessMethod). numbers_method k ≡ true) (same_Some _ k e)
      (invoke_numbered bean (record { class = c.name; name = m.name }))
  of_method bean (c, m) k e = absurd cc

  pub methods_numbered : (bean : ℕ) (ps : List (Class × Member)) → numbers_methods (filter_map (business_method t bean) ps) ≡ true
  methods_numbered bean ps = all_given numbers_method (business_method t bean) (of_method bean) ps

  pub lifecycle_numbered : (bean : ℕ) (method : InterceptorMethod) (callbacks : List Code)
      → numbers_lifecycle (lifecycle t bean method callbacks) ≡ true
  lifecycle_numbered bean method callbacks = life_numbered bean method

  of_construction : (bean : ℕ) (constructor : Option Constructor) → numbers_step (construction t bean constructor) ≡ true
  of_construction bean None = life_numbered bean methods.AroundConstruct
  of_construction bean (Some c) = life_numbered bean methods.AroundConstruct

  pub first_numbered : (constructor : Option Constructor) (b : Bean) → list_all numbers_step (first_steps t constructor b) ≡ true
  first_numbered constructor b =
      all_append numbers_step (map steps.Intercept (interceptors_of t b)) (construction t b.class constructor ∷ [])
      (list_all-map numbers_step steps.Intercept (interceptors_of t b) ∙ are_numbered (intercepts t b))
      (and_from (numbers_step (construction t b.class constructor)) true (of_construction b.class constructor) refl)

  module _ (constructor : Option Constructor) (b : Bean) (line : List Class) where
    -- all of its steps
    all_numbered : list_all numbers_step (steps_of t constructor b line) ≡ true
    all_numbered =
        let last : Step = steps.Complete (completion t b.class (members_of line)) in
        all_append numbers_step (first_steps t constructor b ++ injections line) (last ∷ [])
        (all_append numbers_step (first_steps t constructor b) (injections line) (first_numbered constructor b) (injections_numbered line))
        (and_from (numbers_step last) true (life_numbered b.class methods.PostConstruct) refl)

    -- its whole plan, if that has so few steps
    pub managed_numbered : is_number (length (steps_of t constructor b line)) ≡ true → numbers_managed (managed_plan t constructor b line) ≡ true
    managed_numbered short =
        and_from _ _
        (and_from _ _
        (and_from (is_number (length (steps_of t constructor b line))) (list_all numbers_step (steps_of t constructor b line)) short all_numbered)
        (life_numbered b.class methods.PreDestroy))
        (methods_numbered b.class (members_of line))
