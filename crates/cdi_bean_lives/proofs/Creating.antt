-- What is kept of a managed bean is by its plan.
use Rattle.std.proofs.Common.{ℕ, ◌≡◌, ◌∙◌, ◌+◌, ◌<◌, ◌≤◌, ◌^◌, ◌&&◌, Bool, true, false, not, cond, List, [], ◌∷◌, ◌++◌, length, length-append, map, filter, nat_lt, Option, Some, None, option_map, refl, sym, ap, subst, arith}
use Rattle.std.specs.Prelude.{is_some}
use Rattle.std.specs.List.{cons_option, enumerate_from, filter_map}
use Rattle.std.proofs.lemmas.Bool.{ltb-true, lt-ltb}
use Rattle.std.proofs.lemmas.List.{length-map, map-append}
use Rattle.std.proofs.lemmas.List.Elements.{filter-append}
use Rattle.std.proofs.lemmas.List.FromFn.{length-enumerate_from}
use Rattle.std.proofs.lemmas.List.Sums.{count_by-le-length, length-filter}
use Rattle.std.proofs.lemmas.Option.{same_Some}
use Rattle.cdi_base.specs.declared.place.InterceptorMethod.TheVariants as methods
use Rattle.cdi_bean_lives.proofs.Numbering.{managed_numbered}
use Rattle.cdi_bean_lives.specs.Beans.{AreFew, IsKeptWith, kept_line, method_kept, numbered_kept, plan_kept}
use Rattle.cdi_bean_lives.specs.Completed.{completed, completed_if, life_with}
use Rattle.cdi_bean_lives.specs.Lives.{AreLives, HasLife, IsKeptClass, classes_named}
use Rattle.cdi_bean_lives.specs.Steps.{kept_steps}
use Rattle.cdi_bean_lives.specs.declared.bean.BeanLife.{BeanLife}
use Rattle.cdi_bean_lives.specs.declared.kept.KeptBean.TheVariants as kept_beans
use Rattle.cdi_beans.specs.declared.bean.Bean.{Bean}
use Rattle.cdi_beans.specs.declared.bean.BeanKind.TheVariants as kinds
use Rattle.cdi_class_lives.specs.ClassLives.{fields_of, injections_of, life_of, line_in, post_constructs_of, pre_destroys_of}
use Rattle.cdi_class_lives.specs.declared.life.ClassLife.{ClassLife}
use Rattle.cdi_class_lives.specs.declared.lives.ClassLives.{ClassLives}
use Rattle.cdi_deployment.specs.declared.deployment.Class.{Class}
use Rattle.cdi_deployment.specs.declared.deployment.Constructor.{Constructor}
use Rattle.cdi_deployment.specs.declared.deployment.InjectedField.{InjectedField}
use Rattle.cdi_deployment.specs.declared.deployment.Member.{Member}
use Rattle.cdi_deployment.specs.declared.deployment.Member.TheVariants as members
use Rattle.cdi_numbered_plans.proofs.Told.{is_numbered_plan}
use Rattle.cdi_numbered_plans.specs.Life.{NumberedPlan}
use Rattle.cdi_numbered_plans.specs.Machine.{does_something, has_none, is_idle, machine_code}
use Rattle.cdi_numbered_plans.specs.Numbered.{bodies_by, can_number, lifecycle_by, plan_by, step_by, steps_by}
use Rattle.cdi_numbered_plans.specs.Numbers.{has_numbers}
use Rattle.cdi_numbered_plans.specs.Methods.{AreMethodsBy}
use Rattle.cdi_numbered_plans.specs.Plans.{IsNumberedPlan}
use Rattle.cdi_numbered_plans.specs.declared.numbering.Numbering.{Numbering}
use Rattle.cdi_planner.specs.Codes.{completion, destruction}
use Rattle.cdi_planner.specs.Plans.{IsPlanOf, constructor_of, initial_fields, managed_plan}
use Rattle.cdi_planner.specs.Steps.{construction, first_steps, initialization, injection, injections, steps_of}
use Rattle.cdi_planner.specs.Tables.{PlanTables}
use Rattle.cdi_plans.specs.Chains.{ChainTables, intercepts, interceptors_of, places_from}
use Rattle.cdi_plans.specs.declared.plan.Lifecycle.{Lifecycle}
use Rattle.cdi_plans.specs.declared.plan.Plan.TheVariants as plans
use Rattle.cdi_plans.specs.declared.plan.Step.{Step}
use Rattle.cdi_plans.specs.declared.plan.Step.TheVariants as steps
use Rattle.cdi_beans.specs.declared.bean.EnabledInterceptor.{EnabledInterceptor}
use Rattle.cdi_types.specs.Members.{comes_down, members_of, parts_of}

-- ---- counts

fewer : {X : Type 0} (p : X → Bool) (xs : List X) → length (filter p xs) ≤ length xs
fewer p xs = omega (arith, length-filter p xs, count_by-le-length p xs)

places_fewer : (p : EnabledInterceptor → Bool) (js : List EnabledInterceptor) → length (places_from p 0 js) ≤ length js
places_fewer p js =
    let all = enumerate_from 0 js in
    let passes : ℕ × EnabledInterceptor → Bool = λ q. p q.1 in
    let same : length (places_from p 0 js) ≡ length (filter passes all) = length-map (filter passes all) (λ (q : ℕ × EnabledInterceptor). q.0) in
    omega (arith, same, fewer passes all, length-enumerate_from 0 js)

-- ---- something runs at each injected field and initializer

fields_do : (fields : List InjectedField) → filter does_something (map injection fields) ≡ map injection fields
fields_do [] = refl
fields_do (f ∷ fs) = ap (λ all. injection f ∷ all) (fields_do fs)

initializers_do : (ps : List (Class × Member)) → filter does_something (filter_map initialization ps) ≡ filter_map initialization ps
initializers_do [] = refl
initializers_do ((c, m) ∷ ps) = by m (initializers_do ps)
  where
    by : (m : Member) → filter does_something (filter_map initialization ps) ≡ filter_map initialization ps
        → filter does_something (cons_option (initialization (c, m)) (filter_map initialization ps)) ≡ cons_option (initialization (c, m)) (filter_map initialization ps)
    by (members.Initializer i) rest = ap (cons_option (initialization (c, members.Initializer i))) rest
    by (members.Method i) rest = rest
    by (members.PostConstruct i) rest = rest
    by (members.PreDestroy i) rest = rest
    by (members.Producer i) rest = rest
    by (members.ProducerField i) rest = rest
    by (members.Disposer i) rest = rest
    by (members.Observer i) rest = rest

injections_do : (line : List Class) → filter does_something (injections line) ≡ injections line
injections_do [] = refl
injections_do (c ∷ below) =
    let own = map injection c.inject in
    let has = filter_map initialization (parts_of c (filter (comes_down below) c.members)) in
    filter-append does_something (own ++ has) (injections below)
    ∙ ap (λ all. all ++ filter does_something (injections below)) (filter-append does_something own has ∙ ap (λ all. all ++ filter does_something has) (fields_do c.inject) ∙ ap (λ all. own ++ all) (initializers_do (parts_of c (filter (comes_down below) c.members))))
    ∙ ap (λ all. (own ++ has) ++ all) (injections_do below)

-- ---- steps by their numbers

has_none_map : {X Y : Type 0} (f : X → Y) (xs : List X) → has_none (map f xs) ≡ has_none xs
has_none_map f [] = refl
has_none_map f (x ∷ xs) = refl

module _ (n : Numbering) where
  steps_both : (xs ys : List Step) → steps_by n (xs ++ ys) ≡ steps_by n xs ++ steps_by n ys
  steps_both xs ys = ap (map (step_by n)) (filter-append does_something xs ys) ∙ map-append (step_by n) (filter does_something xs) (filter does_something ys)

  completed_so : (l : Lifecycle) → steps_by n (steps.Complete l ∷ []) ≡ completed (lifecycle_by (bodies_by n) l)
  completed_so l =
      by (is_idle l)
      ∙ ap (λ b. completed_if (has_none l.chain && b) (lifecycle_by (bodies_by n) l)) (sym (has_none_map (machine_code (bodies_by n)) l.callbacks))
    where
      by : (b : Bool) → map (step_by n) (cond (not b) (steps.Complete l ∷ []) []) ≡ completed_if b (lifecycle_by (bodies_by n) l)
      by true = refl
      by false = refl

  steps_split : (t : ChainTables) (constructor : Option Constructor) (b : Bean) (line : List Class)
      → steps_by n (steps_of t constructor b line)
      ≡ steps_by n (first_steps t constructor b) ++ steps_by n (injections line) ++ completed (lifecycle_by (bodies_by n) (completion t b.class (members_of line)))
  steps_split t constructor b line =
      let front = first_steps t constructor b in
      let last = steps.Complete (completion t b.class (members_of line)) ∷ [] in
      steps_both (front ++ injections line) last
      ∙ ap (λ all. all ++ steps_by n last) (steps_both front (injections line))
      ∙ ap (λ all. steps_by n front ++ steps_by n (injections line) ++ all) (completed_so (completion t b.class (members_of line)))

  fewer_by : (all : List Step) → length (steps_by n all) ≤ length all
  fewer_by all = omega (arith, length-map (filter does_something all) (step_by n), fewer does_something all)

  injections_count : (line : List Class) → length (steps_by n (injections line)) ≡ length (injections line)
  injections_count line = length-map (filter does_something (injections line)) (step_by n) ∙ ap length (injections_do line)

steps_count : (t : ChainTables) (constructor : Option Constructor) (b : Bean) (line : List Class)
    → length (steps_of t constructor b line) ≤ length t.interceptors + length (injections line) + 2
steps_count t constructor b line =
    let chain = map steps.Intercept (interceptors_of t b) in
    let last = steps.Complete (completion t b.class (members_of line)) ∷ [] in
    omega (
      arith,
      length-append (first_steps t constructor b ++ injections line) last,
      length-append (first_steps t constructor b) (injections line),
      length-append chain (construction t b.class constructor ∷ []),
      length-map (interceptors_of t b) steps.Intercept,
      places_fewer (intercepts t b) t.interceptors,
    )

-- ---- of a managed bean

pub line_so : (l : ClassLives) (o : Option ClassLife) (names : List ℕ) → option_map (λ (life : ClassLife). life.line) o ≡ Some names → line_in l o ≡ names
line_so l None names e = absurd cc
line_so l (Some life) names e = same_Some life.line names e

module _ (t : PlanTables) (n : Numbering) (l : ClassLives) (b : Bean) (life : BeanLife)
    (few : AreFew t n)
    (managed : b.kind ≡ kinds.Managed)
    (lives : AreLives t n l)
    (is : IsKeptClass t l b.class life.class)
    (fits : nat_lt (length t.chains.interceptors + length (injections_of l life.class) + 2) (2 ^ 32) ≡ true)
    (first : life.first ≡ steps_by n (first_steps t.chains (constructor_of t.classes b.class) b))
    (last : life.last ≡ completed (life_with t.chains b.class methods.PostConstruct (post_constructs_of l life.class)))
    (pre : life.pre_destroy ≡ life_with t.chains b.class methods.PreDestroy (pre_destroys_of l life.class))
  where
    abbrev line : List Class
    line = classes_named t.classes (is.above ++ b.class ∷ [])

    abbrev constructor : Option Constructor
    constructor = constructor_of t.classes b.class

    has : HasLife t n l life.class b.class line
    has = lives life.class b.class is.above is.line

    kept_so : kept_line t.classes l life ≡ line
    kept_so = ap (classes_named t.classes) (line_so l (life_of l life.class) (is.above ++ b.class ∷ []) is.line)

    steps_so : kept_steps l life ≡ steps_by n (steps_of t.chains constructor b line)
    steps_so =
        ap (λ all. all ++ injections_of l life.class ++ life.last) first
        ∙ ap (λ all. steps_by n (first_steps t.chains constructor b) ++ all ++ life.last) has.injections
        ∙ ap (λ all. steps_by n (first_steps t.chains constructor b) ++ steps_by n (injections line) ++ all)
        (last ∙ ap (λ codes. completed (life_with t.chains b.class methods.PostConstruct codes)) has.post_constructs)
        ∙ sym (steps_split n t.chains constructor b line)

    pre_so : life.pre_destroy ≡ lifecycle_by (bodies_by n) (destruction t.chains b.class (members_of line))
    pre_so = pre ∙ ap (life_with t.chains b.class methods.PreDestroy) has.pre_destroys

    count_fits : length (steps_of t.chains constructor b line) < 2 ^ 32
    count_fits =
        let less : length t.chains.interceptors + length (injections_of l life.class) + 2 < 2 ^ 32 = ltb-true (length t.chains.interceptors + length (injections_of l life.class) + 2) (2 ^ 32) fits in
        let same : length (injections_of l life.class) ≡ length (injections line) = ap length has.injections ∙ injections_count n line in
        omega (arith, less, same, steps_count t.chains constructor b line)

    numbers : has_numbers (plans.Managed (managed_plan t.chains constructor b line)) ≡ true
    numbers = managed_numbered t.chains few.interceptors constructor b line (lt-ltb (length (steps_of t.chains constructor b line)) (2 ^ 32) count_fits)

    can : can_number n (plans.Managed (managed_plan t.chains constructor b line)) ≡ true
    can = ap (λ few. few && has_numbers (plans.Managed (managed_plan t.chains constructor b line))) few.beans ∙ numbers

    numbered_so : numbered_kept l (kept_beans.Managed life) ≡ plan_by n (plans.Managed (managed_plan t.chains constructor b line))
    numbered_so = λ i. Some (NumberedPlan.Managed (record { steps = steps_so i; pre_destroy = pre_so i }))

    plan_so : plan_kept t l b (kept_beans.Managed life) ≡ plans.Managed (managed_plan t.chains constructor b line)
    plan_so = ap (λ all. plans.Managed (managed_plan t.chains constructor b all)) kept_so

    same_life : (other : BeanLife) → kept_beans.Managed life ≡ kept_beans.Managed other → life ≡ other
    same_life other e = cc

    pub is_kept : IsKeptWith t n l b (kept_beans.Managed life)
    is_kept = record {
      by_plan = record {
        plan = subst (IsPlanOf t b) (sym plan_so) (IsPlanOf.managed managed (record { line = line; is_line = is.is_line; is = refl }));
        numbered =
            subst (λ p. IsNumberedPlan n p (numbered_kept l (kept_beans.Managed life))) (sym plan_so)
            (subst (IsNumberedPlan n (plans.Managed (managed_plan t.chains constructor b line))) (sym numbered_so)
            (is_numbered_plan n (plans.Managed (managed_plan t.chains constructor b line)) can));
        methods = subst (λ p. AreMethodsBy (bodies_by n) p (method_kept l (kept_beans.Managed life))) (sym plan_so) (record { same = λ h name. has.methods name });
        numbers = ap has_numbers plan_so ∙ numbers;
        fields = λ other e.
            subst (λ (x : BeanLife). fields_of l x.class ≡ (managed_plan t.chains constructor b (kept_line t.classes l x)).fields) (same_life other e)
            (has.fields ∙ ap initial_fields (sym kept_so));
      };
      has_line = ap is_some is.line;
      few_steps = lt-ltb (length (kept_steps l life)) (2 ^ 32) (omega (arith, ap length steps_so, fewer_by n (steps_of t.chains constructor b line), count_fits));
    }
