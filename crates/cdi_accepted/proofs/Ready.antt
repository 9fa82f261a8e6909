-- A managed bean fits: in its chains stand interceptors that have the method, of which an instance was made before.
use Rattle.std.proofs.Common.{ℕ, ◌≡◌, ◌∙◌, ◌⊎◌, inl, inr, Bool, true, false, cond, List, [], ◌∷◌, ◌++◌, map, filter, Option, Some, None, refl, sym, ap, subst, append_assoc, arith}
use Rattle.std.specs.Prelude.{option_and_then, slice_get, unwrap_or}
use Rattle.std.specs.List.{AllByRecursion, filter_map}
use Rattle.cdi_base.specs.Maps.{at}
use Rattle.cdi_base.specs.declared.place.InterceptorMethod.{InterceptorMethod}
use Rattle.cdi_base.specs.declared.place.InterceptorMethod.TheVariants as roles
use Rattle.cdi_beans.specs.Beans.{bean_member}
use Rattle.cdi_beans.specs.declared.bean.Bean.{Bean}
use Rattle.cdi_beans.specs.declared.bean.BeanMember.{BeanMember}
use Rattle.cdi_bodies.specs.Gives.{LieInShape, lookups_of}
use Rattle.cdi_bodies.specs.declared.entry.Entry.{Entry}
use Rattle.cdi_body_check.specs.Shapes.{shape_of}
use Rattle.cdi_body_check.specs.Sites.{member_body}
use Rattle.cdi_deployment.specs.Member.{member_params}
use Rattle.cdi_accepted.proofs.Planned.{first_of_all, life_of, member_chain, placed}
use Rattle.cdi_accepted.specs.Chains.{IsLifecycle}
use Rattle.cdi_plans.specs.Chains.{intercepts, interceptors_of, invoke_chain, life_chain}
use Rattle.cdi_check.specs.Accepted.{AreBodiesSound}
use Rattle.cdi_check.specs.Tables.{setting_by}
use Rattle.cdi_deployment.specs.declared.deployment.Class.{Class}
use Rattle.cdi_deployment.specs.declared.deployment.Constructor.{Constructor}
use Rattle.cdi_deployment.specs.declared.deployment.Deployment.{Deployment}
use Rattle.cdi_deployment.specs.declared.deployment.Member.{Member}
use Rattle.cdi_deployment.specs.declared.deployment.Member.TheVariants as members
use Rattle.cdi_deployment.specs.declared.deployment.Point.{Point}
use Rattle.cdi_beans.specs.Kinds.{is_managed}
use Rattle.cdi_machine.specs.Registered.{legal_of}
use Rattle.cdi_machine.specs.Runs.{Legal}
use Rattle.cdi_machine.specs.Tables as machine
use Rattle.cdi_machine.specs.Words.{Name}
use Rattle.cdi_types.specs.Line.{class_named}
use Rattle.cdi_types.specs.Members.{comes_down, members_of, parts_of}
use Rattle.cdi_deployment.specs.Member.{member_name}
use Rattle.cdi_planner.specs.Codes.{completion, constructor_body, injected_method, post_construct, pre_destroy}
use Rattle.cdi_planner.specs.Steps.{class_steps, construction, initialization, injection, injections, steps_of}
use Rattle.cdi_plans.specs.declared.plan.Code.{Code}
use Rattle.cdi_plans.specs.declared.plan.ManagedPlan.{ManagedPlan}
use Rattle.cdi_plans.specs.declared.plan.Step.{Step}
use Rattle.cdi_plans.specs.declared.plan.Step.TheVariants as steps
use Rattle.cdi_resolve.specs.Filters.{enabled_of}
use Rattle.cdi_run_tables.specs.Machine.{AreIdsOf, asked_by, body_number, does_something, id_of, machine_code, machine_lifecycle, machine_member, machine_step, machine_steps, machine_tables}
use Rattle.cdi_run_tables.specs.Planned.{IsTabled}
use Rattle.cdi_run_tables.specs.Texts.{has_texts}
use Rattle.cdi_run_tables.specs.declared.tables.RunTables.{RunTables}
use Rattle.cdi_ledger.specs.Whose.{IsIn}
use Rattle.cdi_whole.specs.Fits.{FitsBody, FitsChain, FitsClass, FitsLifecycle, FitsMember, FitsMethod, FitsRole, FitsStep, FitsSteps, IsThereInterceptor, class_site, intercepted_by, ready_after}
use Rattle.cdi_accepted.proofs.Lists.{Among, among_left, among_map, among_parts, among_right, given, mapped}
use Rattle.cdi_accepted.proofs.Interceptors.{role_fits, there_interceptor, to_is_in}
use Rattle.cdi_accepted.proofs.MemberCodes.{IsCodeOf, is_farewell, is_other, of_initialization, of_post_construct, of_pre_destroy}
use Rattle.cdi_accepted.proofs.Methods.{managed, method_of_plan}
use Rattle.cdi_accepted.proofs.FitPlans.{HasPlan}
use Rattle.cdi_accepted.proofs.Sites.{constructor_fits, member_fits}

-- ---- steps

abbrev pub Holds : List ℕ → List ℕ → Type 0
Holds wanted ready = (i : ℕ) → IsIn i wanted → IsIn i ready

module _ (t : machine.Tables) (legal : Legal) (c : machine.Managed) (ids : ℕ → Option ℕ) (wanted : List ℕ) where
  after_holds : (s : machine.Step) (ready : List ℕ) → Holds wanted ready → Holds wanted (ready_after s ready)
  after_holds (machine.Step.Intercept k) ready h i a = inr (h i a)
  after_holds (machine.Step.Construct points l) ready h i a = h i a
  after_holds (machine.Step.Inject field point) ready h i a = h i a
  after_holds (machine.Step.Initialize m points) ready h i a = h i a
  after_holds (machine.Step.Complete l) ready h i a = h i a

  -- steps that fit wherever the wanted interceptors are ready
  pub rest_fits : (ready : List ℕ) → Holds wanted ready → (all : List Step) → ((s : Step) → Among s all → (now : List ℕ) → Holds wanted now → FitsStep t legal c now (machine_step ids s)) → FitsSteps t legal c ready (machine_steps ids all)
  rest_fits ready h [] each = tt
  rest_fits ready h (s ∷ all) each =
      by (does_something s) (each s (inl refl) ready h) (rest_fits ready h all (λ k a. each k (inr a))) (rest_fits (ready_after (machine_step ids s) ready) (after_holds (machine_step ids s) ready h) all (λ k a. each k (inr a)))
    where
      by : (b : Bool) → FitsStep t legal c ready (machine_step ids s) → FitsSteps t legal c ready (machine_steps ids all) → FitsSteps t legal c (ready_after (machine_step ids s) ready) (machine_steps ids all)
          → FitsSteps t legal c ready (map (machine_step ids) (cond b (s ∷ filter does_something all) (filter does_something all)))
      by true one same more = (one, more)
      by false one same more = same

  -- behind the making of interceptors
  pub front_fits : (is ready : List ℕ) (rest : List Step) → ((i : ℕ) → IsIn i is → IsThereInterceptor t i)
      → ((now : List ℕ) → ((i : ℕ) → IsIn i is ⊎ IsIn i ready → IsIn i now) → FitsSteps t legal c now (machine_steps ids rest))
      → FitsSteps t legal c ready (machine_steps ids (map steps.Intercept is ++ rest))
  front_fits [] ready rest there more = more ready first
    where
      first : (i : ℕ) → ⊥ ⊎ IsIn i ready → IsIn i ready
      first i (inl never) = absurd never
      first i (inr a) = a
  front_fits (k ∷ is) ready rest there more =
      (there k (inl refl), front_fits is (k ∷ ready) rest (λ i a. there i (inr a)) (λ now h. more now (by now h)))
    where
      by : (now : List ℕ) → ((i : ℕ) → IsIn i is ⊎ IsIn i (k ∷ ready) → IsIn i now) → (i : ℕ) → IsIn i (k ∷ is) ⊎ IsIn i ready → IsIn i now
      by now h i (inl (inl e)) = h i (inr (inl e))
      by now h i (inl (inr a)) = h i (inl a)
      by now h i (inr a) = h i (inr (inr a))

-- all of a list, by what stands in it
pub all_of : {A : Type 0} (P : A → Type 0) (xs : List A) → ((x : A) → Among x xs → P x) → AllByRecursion P xs
all_of P [] each = tt
all_of P (x ∷ xs) each = (each x (inl refl), all_of P xs (λ y a. each y (inr a)))

-- ---- where the steps of a plan come from

-- a step that injects, or that runs an initializer among the members
pub data IsFrom (has : List (Class × Member)) (s : Step) : Type 0 where
  injects : (field : ℕ) (point : Point) → s ≡ steps.Inject field point → IsFrom has s
  initializes : (p : Class × Member) → Among p has → initialization p ≡ Some s → IsFrom has s

from_more : (has more : List (Class × Member)) (s : Step) → IsFrom more s → IsFrom (has ++ more) s
from_more has more s (IsFrom.injects field point e) = IsFrom.injects field point e
from_more has more s (IsFrom.initializes p a e) = IsFrom.initializes p (among_right has more p a) e

pub of_injections : (line : List Class) (s : Step) → Among s (injections line) → IsFrom (members_of line) s
of_injections [] s a = absurd a
of_injections (c ∷ below) s a = by (of_injections below s) (among_parts (class_steps c below) (injections below) s a)
  where
    own : List (Class × Member)
    own = parts_of c (filter (comes_down below) c.members)

    in_class : Among s (map injection c.inject) ⊎ Among s (filter_map initialization own) → IsFrom (own ++ members_of below) s
    in_class (inl x) = let found = mapped injection c.inject s x in IsFrom.injects found.item.name (record { ty = found.item.ty; quals = found.item.quals }) found.is
    in_class (inr x) = let found = given initialization own s x in IsFrom.initializes found.item (among_left own (members_of below) found.item found.stands) found.is

    by : (Among s (injections below) → IsFrom (members_of below) s) → Among s (class_steps c below) ⊎ Among s (injections below) → IsFrom (own ++ members_of below) s
    by more (inl x) = in_class (among_parts (map injection c.inject) (filter_map initialization own) s x)
    by more (inr x) = from_more own (members_of below) s (more x)

module _ {X : Type 0} {F : X → Type 0} {g : _} (entries : List (Entry X F g)) (lies : LieInShape entries) (t : RunTables) (tabled : IsTabled t) (lookups : t.lookups ≡ lookups_of entries) (ids : AreIdsOf entries t)
    (sound : AreBodiesSound t.deployment (shape_of entries) (setting_by t.deployment t.tables)) (texts : has_texts t.deployment ≡ true) where
  abbrev d : Deployment
  d = t.deployment

  abbrev T : machine.Tables
  T = machine_tables t

  abbrev L : Legal
  L = legal_of entries

  module _ (b : ℕ) (listed : Bean) (enabled : Among (b, listed) (enabled_of t.tables.resolver)) (plan : HasPlan t b listed) where
    abbrev pub own : machine.Managed
    own = managed entries t tabled ids sound b listed enabled plan

    abbrev wanted : List ℕ
    wanted = interceptors_of t.tables.chains listed

    -- ---- chains

    life_fits : (role : InterceptorMethod) → IsLifecycle role → (ready : List ℕ) → Holds wanted ready → FitsChain T L role ready (life_chain t.tables.chains listed.class role)
    life_fits role q ready h =
        all_of (λ i. FitsRole T L i role × IsIn i ready) (life_chain t.tables.chains listed.class role)
        (λ i a.
        let x = life_of t.tables.chains listed role i q (to_is_in i (life_chain t.tables.chains listed.class role) a) in
        (role_fits entries lies t tabled lookups ids sound texts i role x.0, h i x.1))

    all_planned : Holds wanted (intercepted_by own.plan)
    all_planned i a =
        let P : ManagedPlan → Type 0 = λ p. IsIn i (intercepted_by (machine_steps (id_of t) p.steps)) in
        subst P (sym plan.is) (first_of_all t.tables.chains (id_of t) plan.constructor listed plan.line i a)

    pub invoke_fits : (c : Class) (m : Member) → Among (c, m) (members_of plan.line)
        → FitsChain T L roles.AroundInvoke (intercepted_by own.plan) (invoke_chain t.tables.chains listed.class (bean_member (c, m)))
    invoke_fits c m stands =
        let chain = invoke_chain t.tables.chains listed.class (bean_member (c, m)) in
        let P : List BeanMember → Type 0 = λ ms. Among (bean_member (c, m)) ms in
        let member : IsIn (bean_member (c, m)) listed.members = to_is_in (bean_member (c, m)) listed.members (subst P (sym plan.members) (among_map bean_member (members_of plan.line) (c, m) stands)) in
        all_of (λ i. FitsRole T L i roles.AroundInvoke × IsIn i (intercepted_by own.plan)) chain
        (λ i a.
        let x = member_chain t.tables.chains listed (bean_member (c, m)) i member (to_is_in i chain a) in
        (role_fits entries lies t tabled lookups ids sound texts i roles.AroundInvoke x.0, all_planned i x.1))

    -- ---- callbacks and initializers

    body_of_member : (c : Class) (m : Member) (body : ℕ) → member_body m ≡ Some body → Among (c, m) (members_of plan.line)
        → FitsBody T L (class_site own (map asked_by (member_params m)) (body_number (id_of t) body))
    body_of_member = member_fits entries lies t tabled lookups ids sound texts b listed enabled plan

    -- the code of a member
    code_fits : (test : Member → Bool) (p : Class × Member) (code : Code) (points : List Point) → IsCodeOf test p code points → Among p (members_of plan.line)
        → FitsBody T L (class_site own (map asked_by points) (body_number (id_of t) code.body))
    code_fits test p code points of a =
        let P : Code → Type 0 = λ k. FitsBody T L (class_site own (map asked_by points) (body_number (id_of t) k.body)) in
        let Q : List Point → Type 0 = λ ps. FitsBody T L (class_site own (map asked_by ps) (body_number (id_of t) of.body)) in
        subst P (sym of.is) (subst Q (sym of.params) (body_of_member p.0 p.1 of.body of.has a))

    callbacks_fit : (test : Member → Bool) (pick : Class × Member → Option Code) → ((p : Class × Member) (code : Code) → pick p ≡ Some code → IsCodeOf test p code [])
        → AllByRecursion (λ m. FitsBody T L (class_site own [] m.body)) (map (machine_code (id_of t)) (filter_map pick (members_of plan.line)))
    callbacks_fit test pick each =
        all_of (λ m. FitsBody T L (class_site own [] m.body)) (map (machine_code (id_of t)) (filter_map pick (members_of plan.line)))
        (λ m a.
        let code = mapped (machine_code (id_of t)) (filter_map pick (members_of plan.line)) m a in
        let from = given pick (members_of plan.line) code.item code.stands in
        let P : machine.Code → Type 0 = λ k. FitsBody T L (class_site own [] k.body) in
        subst P (sym code.is) (code_fits test from.item code.item [] (each from.item code.item from.is) from.stands))

    initialized : (p : Class × Member) (s : Step) (now : List ℕ) → Among p (members_of plan.line) → initialization p ≡ Some s → FitsStep T L own now (machine_step (id_of t) s)
    initialized p s now a e =
        let P : Step → Type 0 = λ k. FitsStep T L own now (machine_step (id_of t) k) in
        let from = of_initialization p s e in
        subst P (sym from.is) (code_fits is_other p from.code from.points from.of a)

    injection_fits : (s : Step) (now : List ℕ) → IsFrom (members_of plan.line) s → FitsStep T L own now (machine_step (id_of t) s)
    injection_fits s now (IsFrom.injects field point e) = let P : Step → Type 0 = λ k. FitsStep T L own now (machine_step (id_of t) k) in subst P (sym e) tt
    injection_fits s now (IsFrom.initializes p a e) = initialized p s now a e

    -- ---- methods

    pub method_fits : (name : Name) (m : machine.Method) → at own.methods name ≡ Some m → FitsMethod T L own m
    method_fits name m e =
        let from = method_of_plan entries t tabled ids sound b listed enabled plan name m e in
        let number : body_number (id_of t) from.method.body ≡ m.code.body = ap (λ o. unwrap_or o 4096) from.id in
        let P : ℕ → Type 0 = λ n. FitsBody T L (class_site own [] n) in
        let Q : List ℕ → Type 0 = λ is. FitsChain T L roles.AroundInvoke (intercepted_by own.plan) is in
        record {
          chain = subst Q (sym (from.chain ∙ from.chain_is)) (invoke_fits from.class (members.Method from.method) from.declared);
          body = subst P number (body_of_member from.class (members.Method from.method) from.method.body refl from.declared);
        }

    -- a producer, a disposer or an observer among the members
    pub member_is_fit : (c : Class) (m : Member) (body : ℕ) → member_body m ≡ Some body → Among (c, m) (members_of plan.line)
        → FitsMember T L own (machine_member (id_of t) (injected_method t.tables.chains listed.class c (member_name m) body (member_params m)))
    member_is_fit c m body is stands = record { chain = invoke_fits c m stands; body = body_of_member c m body is stands }

    -- ---- the plan

    there_all : (i : ℕ) → IsIn i wanted → IsThereInterceptor T i
    there_all i a =
        let x = placed (intercepts t.tables.chains listed) 0 t.tables.chains.interceptors i a in
        let e : i ≡ x.0 = (let r = x.1 in omega arith) in
        there_interceptor entries lies t tabled lookups ids sound texts i x.2 (ap (slice_get t.tables.chains.interceptors) e ∙ x.3)

    module _ (kind : is_managed listed.kind ≡ true) where
      construction_fits : (now : List ℕ) → Holds wanted now → FitsStep T L own now (machine_step (id_of t) (construction t.tables.chains listed.class plan.constructor))
      construction_fits now h =
          let P : Option Constructor → Type 0 = λ o. FitsStep T L own now (machine_step (id_of t) (construction t.tables.chains listed.class o)) in
          subst P (sym plan.is_constructor) (by (class_named d.classes listed.class) refl)
        where
          bodies : (c : Class) → class_named d.classes listed.class ≡ Some c → (k : Constructor) → c.constructor ≡ Some k → (o : Option ℕ) → k.body ≡ o
              → AllByRecursion (λ m. FitsBody T L (class_site own (map asked_by k.params) m.body)) (map (machine_code (id_of t)) (constructor_body listed.class o))
          bodies c named k has None is = tt
          bodies c named k has (Some body) is = (constructor_fits entries lies t tabled lookups ids sound texts b listed enabled plan kind c named k body has is, tt)

          of_class : (c : Class) → class_named d.classes listed.class ≡ Some c → (o : Option Constructor) → c.constructor ≡ o → FitsStep T L own now (machine_step (id_of t) (construction t.tables.chains listed.class o))
          of_class c named None has = record { chain = life_fits roles.AroundConstruct tt now h; callbacks = tt }
          of_class c named (Some k) has = record { chain = life_fits roles.AroundConstruct tt now h; callbacks = bodies c named k has k.body refl }

          by : (o : Option Class) → class_named d.classes listed.class ≡ o → FitsStep T L own now (machine_step (id_of t) (construction t.tables.chains listed.class (option_and_then (λ (c : Class). c.constructor) o)))
          by None named = record { chain = life_fits roles.AroundConstruct tt now h; callbacks = tt }
          by (Some c) named = of_class c named c.constructor refl

      abbrev rest : List Step
      rest = construction t.tables.chains listed.class plan.constructor ∷ [] ++ (injections plan.line ++ steps.Complete (completion t.tables.chains listed.class (members_of plan.line)) ∷ [])

      each_fits : (s : Step) → Among s rest → (now : List ℕ) → Holds wanted now → FitsStep T L own now (machine_step (id_of t) s)
      each_fits s (inl e) now h = let P : Step → Type 0 = λ k. FitsStep T L own now (machine_step (id_of t) k) in subst P (sym e) (construction_fits now h)
      each_fits s (inr a) now h = by (among_parts (injections plan.line) (steps.Complete (completion t.tables.chains listed.class (members_of plan.line)) ∷ []) s a)
        where
          P : Step → Type 0
          P k = FitsStep T L own now (machine_step (id_of t) k)

          completed : FitsStep T L own now (machine_step (id_of t) (steps.Complete (completion t.tables.chains listed.class (members_of plan.line))))
          completed = record { chain = life_fits roles.PostConstruct tt now h; callbacks = callbacks_fit is_other post_construct of_post_construct }

          by : Among s (injections plan.line) ⊎ Among s (steps.Complete (completion t.tables.chains listed.class (members_of plan.line)) ∷ []) → FitsStep T L own now (machine_step (id_of t) s)
          by (inl x) = injection_fits s now (of_injections plan.line s x)
          by (inr (inl e)) = subst (λ k. FitsStep T L own now (machine_step (id_of t) k)) (sym e) completed
          by (inr (inr never)) = absurd never

      steps_fit : FitsSteps T L own [] (machine_steps (id_of t) (steps_of t.tables.chains plan.constructor listed plan.line))
      steps_fit =
          let making = map steps.Intercept wanted in
          let made = construction t.tables.chains listed.class plan.constructor ∷ [] in
          let completing = steps.Complete (completion t.tables.chains listed.class (members_of plan.line)) ∷ [] in
          let are : (making ++ made) ++ injections plan.line ++ completing ≡ making ++ (made ++ (injections plan.line ++ completing)) =
          append_assoc (making ++ made) (injections plan.line) completing ∙ append_assoc making made (injections plan.line ++ completing) in
          let P : List Step → Type 0 = λ all. FitsSteps T L own [] (machine_steps (id_of t) all) in
          subst P (sym are)
          (front_fits T L own (id_of t) wanted wanted [] rest there_all
          (λ now h. rest_fits T L own (id_of t) wanted now (λ i a. h i (inl a)) rest each_fits))

      pub class_fits : FitsClass T L own
      class_fits =
          let P : ManagedPlan → Type 0 = λ p. FitsSteps T L own [] (machine_steps (id_of t) p.steps) in
          let Q : ManagedPlan → Type 0 = λ p. FitsLifecycle T L own [] roles.PreDestroy (intercepted_by own.plan) (machine_lifecycle (id_of t) p.pre_destroy) in
          record {
            steps = subst P (sym plan.is) steps_fit;
            methods = method_fits;
            pre_destroy = subst Q (sym plan.is) (record { chain = life_fits roles.PreDestroy tt (intercepted_by own.plan) all_planned; callbacks = callbacks_fit is_farewell pre_destroy of_pre_destroy });
          }
