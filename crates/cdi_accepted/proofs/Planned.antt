-- What stands in a chain of a bean is planned.
use Rattle.std.proofs.Common.{ℕ, suc, ◌≡◌, inl, inr, List, [], ◌∷◌, ◌++◌, Bool, true, false, cond, Option, Some, None, refl, sym, ap, ◌∙◌, subst, arith}
use Rattle.std.specs.Prelude.{map, filter, slice_get, is_some, ◌&&◌, ◌||◌, ◌+◌}
use Rattle.std.specs.List.{list_any, enumerate_from}
use Rattle.cdi_base.specs.declared.place.InterceptorMethod.{InterceptorMethod}
use Rattle.cdi_base.specs.declared.place.InterceptorMethod.TheVariants as methods
use Rattle.cdi_beans.specs.declared.bean.Bean.{Bean}
use Rattle.cdi_beans.specs.declared.bean.BeanMember.{BeanMember}
use Rattle.cdi_beans.specs.declared.bean.EnabledInterceptor.{EnabledInterceptor}
use Rattle.cdi_quals.specs.Qualifiers.{has_all}
use Rattle.cdi_quals.specs.declared.qualifier.Qualifier.{Qualifier}
use Rattle.cdi_plans.specs.Bindings.{bindings_had}
use Rattle.cdi_plans.specs.Chains.{ChainTables, method_of, is_bound, places_from, chain_of, class_level, member_level, chain_with, invoke_chain, life_chain, is_bound_with, intercepts_member, intercepts_lifecycle, intercepts, interceptors_of}
use Rattle.cdi_deployment.specs.declared.deployment.Class.{Class}
use Rattle.cdi_deployment.specs.declared.deployment.Constructor.{Constructor}
use Rattle.cdi_planner.specs.Steps.{steps_of, construction, injections}
use Rattle.cdi_planner.specs.Codes.{completion}
use Rattle.cdi_types.specs.Members.{members_of}
use Rattle.cdi_plans.specs.declared.plan.Step.{Step}
use Rattle.cdi_plans.specs.declared.plan.Step.TheVariants as steps
use Rattle.cdi_run_tables.specs.Machine.{machine_step, machine_steps, does_something}
use Rattle.cdi_ledger.specs.Whose.{IsIn}
use Rattle.cdi_whole.specs.Fits.{intercepted_by}
use Rattle.cdi_accepted.specs.Chains.{HasRole, InvokesPlanned, IsLifecycle, LivesPlanned}

-- ---- places

-- at a place stands an interceptor that passes
pub placed : (p : EnabledInterceptor → Bool) (first : ℕ) (js : List EnabledInterceptor) (i : ℕ) → IsIn i (places_from p first js) → (k : ℕ) × (i ≡ first + k) × (j : EnabledInterceptor) × (slice_get js k ≡ Some j) × (p j ≡ true)
placed p first [] i h = absurd h
placed p first (j ∷ js) i h = by (p j) refl (placed p (first + 1) js i) h
  where
    by : (b : Bool) → p j ≡ b → (IsIn i (places_from p (first + 1) js) → (k : ℕ) × (i ≡ (first + 1) + k) × (x : EnabledInterceptor) × (slice_get js k ≡ Some x) × (p x ≡ true))
        → IsIn i (map (λ (x : ℕ × EnabledInterceptor). x.0) (cond b ((first, j) ∷ filter (λ x. p x.1) (enumerate_from (first + 1) js)) (filter (λ x. p x.1) (enumerate_from (first + 1) js)))) → (k : ℕ) × (i ≡ first + k) × (x : EnabledInterceptor) × (slice_get (j ∷ js) k ≡ Some x) × (p x ≡ true)
    by true e f (inl q) = (0, (let r = q in omega arith), j, refl, e)
    by true e f (inr q) = let x = f q in (suc x.0, (let r = x.1 in omega arith), x.2, x.3, x.4)
    by false e f q = let x = f q in (suc x.0, (let r = x.1 in omega arith), x.2, x.3, x.4)

-- what passes the one and so the other stands in both
places_more : (p q : EnabledInterceptor → Bool) → ((j : EnabledInterceptor) → p j ≡ true → q j ≡ true) → (first : ℕ) (js : List EnabledInterceptor) (i : ℕ) → IsIn i (places_from p first js) → IsIn i (places_from q first js)
places_more p q f first [] i h = h
places_more p q f first (j ∷ js) i h = by (p j) (q j) refl refl (places_more p q f (first + 1) js i) h
  where
    ends : Bool → List ℕ → List ℕ
    ends b rest = rest

    by : (a b : Bool) → p j ≡ a → q j ≡ b → (IsIn i (places_from p (first + 1) js) → IsIn i (places_from q (first + 1) js))
        → IsIn i (map (λ (x : ℕ × EnabledInterceptor). x.0) (cond a ((first, j) ∷ filter (λ x. p x.1) (enumerate_from (first + 1) js)) (filter (λ x. p x.1) (enumerate_from (first + 1) js))))
        → IsIn i (map (λ (x : ℕ × EnabledInterceptor). x.0) (cond b ((first, j) ∷ filter (λ x. q x.1) (enumerate_from (first + 1) js)) (filter (λ x. q x.1) (enumerate_from (first + 1) js))))
    by true true e r g (inl s) = inl s
    by true true e r g (inr s) = inr (g s)
    by true false e r g s = absurd (let z = f j e in cc)
    by false true e r g s = inr (g s)
    by false false e r g s = g s

-- ---- tests

both : (a b : Bool) → (a && b) ≡ true → a ≡ true
both true b e = refl
both false b e = absurd (cc)

some_is : (o : Option ℕ) → is_some o ≡ true → (x : ℕ) × (o ≡ Some x)
some_is None e = absurd (cc)
some_is (Some x) e = (x, refl)

bound_role : (t : ChainTables) (role : InterceptorMethod) (had : List Qualifier) (i : ℕ) → IsIn i (chain_of role had t.interceptors) → HasRole t i role
bound_role t role had i h =
    let x = placed (is_bound role had) 0 t.interceptors i h in
    let b = some_is (method_of role x.2) (both (is_some (method_of role x.2)) (has_all had x.2.bindings) x.4) in
    let e : i ≡ x.0 = (let r = x.1 in omega arith) in
    record { interceptor = x.2; enabled = subst (λ k. slice_get t.interceptors k ≡ Some x.2) (sym e) x.3; body = b.0; has = b.1 }

left_true : (a b : Bool) → a ≡ true → (a || b) ≡ true
left_true true b e = refl
left_true false b e = absurd (cc)

right_true : (a b : Bool) → b ≡ true → (a || b) ≡ true
right_true true b e = refl
right_true false b e = e

any_in : {X : Type 0} (p : X → Bool) (xs : List X) (x : X) → IsIn x xs → p x ≡ true → list_any p xs ≡ true
any_in p [] x h e = absurd h
any_in p (y ∷ ys) x (inl s) e = left_true (p y) (list_any p ys) (ap p s ∙ e)
any_in p (y ∷ ys) x (inr s) e = right_true (p y) (list_any p ys) (any_in p ys x s e)

-- ---- chains

pub member_chain : (t : ChainTables) (b : Bean) (m : BeanMember) (i : ℕ) → IsIn m b.members → IsIn i (invoke_chain t b.class m) → HasRole t i methods.AroundInvoke × IsIn i (interceptors_of t b)
member_chain t b m i q h = by (member_level t m) refl h
  where
    by : (level : Option (List Qualifier)) → member_level t m ≡ level → IsIn i (chain_with methods.AroundInvoke level (class_level t b.class) t.interceptors) → HasRole t i methods.AroundInvoke × IsIn i (interceptors_of t b)
    by None e h = absurd h
    by (Some own) e h = (
      bound_role t methods.AroundInvoke (bindings_had own (class_level t b.class)) i h,
      places_more (is_bound methods.AroundInvoke (bindings_had own (class_level t b.class))) (intercepts t b)
          (λ j r. left_true (list_any (intercepts_member t b.class j) b.members) (intercepts_lifecycle t b.class j)
          (any_in (intercepts_member t b.class j) b.members m q (ap (λ l. is_bound_with l (class_level t b.class) j) e ∙ r))) 0 t.interceptors i h,
    )

life_in : (t : ChainTables) (b : Bean) (role : InterceptorMethod) (j : EnabledInterceptor) → IsLifecycle role → is_bound role (class_level t b.class) j ≡ true → intercepts_lifecycle t b.class j ≡ true
life_in t b methods.AroundInvoke j q e = absurd q
life_in t b methods.AroundConstruct j q e = grind (arith, e)
life_in t b methods.PostConstruct j q e = grind (arith, e)
life_in t b methods.PreDestroy j q e = grind (arith, e)

pub life_of : (t : ChainTables) (b : Bean) (role : InterceptorMethod) (i : ℕ) → IsLifecycle role → IsIn i (life_chain t b.class role) → HasRole t i role × IsIn i (interceptors_of t b)
life_of t b role i q h = (
  bound_role t role (class_level t b.class) i h,
  places_more (is_bound role (class_level t b.class)) (intercepts t b) (λ j r. right_true (list_any (intercepts_member t b.class j) b.members) (intercepts_lifecycle t b.class j) (life_in t b role j q r)) 0 t.interceptors i h,
)

-- ---- plans

-- the interceptors of steps are made, also if more follow
planned : (ids : ℕ → Option ℕ) (is : List ℕ) (i : ℕ) → IsIn i is → IsIn i (intercepted_by (machine_steps ids (map steps.Intercept is)))
planned ids [] i h = absurd h
planned ids (k ∷ is) i (inl e) = inl e
planned ids (k ∷ is) i (inr h) = inr (planned ids is i h)

front : (ids : ℕ → Option ℕ) (xs ys : List Step) (i : ℕ) → IsIn i (intercepted_by (machine_steps ids xs)) → IsIn i (intercepted_by (machine_steps ids (xs ++ ys)))
front ids [] ys i h = absurd h
front ids (x ∷ xs) ys i h = by (does_something x) (front ids xs ys i) h
  where
    step : (s : Step) → (IsIn i (intercepted_by (machine_steps ids xs)) → IsIn i (intercepted_by (machine_steps ids (xs ++ ys))))
        → IsIn i (intercepted_by (machine_step ids s ∷ machine_steps ids xs)) → IsIn i (intercepted_by (machine_step ids s ∷ machine_steps ids (xs ++ ys)))
    step (steps.Intercept k) f (inl e) = inl e
    step (steps.Intercept k) f (inr q) = inr (f q)
    step (steps.Construct points l) f q = f q
    step (steps.Inject field point) f q = f q
    step (steps.Initialize code points) f q = f q
    step (steps.Complete l) f q = f q

    by : (b : Bool) → (IsIn i (intercepted_by (machine_steps ids xs)) → IsIn i (intercepted_by (machine_steps ids (xs ++ ys))))
        → IsIn i (intercepted_by (map (machine_step ids) (cond b (x ∷ filter does_something xs) (filter does_something xs))))
        → IsIn i (intercepted_by (map (machine_step ids) (cond b (x ∷ filter does_something (xs ++ ys)) (filter does_something (xs ++ ys)))))
    by true f q = step x f q
    by false f q = f q

pub first_of_all : (t : ChainTables) (ids : ℕ → Option ℕ) (constructor : Option Constructor) (b : Bean) (line : List Class) (i : ℕ) → IsIn i (interceptors_of t b) → IsIn i (intercepted_by (machine_steps ids (steps_of t constructor b line)))
first_of_all t ids constructor b line i h =
    let a = front ids (map steps.Intercept (interceptors_of t b)) (construction t b.class constructor ∷ []) i (planned ids (interceptors_of t b) i h) in
    let c = front ids (map steps.Intercept (interceptors_of t b) ++ (construction t b.class constructor ∷ [])) (injections line) i a in
    front ids ((map steps.Intercept (interceptors_of t b) ++ (construction t b.class constructor ∷ [])) ++ injections line) (steps.Complete (completion t b.class (members_of line)) ∷ []) i c

pub invokes_planned : InvokesPlanned
invokes_planned t ids constructor b line m i q h = let x = member_chain t b m i q h in (x.0, first_of_all t ids constructor b line i x.1)

pub lives_planned : LivesPlanned
lives_planned t ids constructor b line role i q h = let x = life_of t b role i q h in (x.0, first_of_all t ids constructor b line i x.1)
