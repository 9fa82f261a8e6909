-- The chains of interceptors (Jakarta Interceptors 2.1, Interceptor Resolution, Interceptor Ordering).
use Rattle.std.specs.Prelude.{ℕ, ◌≡◌, ◌==◌, ◌&&◌, ◌||◌, Bool, false, List, [], map, filter, Option, Some, None, is_some, option_map, option_and_then, unwrap_or}
use Rattle.std.specs.List.{find, list_any, enumerate_from}
use Rattle.cdi_base.specs.declared.place.InterceptorMethod.{InterceptorMethod}
use Rattle.cdi_base.specs.declared.place.InterceptorMethod.TheVariants as methods
use Rattle.cdi_beans.specs.declared.bean.Bean.{Bean}
use Rattle.cdi_beans.specs.declared.bean.BeanMember.{BeanMember}
use Rattle.cdi_beans.specs.declared.bean.EnabledInterceptor.{EnabledInterceptor}
use Rattle.cdi_quals.specs.Qualifiers.{has_all}
use Rattle.cdi_quals.specs.declared.qualifier.Qualifier.{Qualifier}
use Rattle.cdi_plans.specs.Bindings.{bindings_had}
use Rattle.cdi_plans.specs.declared.bindings.ClassBindings.{ClassBindings}

-- the bindings of the classes of a deployment, and its enabled interceptors in their order
pub record ChainTables : Type 0 where
  pub classes : List ClassBindings
  pub interceptors : List EnabledInterceptor

-- the body of an interceptor's method, if it has that
abbrev pub method_of : InterceptorMethod → EnabledInterceptor → Option ℕ
method_of methods.AroundInvoke j = j.invoke
method_of methods.AroundConstruct j = j.construct
method_of methods.PostConstruct j = j.post
method_of methods.PreDestroy j = j.pre

-- an interceptor has the method, and all its bindings are had
abbrev pub is_bound : InterceptorMethod → List Qualifier → EnabledInterceptor → Bool
is_bound method had j = is_some (method_of method j) && has_all had j.bindings

-- those of some interceptors that pass a test, by their places in the order
abbrev pub places_from : (EnabledInterceptor → Bool) → ℕ → List EnabledInterceptor → List ℕ
places_from passes first interceptors =
    map (λ p. p.0) (filter (λ p. passes p.1) (enumerate_from first interceptors))

-- a chain: the interceptors with a method whose bindings are all had, by their places in the order of interceptors
abbrev pub chain_of : InterceptorMethod → List Qualifier → List EnabledInterceptor → List ℕ
chain_of method had interceptors = places_from (is_bound method had) 0 interceptors

abbrev pub class_named : ChainTables → ℕ → Option ClassBindings
class_named t name = find (λ c. c.name == name) t.classes

-- the class-level bindings of a bean
abbrev pub class_level : ChainTables → ℕ → List Qualifier
class_level t bean = unwrap_or (option_map (λ c. c.bindings) (class_named t bean)) []

abbrev pub member_level_in : ℕ → ClassBindings → Option (List Qualifier)
member_level_in name c = option_map (λ m. m.bindings) (find (λ m. m.name == name) c.members)

-- a member's own bindings, by the class that declares it, if its calls are intercepted
abbrev pub member_level : ChainTables → BeanMember → Option (List Qualifier)
member_level t m = option_and_then (member_level_in m.name) (class_named t m.class)

abbrev pub chain_with : InterceptorMethod → Option (List Qualifier) → List Qualifier
    → List EnabledInterceptor → List ℕ
chain_with method None of_class interceptors = []
chain_with method (Some own) of_class interceptors =
    chain_of method (bindings_had own of_class) interceptors

-- The chain of a member of a bean: a binding of its own goes before one of the class of the same type. It is the bean's class whose
-- bindings count, also if another one declares the member.
abbrev pub invoke_chain : ChainTables → ℕ → BeanMember → List ℕ
invoke_chain t bean m =
    chain_with methods.AroundInvoke (member_level t m) (class_level t bean) t.interceptors

-- that of a member without bindings of its own
abbrev pub plain_chain : ChainTables → ℕ → List ℕ
plain_chain t bean = chain_with methods.AroundInvoke (Some []) (class_level t bean) t.interceptors

-- each member is in the same chain for two beans
abbrev pub HaveSameChains : ChainTables → ℕ → ℕ → Type 0
HaveSameChains t bean other = (m : BeanMember) → invoke_chain t bean m ≡ invoke_chain t other m

-- the chain of a lifecycle method of a bean
abbrev pub life_chain : ChainTables → ℕ → InterceptorMethod → List ℕ
life_chain t bean method = chain_of method (class_level t bean) t.interceptors

abbrev pub is_bound_with : Option (List Qualifier) → List Qualifier → EnabledInterceptor → Bool
is_bound_with None of_class j = false
is_bound_with (Some own) of_class j = is_bound methods.AroundInvoke (bindings_had own of_class) j

-- an interceptor stands in the chain of a member of a bean
abbrev pub intercepts_member : ChainTables → ℕ → EnabledInterceptor → BeanMember → Bool
intercepts_member t bean j m = is_bound_with (member_level t m) (class_level t bean) j

-- an interceptor stands in a chain of the lifecycle of a bean
abbrev pub intercepts_lifecycle : ChainTables → ℕ → EnabledInterceptor → Bool
intercepts_lifecycle t bean j =
    is_bound methods.AroundConstruct (class_level t bean) j
    || is_bound methods.PostConstruct (class_level t bean) j
    || is_bound methods.PreDestroy (class_level t bean) j

-- an interceptor stands in a chain of a bean
abbrev pub intercepts : ChainTables → Bean → EnabledInterceptor → Bool
intercepts t b j =
    list_any (intercepts_member t b.class j) b.members || intercepts_lifecycle t b.class j

-- the interceptors in the chains of a bean, by their places
abbrev pub interceptors_of : ChainTables → Bean → List ℕ
interceptors_of t b = places_from (intercepts t b) 0 t.interceptors
