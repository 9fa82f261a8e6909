-- The bindings of a bean, gathered once, so that each interceptor is asked against them.
use Rattle.std.specs.Prelude.{◌&&◌, ◌||◌, Bool, List, []}
use Rattle.std.specs.List.{list_any}
use Rattle.cdi_base.specs.declared.place.InterceptorMethod.TheVariants as methods
use Rattle.cdi_beans.specs.declared.bean.EnabledInterceptor.{EnabledInterceptor}
use Rattle.cdi_quals.specs.declared.qualifier.Qualifier.{Qualifier}
use Rattle.cdi_plans.specs.Bindings.{bindings_had}
use Rattle.cdi_plans.specs.Chains.{is_bound}

pub record GatheredBindings : Type 0 where
  -- the class-level bindings of the bean
  pub of_class : List Qualifier
  -- the calls of a member without bindings of its own are intercepted
  pub has_plain : Bool
  -- the bindings of those members that have some of their own
  pub own : List (List Qualifier)

-- an interceptor stands in the chain of a member with these bindings of its own
abbrev pub is_bound_to : List Qualifier → EnabledInterceptor → List Qualifier → Bool
is_bound_to of_class j own = is_bound methods.AroundInvoke (bindings_had own of_class) j

-- an interceptor stands in the chain of a member
abbrev pub stands_round_member : GatheredBindings → EnabledInterceptor → Bool
stands_round_member g j =
    (g.has_plain && is_bound_to g.of_class j []) || list_any (is_bound_to g.of_class j) g.own

-- an interceptor stands in a chain of the lifecycle of a bean with these class-level bindings
abbrev pub stands_in_lifecycle : List Qualifier → EnabledInterceptor → Bool
stands_in_lifecycle of_class j =
    is_bound methods.AroundConstruct of_class j
    || is_bound methods.PostConstruct of_class j
    || is_bound methods.PreDestroy of_class j

-- an interceptor stands in a chain of the bean
abbrev pub stands_in_some : GatheredBindings → EnabledInterceptor → Bool
stands_in_some g j = stands_round_member g j || stands_in_lifecycle g.of_class j
