use Rattle.std.proofs.Common.{◌≡◌, map, drop}
use Rattle.std.specs.List.{list_any}
use Rattle.cdi_plans.specs.BeanBindings.{is_bound_to}
use Rattle.cdi_plans.proofs.bean_bindings.is_bound_to_some.Given as goal

abbrev pub invariant-loop-own : goal.invariant-loop-own
invariant-loop-own l =
    list_any (is_bound_to l.of_class l.interceptor) (map (λ q. q.now) (drop l.own-index l.lists))
    ≡ list_any (is_bound_to l.of_class l.interceptor) (map (λ q. q.now) l.lists)
