use Rattle.std.proofs.Common.{◌≡◌, ◌++◌, drop}
use Rattle.cdi_plans.specs.BeanBindings.{stands_in_some}
use Rattle.cdi_plans.specs.Chains.{places_from}
use Rattle.cdi_plans.proofs.bean_bindings.BeanBindings.places_among.Given as goal

abbrev pub invariant-loop-place : goal.invariant-loop-place
invariant-loop-place l = l.places ++ places_from (stands_in_some l.self) l.place (drop l.place l.interceptors) ≡ places_from (stands_in_some l.self) 0 l.interceptors
