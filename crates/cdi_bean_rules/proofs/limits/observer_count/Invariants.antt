use Rattle.std.proofs.Common.{◌≡◌, List, filter, sum_by, min, take}
use Rattle.std.specs.List.{AllZip}
use Rattle.cdi_deployment.specs.declared.deployment.Class.{Class}
use Rattle.cdi_deployment.specs.declared.deployment.Member.{Member}
use Rattle.cdi_bean_check.specs.Inherited.{AreMembersOf}
use Rattle.cdi_bean_rules.specs.Limits.{observer_count}
use Rattle.cdi_bean_check.specs.ManagedBeans.{is_bean}
use Rattle.cdi_bean_rules.proofs.limits.observer_count.Given as goal

pub record Invariant (l : goal.Live-loop-class) : Type 0 where
  pub lists : List (List (Class × Member))
  pub each : AllZip (AreMembersOf l.classes l.types) (filter is_bean (take l.class-index l.classes)) lists
  pub counted : l.count ≡ min (sum_by observer_count lists) 18446744073709551615

abbrev pub invariant-loop-class : goal.invariant-loop-class
invariant-loop-class l = Invariant l
