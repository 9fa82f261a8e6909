use Rattle.std.proofs.Common.{◌≡◌, ◌||◌, drop}
use Rattle.std.specs.List.{list_any}
use Rattle.cdi_beans.specs.declared.bean.EnabledInterceptor.{EnabledInterceptor}
use Rattle.cdi_plans.specs.BeanBindings.{stands_round_member}
use Rattle.cdi_plans.specs.Chains.{class_level, intercepts_member}
use Rattle.cdi_plans.proofs.chains.Chains.bindings_of.Given as goal

-- an interceptor stands round a member that was gathered or one that is left
pub record Invariant (l : goal.Live-loop-member) : Type 0 where
  pub of_class : l.bindings.of_class ≡ class_level l.self l.bean.class
  pub members : (j : EnabledInterceptor) → (list_any (intercepts_member l.self l.bean.class j) (drop l.member-index l.member-items) || stands_round_member l.bindings j)
      ≡ list_any (intercepts_member l.self l.bean.class j) l.member-items

abbrev pub invariant-loop-member : goal.invariant-loop-member
invariant-loop-member l = Invariant l
