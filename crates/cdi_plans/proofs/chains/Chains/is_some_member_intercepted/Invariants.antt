use Rattle.std.proofs.Common.{◌≡◌, drop}
use Rattle.std.specs.List.{list_any}
use Rattle.cdi_plans.specs.Chains.{is_bound_with, member_level}
use Rattle.cdi_plans.proofs.chains.Chains.is_some_member_intercepted.Given as goal

abbrev pub invariant-loop-member : goal.invariant-loop-member
invariant-loop-member l =
    list_any (λ m. list_any (is_bound_with (member_level l.self m) l.of_class) l.self.interceptors) (drop l.member-index l.members)
    ≡ list_any (λ m. list_any (is_bound_with (member_level l.self m) l.of_class) l.self.interceptors) l.members
