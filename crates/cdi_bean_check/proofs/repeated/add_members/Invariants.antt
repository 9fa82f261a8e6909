use Rattle.std.proofs.Common.{◌≡◌, ◌++◌, map, filter, drop}
use Rattle.cdi_deployment.specs.Member.{member_name}
use Rattle.cdi_bean_check.specs.Repeated.{has_other_member}
use Rattle.cdi_bean_check.proofs.repeated.add_members.Given as goal

abbrev pub invariant-loop-member : goal.invariant-loop-member
invariant-loop-member l =
    l.names ++ map member_name (filter (λ m. has_other_member m l.above) (drop l.member-index l.members))
    ≡ l.initial.names ++ map member_name (filter (λ m. has_other_member m l.above) l.members)
