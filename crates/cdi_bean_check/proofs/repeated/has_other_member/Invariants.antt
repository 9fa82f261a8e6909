use Rattle.std.proofs.Common.{◌≡◌, ◌&&◌, not, nat_eq, drop}
use Rattle.std.specs.List.{list_any}
use Rattle.cdi_deployment.specs.Member.{member_name}
use Rattle.cdi_bean_check.specs.Repeated.{is_alike}
use Rattle.cdi_bean_check.proofs.repeated.has_other_member.Given as goal

abbrev pub invariant-loop-other : goal.invariant-loop-other
invariant-loop-other l =
    list_any (λ n. nat_eq (member_name n) (member_name l.member) && not (is_alike n l.member)) (drop l.other-index l.other-items)
    ≡ list_any (λ n. nat_eq (member_name n) (member_name l.member) && not (is_alike n l.member)) l.other-items
