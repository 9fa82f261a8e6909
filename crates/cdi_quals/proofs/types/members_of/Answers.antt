use Rattle.std.proofs.Common.{Bool, not, ap}
use Rattle.cdi_quals.specs.Types.{member_type}
use Rattle.cdi_quals.specs.declared.types.MemberType.{MemberType}
use Rattle.cdi_quals.proofs.Pairs.{maps_on}
use Rattle.cdi_quals.proofs.types.members_of.Goals as goal

pub loop-member-preserved : goal.loop-member-preserved
loop-member-preserved c =
    let i = c.loop-member in
    let marked : Bool → MemberType = λ among. record { name = c.member-item.result; is_binding = not among } in
    rw c.in_ok-push.ensures.ok (maps_on (member_type c.args.nonbinding.now) c.args.members.now i.member-index c.member-item.result i.types _ _ c.loop-member-test.true c.member-item.is (ap marked c.is_among.ensures) i.invariant)
