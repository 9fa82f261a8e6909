use Rattle.std.proofs.Common.{◌≡◌, map, drop}
use Rattle.cdi_quals.specs.Qualifiers.{full_member, agree}
use Rattle.cdi_bean_rules.proofs.required.agree.Given as goal

abbrev pub invariant-loop-member : goal.invariant-loop-member
invariant-loop-member l =
    agree (map (full_member l.given) (drop l.member-index l.members)) (map (full_member l.other) (drop l.member-index l.members))
    ≡ agree (map (full_member l.given) l.members) (map (full_member l.other) l.members)
