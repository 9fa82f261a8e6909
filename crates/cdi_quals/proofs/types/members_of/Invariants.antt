use Rattle.std.proofs.Common.{◌≡◌, ◌++◌, map, drop}
use Rattle.cdi_quals.specs.Types.{member_type}
use Rattle.cdi_quals.proofs.types.members_of.Given as goal

abbrev pub invariant-loop-member : goal.invariant-loop-member
invariant-loop-member l =
    l.types ++ map (member_type l.nonbinding) (drop l.member-index l.members) ≡ map (member_type l.nonbinding) l.members
