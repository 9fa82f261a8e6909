use Rattle.std.proofs.Common.{◌≡◌, ◌++◌, map, drop}
use Rattle.cdi_quals.specs.Qualifiers.{full_member}
use Rattle.cdi_quals.proofs.qualifier.members_of.Given as goal

abbrev pub invariant-loop-member : goal.invariant-loop-member
invariant-loop-member l = l.full ++ map (full_member l.given) (drop l.member-index l.members) ≡ map (full_member l.given) l.members
