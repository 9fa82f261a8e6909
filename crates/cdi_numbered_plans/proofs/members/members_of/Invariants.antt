use Rattle.std.proofs.Common.{◌≡◌, map, take}
use Rattle.cdi_numbered_plans.specs.Numbered.{AsksNumbered, member_by}
use Rattle.cdi_numbered_plans.proofs.members.members_of.Given as goal

-- those of the members that were looked at
abbrev pub invariant-loop-member : goal.invariant-loop-member
invariant-loop-member l = (l.all ≡ map (member_by l.numbering) (take l.member-index l.members)) × AsksNumbered l.numbering l.lookup.now
