use Rattle.std.proofs.Common.{◌≡◌, ◌++◌, map, take}
use Rattle.cdi_name_uses.specs.Uses as spec
use Rattle.cdi_name_uses.proofs.name_use.add_members.Given as goal

abbrev pub invariant-loop-member : goal.invariant-loop-member
invariant-loop-member l = l.uses ≡ l.initial.uses ++ spec.member_uses l.group (take l.member-index l.members)
