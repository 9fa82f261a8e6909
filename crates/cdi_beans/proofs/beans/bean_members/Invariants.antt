use Rattle.std.proofs.Common.{◌≡◌, map, take}
use Rattle.cdi_beans.specs.Beans.{bean_member}
use Rattle.cdi_beans.proofs.beans.bean_members.Given as goal

abbrev pub invariant-loop-member : goal.invariant-loop-member
invariant-loop-member l = l.found ≡ map bean_member (take l.member-index l.members)
