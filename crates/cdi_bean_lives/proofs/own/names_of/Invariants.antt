use Rattle.std.proofs.Common.{◌≡◌, map, take}
use Rattle.cdi_deployment.specs.Member.{member_name}
use Rattle.cdi_bean_lives.proofs.own.names_of.Given as goal

abbrev pub invariant-loop-member : goal.invariant-loop-member
invariant-loop-member l = l.names ≡ map member_name (take l.member-index l.members)
