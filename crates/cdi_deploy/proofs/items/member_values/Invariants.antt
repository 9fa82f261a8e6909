use Rattle.std.proofs.Common.{◌≡◌, map, take}
use Rattle.cdi_deploy.specs.Items.{member_value}
use Rattle.cdi_deploy.proofs.items.member_values.Given as goal

abbrev pub invariant-loop-member : goal.invariant-loop-member
invariant-loop-member l = l.values.items ≡ map (member_value l.names) (take l.member-index l.members)
