use Rattle.std.proofs.Common.{◌≡◌, take}
use Rattle.std.specs.List.{filter_map}
use Rattle.cdi_plans.specs.Bindings.{member_bindings}
use Rattle.cdi_plans.proofs.bindings.members_of.Given as goal

abbrev pub invariant-loop-member : goal.invariant-loop-member
invariant-loop-member l = l.members ≡ filter_map (member_bindings l.types) (take l.member-index l.declared)
