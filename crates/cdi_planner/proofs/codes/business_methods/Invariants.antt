use Rattle.std.proofs.Common.{◌≡◌, take}
use Rattle.std.specs.List.{filter_map}
use Rattle.cdi_planner.specs.Codes.{business_method}
use Rattle.cdi_planner.proofs.codes.business_methods.Given as goal

abbrev pub invariant-loop-member : goal.invariant-loop-member
invariant-loop-member l = l.methods ≡ filter_map (business_method l.chains l.bean) (take l.member-index l.members)
