use Rattle.std.proofs.Common.{◌≡◌, ◌++◌, take}
use Rattle.std.specs.List.{filter_map}
use Rattle.cdi_planner.specs.Steps.{initialization}
use Rattle.cdi_planner.proofs.steps.add_initializers.Given as goal

abbrev pub invariant-loop-member : goal.invariant-loop-member
invariant-loop-member l = l.steps ≡ l.initial.steps ++ filter_map initialization (take l.member-index l.members)
