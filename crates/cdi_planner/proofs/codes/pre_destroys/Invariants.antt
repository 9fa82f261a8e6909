use Rattle.std.proofs.Common.{◌≡◌, take}
use Rattle.std.specs.List.{filter_map}
use Rattle.cdi_planner.specs.Codes.{pre_destroy}
use Rattle.cdi_planner.proofs.codes.pre_destroys.Given as goal

abbrev pub invariant-loop-member : goal.invariant-loop-member
invariant-loop-member l = l.callbacks ≡ filter_map pre_destroy (take l.member-index l.members)
