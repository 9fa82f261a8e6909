use Rattle.std.proofs.Common.{◌≡◌, take}
use Rattle.std.specs.List.{filter_map}
use Rattle.cdi_planner.specs.Codes.{post_construct}
use Rattle.cdi_planner.proofs.codes.post_constructs.Given as goal

abbrev pub invariant-loop-member : goal.invariant-loop-member
invariant-loop-member l = l.callbacks ≡ filter_map post_construct (take l.member-index l.members)
