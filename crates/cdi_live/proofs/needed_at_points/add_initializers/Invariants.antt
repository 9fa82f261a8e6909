use Rattle.std.proofs.Common.{◌≡◌, ◌++◌, take}
use Rattle.std.specs.List.{filter_map, flat_map}
use Rattle.cdi_live.specs.Needs.{needed_at}
use Rattle.cdi_live.specs.OwnPoints.{initializer_points}
use Rattle.cdi_live.specs.Settings.{setting_of}
use Rattle.cdi_live.proofs.needed_at_points.add_initializers.Given as goal

abbrev pub invariant-loop-member : goal.invariant-loop-member
invariant-loop-member l = l.needs ≡ l.initial.needs ++ filter_map (needed_at (setting_of l.tables)) (flat_map initializer_points (take l.member-index l.members))
