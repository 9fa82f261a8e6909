use Rattle.std.proofs.Common.{◌≡◌, ◌++◌, take}
use Rattle.std.specs.List.{filter_map}
use Rattle.cdi_live.specs.Needs.{needed_at}
use Rattle.cdi_live.specs.Settings.{setting_of}
use Rattle.cdi_live.proofs.needed_at_points.add_params.Given as goal

abbrev pub invariant-loop-point : goal.invariant-loop-point
invariant-loop-point l = l.needs ≡ l.initial.needs ++ filter_map (needed_at (setting_of l.tables)) (take l.point-index l.params)
