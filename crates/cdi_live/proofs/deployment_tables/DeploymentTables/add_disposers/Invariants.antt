use Rattle.std.proofs.Common.{◌≡◌, ◌++◌, filter, take}
use Rattle.std.specs.List.{filter_map, flat_map}
use Rattle.cdi_live.specs.Needs.{needed_at}
use Rattle.cdi_live.specs.OwnPoints.{disposer_points, serves}
use Rattle.cdi_live.specs.Settings.{setting_of}
use Rattle.cdi_live.proofs.deployment_tables.DeploymentTables.add_disposers.Given as goal

abbrev pub invariant-loop-disposer : goal.invariant-loop-disposer
invariant-loop-disposer l =
    l.needs ≡ l.initial.needs ++ filter_map (needed_at (setting_of l.self)) (flat_map (disposer_points l.self.classes.now) (filter (serves l.class l.name) (take l.disposer-index l.disposers)))
