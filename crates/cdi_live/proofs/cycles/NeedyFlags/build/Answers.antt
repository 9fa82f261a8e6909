use Rattle.cdi_live.specs.Settings.{setting_of, counts_of}
use Rattle.cdi_live.proofs.Rows.{are_graph}
use Rattle.cdi_live.proofs.cycles.NeedyFlags.build.Goals as goal

pub build-requires : goal.build-requires
build-requires c = are_graph (setting_of c.args.tables.now) (counts_of c.args.tables.now) c.in_ok-rows.rows c.in_ok-rows.ensures
