use Rattle.std.specs.List.{filter_map}
use Rattle.cdi_live.specs.Graphs.{HaveSameItems, IsRowOf, number_of}
use Rattle.cdi_live.specs.Settings.{counts_of}
use Rattle.cdi_live.proofs.deployment_tables.DeploymentTables.interceptor_row.Goals as goal

pub returns : goal.returns
returns c =
    let those = c.in_ok-needs.needs in
    let is : HaveSameItems c.in_ok-row.row (filter_map (number_of (counts_of c.args.self.now)) those) = (rw (c.counts.ensures.counts, c.as_slice.ensures) at c.in_ok-row.ensures.same) in
    IsRowOf.needing those c.in_ok-needs.ensures is
