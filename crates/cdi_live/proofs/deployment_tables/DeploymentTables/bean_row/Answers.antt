use Rattle.std.proofs.Common.{◌≡◌, ◌∙◌, Some, sym, ap}
use Rattle.std.specs.List.{filter_map}
use Rattle.cdi_base.specs.Maps.{at}
use Rattle.cdi_live.specs.Graphs.{HaveSameItems, IsRowOf, number_of}
use Rattle.cdi_live.specs.Settings.{counts_of}
use Rattle.cdi_live.proofs.deployment_tables.DeploymentTables.bean_row.Goals as goal

pub returns-in_ok-row-in-Some : goal.returns-in_ok-row-in-Some
returns-in_ok-row-in-Some c =
    let self = c.args.self.now in
    let those = c.in_ok-needs-in-Some.needs in
    let is : HaveSameItems c.in_ok-row-in-Some.row (filter_map (number_of (counts_of self)) those) = (rw (c.counts.ensures.counts, c.as_slice.ensures) at c.in_ok-row-in-Some.ensures.same) in
    let there : at self.live.now.beans c.args.index ≡ Some c.in-Some.bean.now = ap (λ bs. at bs c.args.index) (sym self.same_beans) ∙ sym c.in-Some.ensures in
    IsRowOf.needing those (c.in_ok-needs-in-Some.ensures c.args.index there) is
