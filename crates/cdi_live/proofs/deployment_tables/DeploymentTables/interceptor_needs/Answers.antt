use Rattle.std.proofs.Common.{◌≡◌, ◌∙◌, ◌++◌, List, map, ap, subst, sym}
use Rattle.std.specs.List.{filter_map}
use Rattle.cdi_live.specs.Points.{field_point}
use Rattle.cdi_live.specs.Needs.{needed_at, NeedsThose}
use Rattle.cdi_live.specs.OwnPoints.{interceptor_points}
use Rattle.cdi_live.specs.Settings.{setting_of}
use Rattle.cdi_live.specs.declared.node.Node.{Node}
use Rattle.cdi_live.specs.declared.node.Node.TheVariants.{Interceptor}
use Rattle.cdi_live.proofs.deployment_tables.DeploymentTables.interceptor_needs.Goals as goal

pub returns : goal.returns
returns c =
    let s = setting_of c.args.self.now in
    let is : c.add_fields.new.needs ≡ filter_map (needed_at s) (interceptor_points s c.args.place) = c.in_ok-add_fields.ensures ∙ ap (λ ns. ns ++ filter_map (needed_at s) (map field_point c.fields_of.result.now)) c.empty-needs.ensures ∙ ap (filter_map (needed_at s)) c.fields_of.ensures in
    let P : List Node → Type 0 = NeedsThose s (Interceptor c.args.place) in
    subst P (sym is) NeedsThose.interceptor
