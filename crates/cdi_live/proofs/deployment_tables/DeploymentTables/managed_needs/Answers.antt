use Rattle.std.proofs.Common.{◌≡◌, ◌∙◌, ◌++◌, List, map, ap, subst, sym}
use Rattle.std.specs.List.{filter_map}
use Rattle.cdi_plans.specs.Chains.{interceptors_of}
use Rattle.cdi_live.specs.Needs.{needed_at, NeedsThose}
use Rattle.cdi_live.specs.Settings.{setting_of}
use Rattle.cdi_live.specs.declared.node.Node.{Node}
use Rattle.cdi_live.specs.declared.node.Node.TheVariants.{Bean, Interceptor}
use Rattle.cdi_live.proofs.deployment_tables.DeploymentTables.managed_needs.Goals as goal

pub returns : goal.returns
returns c = λ i there.
    let s = setting_of c.args.self.now in
    let f = needed_at s in
    let added = c.in_ok-add_managed.ensures in
    let those : List Node = map (λ k. Interceptor k) (interceptors_of s.chains c.args.bean.now) in
    let first : c.add_managed.new.needs ≡ filter_map f added.points = added.adds ∙ ap (λ ns. ns ++ filter_map f added.points) c.empty-needs.ensures in
    let is : c.add_interceptors.new.needs ≡ filter_map f added.points ++ those = c.in_ok-add_interceptors.ensures ∙ ap (λ ns. ns ++ those) first in
    let P : List Node → Type 0 = NeedsThose s (Bean i) in
    subst P (sym is) (NeedsThose.managed there c.requires.managed added.are)
