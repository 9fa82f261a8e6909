use Rattle.std.proofs.Common.{◌≡◌, ◌∙◌, ◌++◌, List, [], filter, ap, subst, sym}
use Rattle.std.specs.Prelude.{option_and_then}
use Rattle.std.specs.List.{filter_map, flat_map}
use Rattle.cdi_deployment.specs.declared.deployment.Class.{Class}
use Rattle.cdi_deployment.specs.declared.deployment.Point.{Point}
use Rattle.cdi_types.specs.Line.{class_named}
use Rattle.cdi_live.specs.Needs.{needed_at, NeedsThose, declaring_bean}
use Rattle.cdi_live.specs.OwnPoints.{member_points, points_of_some, member_in, disposer_points, serves, product_points}
use Rattle.cdi_live.specs.Settings.{setting_of}
use Rattle.cdi_live.specs.declared.node.Node.{Node}
use Rattle.cdi_live.specs.declared.node.Node.TheVariants.{Bean}
use Rattle.cdi_live.proofs.Growing.{joined}
use Rattle.cdi_live.proofs.deployment_tables.DeploymentTables.product_needs.Goals as goal

pub returns : goal.returns
returns c = λ i there.
    let self = c.args.self.now in
    let s = setting_of self in
    let f = needed_at s in
    let b = c.args.bean.now in
    let own : List Point = member_points s.enabled.classes b.class c.args.name in
    let disposing : List Class → List Point = λ cs. flat_map (disposer_points cs) (filter (serves b.class c.args.name) s.disposers) in
    let those : List Node = filter_map (declaring_bean b.class) s.enabled.beans in
    let params : c.member_points.result.now ≡ own =
    c.member_points.ensures ∙ ap (λ cls. points_of_some (option_and_then (member_in c.args.name) cls)) (c.class-class.ensures ∙ ap (λ cs. class_named cs b.class) self.same_classes) in
    let first : c.add_params.new.needs ≡ [] ++ filter_map f own = c.in_ok-add_params.ensures ∙ ap (λ ps. c.empty-needs.result ++ filter_map f ps) params ∙ ap (λ ns. ns ++ filter_map f own) c.empty-needs.ensures in
    let second : c.add_disposers.new.needs ≡ c.add_params.new.needs ++ filter_map f (disposing s.enabled.classes) = c.in_ok-add_disposers.ensures ∙ ap (λ cs. c.add_params.new.needs ++ filter_map f (disposing cs)) self.same_classes in
    let points : c.add_disposers.new.needs ≡ filter_map f (product_points s b c.args.name) = joined f own (disposing s.enabled.classes) [] c.add_params.new.needs c.add_disposers.new.needs first second in
    let is : c.add_declaring.new.needs ≡ filter_map f (product_points s b c.args.name) ++ those = c.in_ok-add_declaring.ensures ∙ ap (λ ns. ns ++ those) points in
    let P : List Node → Type 0 = NeedsThose s (Bean i) in
    subst P (sym is) (NeedsThose.product there c.requires)
