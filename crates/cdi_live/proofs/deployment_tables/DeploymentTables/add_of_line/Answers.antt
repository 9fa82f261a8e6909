use Rattle.std.proofs.Common.{List, map, ◌≡◌, ◌∙◌, ◌++◌, ap}
use Rattle.std.specs.List.{filter_map, flat_map}
use Rattle.cdi_deployment.specs.declared.deployment.Class.{Class}
use Rattle.cdi_deployment.specs.declared.deployment.Point.{Point}
use Rattle.cdi_types.specs.Kinds.{of_kind}
use Rattle.cdi_types.specs.Members.{members_of, injected_fields_of}
use Rattle.cdi_types.specs.declared.kind.MemberKind.TheVariants as kinds
use Rattle.cdi_live.specs.FieldNeeds.{list_of}
use Rattle.cdi_live.specs.Points.{field_point}
use Rattle.cdi_live.specs.Needs.{needed_at}
use Rattle.cdi_live.specs.OwnPoints.{initializer_points}
use Rattle.cdi_live.specs.Settings.{setting_of}
use Rattle.cdi_live.specs.declared.node.Node.{Node}
use Rattle.cdi_live.proofs.FieldNeeds.{of_line}
use Rattle.cdi_live.proofs.Growing.{joined}
use Rattle.cdi_live.proofs.Initializers.{points-of_initializers}
use Rattle.cdi_live.proofs.deployment_tables.DeploymentTables.add_of_line.Goals as goal

pub returns : goal.returns
returns c =
    let s = setting_of c.args.self.now in
    let f = needed_at s in
    let line = c.args.line.now in
    let t = c.args.fields.now in
    let has = members_of line in
    let injected : List Point = map (λ p. field_point p.1) (injected_fields_of line) in
    let initialized : List Point = flat_map initializer_points has in
    let told : List Class → List Node = flat_map (λ k. list_of t k.name) in
    let first : c.add_of.new.needs ≡ c.args.needs.now ++ filter_map f injected = c.in_ok-add_of.ensures ∙ ap (λ cs. c.args.needs.now ++ told cs) c.classes.ensures ∙ ap (λ ns. c.args.needs.now ++ ns) (of_line s t c.requires.are line c.requires.named) in
    let among : c.add_initializers.new.needs ≡ c.add_of.new.needs ++ filter_map f (flat_map initializer_points (of_kind kinds.Initializer has)) =
    rw (← c.in_ok-initializers.ensures, ← c.as_slice.ensures) c.in_ok-add_initializers.ensures in
    let second : c.add_initializers.new.needs ≡ c.add_of.new.needs ++ filter_map f initialized = among ∙ ap (λ points. c.add_of.new.needs ++ filter_map f points) (points-of_initializers has) in
    joined f injected initialized c.args.needs.now c.add_of.new.needs c.add_initializers.new.needs first second
