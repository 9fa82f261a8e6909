use Rattle.std.proofs.Common.{◌≡◌, ◌∙◌, ◌++◌, List, refl, ap}
use Rattle.std.specs.List.{filter_map}
use Rattle.cdi_deployment.specs.declared.deployment.Point.{Point}
use Rattle.cdi_types.specs.Line.{class_named, IsLineOf}
use Rattle.cdi_live.specs.Needs.{needed_at}
use Rattle.cdi_live.specs.OwnPoints.{constructor_points, line_points}
use Rattle.cdi_live.specs.Settings.{setting_of}
use Rattle.cdi_live.proofs.FieldNeeds.{line_named}
use Rattle.cdi_live.proofs.Growing.{joined}
use Rattle.cdi_live.proofs.deployment_tables.DeploymentTables.add_managed.Goals as goal

pub add_of_line-requires-clause-named : goal.add_of_line-requires-clause-named
add_of_line-requires-clause-named c =
    let self = c.args.self.now in
    let b = c.args.bean.now in
    let line = c.in_ok-line.line in
    let is_line : IsLineOf self.live.now.types self.live.now.classes b.class line = rw (self.same_types, self.same_classes) at c.in_ok-line.ensures in
    line_named (setting_of self) b.class line is_line

pub returns : goal.returns
returns c =
    let self = c.args.self.now in
    let s = setting_of self in
    let f = needed_at s in
    let b = c.args.bean.now in
    let line = c.in_ok-line.line in
    let first : List Point = constructor_points (class_named s.enabled.classes b.class) in
    let is_line : IsLineOf s.enabled.types s.enabled.classes b.class line = rw (self.same_types, self.same_classes) at c.in_ok-line.ensures in
    let points : c.constructor_points.result.now ≡ first = c.constructor_points.ensures ∙ ap constructor_points (c.class.ensures ∙ ap (λ cs. class_named cs b.class) self.same_classes) in
    record {
      points = first ++ line_points line;
      are = record { line = line; is_line = is_line; are = refl };
      adds = joined f first (line_points line) c.args.needs.now c.add_params.new.needs c.add_of_line.new.needs (c.in_ok-add_params.ensures ∙ ap (λ ps. c.args.needs.now ++ filter_map f ps) points) c.in_ok-add_of_line.ensures;
    }
