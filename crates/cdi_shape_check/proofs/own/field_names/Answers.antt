use Rattle.std.proofs.Common.{◌∙◌, ◌||◌, nat_eq, ap}
use Rattle.std.specs.HashSet.{contains}
use Rattle.cdi_deployment.specs.declared.deployment.Class.{Class}
use Rattle.cdi_shape_check.specs.OwnParts.{has_field}
use Rattle.cdi_shape_check.proofs.SetSteps.{names_added}
use Rattle.cdi_shape_check.proofs.own.field_names.Goals as goal

pub loop-class-preserved : goal.loop-class-preserved
loop-class-preserved c =
    let l = c.loop-class in
    names_added (λ c. c.now) c.args.line.now l.class-index c.class-item.result c.loop-class-test.true c.class-item.is (λ name (c : Class). has_field name c.fields) l.set c.add_field_names.new.set l.invariant
    (λ name. c.in_ok-add_field_names.ensures name ∙ ap (λ fs. contains nat_eq l.set name || has_field name fs) c.as_slice.ensures)
