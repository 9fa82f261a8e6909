use Rattle.std.proofs.Common.{◌==◌, nat_eq, refl}
use Rattle.std.specs.HashSet.{contains}
use Rattle.cdi_deployment.specs.declared.deployment.Field.{Field}
use Rattle.cdi_shape_check.proofs.SetSteps.{key_added}
use Rattle.cdi_shape_check.proofs.own.add_field_names.Goals as goal

pub loop-field-preserved : goal.loop-field-preserved
loop-field-preserved c = λ name.
    let l = c.loop-field in
    key_added (λ (f : Field). f.name == name) c.args.fields.now l.field-index c.field-item.result c.loop-field-test.true c.field-item.is (contains nat_eq c.args.set.now name) (contains nat_eq l.set name) _ (l.invariant name)
    (nat_eq c.field-item.result.name name) refl (c.in_ok-insert.ensures.updates.0 name)
