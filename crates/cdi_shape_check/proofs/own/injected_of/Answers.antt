use Rattle.std.proofs.Common.{◌∙◌, ◌++◌, ap}
use Rattle.cdi_deployment.specs.declared.deployment.Class.{Class}
use Rattle.cdi_shape_check.proofs.SetSteps.{listed_mapped}
use Rattle.cdi_shape_check.proofs.own.injected_of.Goals as goal

pub loop-class-preserved : goal.loop-class-preserved
loop-class-preserved c =
    let l = c.loop-class in
    let more = listed_mapped c.args.line.now l.class-index c.class-item.result c.loop-class-test.true c.class-item.is (λ c. c.now) (λ (c : Class). c.inject) l.fields l.invariant in
    c.in_ok-add_fields.ensures ∙ ap (λ fs. l.fields ++ fs) c.as_slice.ensures ∙ more
