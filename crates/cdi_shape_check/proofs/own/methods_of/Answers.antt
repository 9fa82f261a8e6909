use Rattle.std.proofs.Common.{◌∙◌, ◌||◌, ap}
use Rattle.std.specs.HashSet.{contains}
use Rattle.std.specs.List.{list_any}
use Rattle.cdi_name_check.specs.NameSets.{same_pair}
use Rattle.cdi_shape_check.specs.OwnParts.{is_method, declares_method}
use Rattle.cdi_shape_check.proofs.SetSteps.{pairs_added}
use Rattle.cdi_shape_check.proofs.own.methods_of.Goals as goal

pub loop-class-preserved : goal.loop-class-preserved
loop-class-preserved c =
    let l = c.loop-class in
    pairs_added (λ c. c.now) c.args.line.now l.class-index c.class-item.result c.loop-class-test.true c.class-item.is declares_method l.set c.add_methods.new.set l.invariant
    (λ name count. c.in_ok-add_methods.ensures name count ∙ ap (λ ms. contains same_pair l.set (name, count) || list_any (is_method name count) ms) c.as_slice.ensures)
