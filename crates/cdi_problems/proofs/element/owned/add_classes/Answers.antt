use Rattle.std.proofs.Common.{◌∙◌, ◌++◌, ap}
use Rattle.cdi_problems.specs.Elements.{shown, class_elements}
use Rattle.cdi_problems.proofs.Numbered.{next_numbered}
use Rattle.cdi_problems.proofs.element.owned.add_classes.Goals as goal

pub loop-index-preserved : goal.loop-index-preserved
loop-index-preserved c =
    let i = c.loop-index.index in
    let x = c.index-classes-index.result in
    c.in_ok-add_class.ensures ∙ ap (λ es. es ++ class_elements (i, x)) c.loop-index.invariant
    ∙ next_numbered class_elements c.args.classes.now i x (shown c.args.elements.now.items) c.loop-index-test.true c.index-classes-index.is
