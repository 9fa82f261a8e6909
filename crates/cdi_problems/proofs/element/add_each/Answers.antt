use Rattle.std.proofs.Common.{◌∙◌, ◌++◌, map, ap}
use Rattle.std.proofs.lemmas.List.{take_all}
use Rattle.cdi_problems.specs.Elements as spec
use Rattle.cdi_problems.proofs.element.add_each.Goals as goal

pub returns : goal.returns
returns g c = λ f shows.
    c.loop-item.invariant.1 f shows
    ∙ ap (λ items. spec.shown c.args.elements.now.items ++ map f items) (take_all c.loop-item.item-index c.args.items.now c.loop-item-test.false)
