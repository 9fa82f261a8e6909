use Rattle.std.proofs.Common.{take}
use Rattle.cdi_problems.specs.Elements as spec
use Rattle.cdi_problems.proofs.element.add_each.Given as goal

abbrev pub invariant-loop-item : goal.invariant-loop-item
invariant-loop-item g l =
    goal.F-IsAlwaysCallable g l.element
    × spec.AddsEach (goal.F-post g l.element) (take l.item-index l.items) (spec.shown l.initial.elements.items) (spec.shown l.elements.items)
