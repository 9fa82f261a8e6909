use Rattle.std.proofs.Common.{◌≡◌, take}
use Rattle.std.specs.List.{flat_map}
use Rattle.cdi_problems.specs.Elements.{shown}
use Rattle.cdi_problem_hints.specs.Left as spec
use Rattle.cdi_problem_hints.proofs.left.left_in.Given as goal

abbrev pub invariant-loop-element : goal.invariant-loop-element
invariant-loop-element l =
    l.places ≡ flat_map (spec.left_in l.tables) (shown (take l.element-index l.elements))
