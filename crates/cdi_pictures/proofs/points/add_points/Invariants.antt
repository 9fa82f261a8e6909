use Rattle.std.proofs.Common.{◌≡◌, ◌++◌, string_bytes, take}
use Rattle.cdi_problems.specs.Elements.{shown}
use Rattle.cdi_pictures.specs.Points as spec
use Rattle.cdi_pictures.proofs.points.add_points.Given as goal

abbrev pub invariant-loop-element : goal.invariant-loop-element
invariant-loop-element l =
    string_bytes l.text ≡ string_bytes l.initial.text
    ++ spec.points_text (spec.drawing_of l.drawing) (shown (take l.element-index l.elements))
