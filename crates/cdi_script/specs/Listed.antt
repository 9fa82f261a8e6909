-- The shape of a script.
use Rattle.std.specs.Prelude.{List, fold}
use Rattle.cdi_bodies.specs.declared.shape.Shape.{Shape}
use Rattle.cdi_bodies.specs.Shape.{no_acts}
use Rattle.cdi_script.specs.declared.step.Step.{Step}
use Rattle.cdi_script.specs.Step.{with_action}

-- what all steps name, in their order
abbrev pub shape_of : List Step → Shape
shape_of steps = fold (λ shape step. with_action shape step.action) no_acts steps
