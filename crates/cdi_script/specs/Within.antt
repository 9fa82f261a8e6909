-- A script's acts lie in its shape.
use Rattle.std.specs.Prelude.{◌≡◌, true, List}
use Rattle.cdi_base.specs.declared.fields.Fields.{Fields}
use Rattle.cdi_bodies.specs.declared.view.View.{View}
use Rattle.cdi_bodies.specs.Shape.{in_shape}
use Rattle.cdi_script.specs.declared.step.Step.{Step}
use Rattle.cdi_script.specs.Listed.{shape_of}
use Rattle.cdi_script.specs.Next.{next_of}

-- at any fields, and whatever was answered
abbrev pub StaysInShape : List Step → Type 0
StaysInShape steps =
    (fields : Fields) (view : View)
    → in_shape (shape_of steps) view (next_of steps fields view) ≡ true
