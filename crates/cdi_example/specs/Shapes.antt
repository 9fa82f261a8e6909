-- What the bodies of the box office may do.
use Rattle.std.specs.Prelude.{ℕ, [], ◌∷◌}
use Rattle.cdi_base.specs.declared.act.Via.TheVariants as vias
use Rattle.cdi_bodies.specs.Shape.{no_acts}
use Rattle.cdi_bodies.specs.declared.shape.Shape.{Shape}

-- to call the office's method with one value, and to fire the event
abbrev pub buy_shape : ℕ → ℕ → ℕ → Shape
buy_shape office sell sold =
    record no_acts {
      calls = record { via = vias.Field office; method = sell; count = 1 } ∷ [];
      fires = record { class = sold; qualifiers = [] } ∷ [];
    }

-- to set the takings
abbrev pub note_shape : ℕ → Shape
note_shape takings = record no_acts { sets = takings ∷ [] }
