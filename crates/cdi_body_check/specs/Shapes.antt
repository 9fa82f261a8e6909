-- The shapes of registered bodies.
use Rattle.std.specs.Prelude.{ℕ, List, Option, option_and_then}
use Rattle.cdi_bodies.specs.Gives.{place_of, shape_at}
use Rattle.cdi_bodies.specs.declared.entry.Entry.{Entry}
use Rattle.cdi_bodies.specs.declared.shape.Shape.{Shape}

-- the shape of the body of a name, if one is registered under it
abbrev pub shape_of : {X : Type 0} {F : X → Type 0} {g : _} → List (Entry X F g) → ℕ → Option Shape
shape_of entries name = option_and_then (shape_at entries) (place_of entries name)
