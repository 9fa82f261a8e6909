-- What a body that counts may give.
use Rattle.std.specs.Prelude.{ℕ, ◌≡◌, [], ◌∷◌, length}
use Rattle.cdi_base.specs.declared.act.Act.{Act}
use Rattle.cdi_base.specs.declared.act.Act.TheVariants as acts
use Rattle.cdi_bodies.specs.declared.shape.Shape.{Shape}
use Rattle.cdi_bodies.specs.Shape.{no_acts}

-- it sets this field, calls this method with one value, or gives a value
abbrev pub IsPlain : ℕ → ℕ → Act → Type 0
IsPlain field method (acts.Set name v) = name ≡ field
IsPlain field method (acts.Own name args) = (name ≡ method) × (length args ≡ 1)
IsPlain field method (acts.Give v) = Unit {0}
IsPlain field method _ = ⊥

abbrev pub plain_shape : ℕ → ℕ → Shape
plain_shape field method =
    record no_acts { sets = field ∷ []; owns = record { method = method; count = 1 } ∷ [] }
