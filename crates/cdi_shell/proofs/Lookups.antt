-- Bodies that are scripts have the lookups of these.
use Rattle.std.proofs.Common.{◌≡◌, List, [], ◌∷◌, refl, ap, ap₂}
use Rattle.cdi_bodies.specs.Gives.{lookups_of}
use Rattle.cdi_bodies.specs.declared.entry.Entry.{Entry}
use Rattle.cdi_bodies.specs.declared.shape.Shape.{Shape}
use Rattle.cdi_prepare.specs.declared.scripts.NamedScript.{NamedScript}
use Rattle.cdi_prepare.proofs.Holding.{AreBodiesOf}
use Rattle.cdi_shell.specs.Drive.{lookups_by}

pub same_lookups : {X : Type 0} {F : X → Type 0} {g : _} (es : List (Entry X F g)) (ss : List NamedScript) → AreBodiesOf es ss → lookups_of es ≡ lookups_by ss
same_lookups [] [] h = refl
same_lookups [] (s ∷ ss) h = absurd h
same_lookups (e ∷ es) [] h = absurd h
same_lookups (e ∷ es) (s ∷ ss) h = ap₂ (λ l ls. l ∷ ls) (ap (λ (k : Shape). k.lookups) h.0.shape) (same_lookups es ss h.1)
