-- That no two classes have one name.
use Rattle.std.specs.Prelude.{ℕ, ◌≡◌, ◌==◌, Bool, false, List, [], ◌∷◌}
use Rattle.std.specs.List.{list_any}
use Rattle.cdi_deployment.specs.declared.deployment.Class.{Class}

abbrev pub has_class : ℕ → List Class → Bool
has_class name classes = list_any (λ c. c.name == name) classes

abbrev pub AreNamedApart : List Class → Type 0
AreNamedApart [] = Unit {0}
AreNamedApart (c ∷ below) = (has_class c.name below ≡ false) × AreNamedApart below
