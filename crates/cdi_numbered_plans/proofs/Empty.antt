-- Whether a list is empty.
use Rattle.std.proofs.Common.{◌≡◌, ◌↔◌, Bool, true, false, List, [], ◌∷◌, IsTrue, refl}
use Rattle.cdi_numbered_plans.specs.Machine.{has_none}

pub has_none_if_empty : {X : Type 0} (xs : List X) (b : Bool) → IsTrue b ↔ (xs ≡ []) → b ≡ has_none xs
has_none_if_empty [] true h = refl
has_none_if_empty [] false h = h.1 refl
has_none_if_empty (x ∷ xs) true h = absurd (by (h.0 refl))
  where
    by : x ∷ xs ≡ [] → ⊥
    by e = cc
has_none_if_empty (x ∷ xs) false h = refl
