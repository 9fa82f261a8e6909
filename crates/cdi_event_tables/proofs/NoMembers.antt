-- Members agree with none only if there are none.
use Rattle.std.proofs.Common.{◌≡◌, ◌↔◌, Bool, true, false, List, [], ◌∷◌, IsTrue, refl}
use Rattle.cdi_quals.specs.Qualifiers.{agree}
use Rattle.cdi_quals.specs.declared.qualifier.QualifierMember.{QualifierMember}

pub agrees_with_none : (members : List QualifierMember) (empty : Bool) → IsTrue empty ↔ (members ≡ []) → empty ≡ agree members []
agrees_with_none [] true is = refl
agrees_with_none [] false is = is.1 refl
agrees_with_none (m ∷ ms) true is = absurd (by (is.0 refl))
  where
    by : m ∷ ms ≡ [] → ⊥
    by e = cc
agrees_with_none (m ∷ ms) false is = refl
