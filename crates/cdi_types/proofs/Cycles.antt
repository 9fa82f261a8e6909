-- Where no declared name is on a cycle, none is.
use Rattle.std.proofs.Common.{◌≡◌, ◌∙◌, ℕ, ◌+◌, ◌<◌, List, [], ◌∷◌, ◌++◌, length, take, get_or, All, sym, ap, subst}
use Rattle.std.proofs.lemmas.List.{take_more}
use Rattle.std.proofs.lemmas.List.Elements.{All-push, All-contains}
use Rattle.std.specs.List.{Contains}
use Rattle.cdi_types.specs.declared.declaration.TypeDeclaration.{TypeDeclaration}
use Rattle.cdi_types.specs.Subtype.{supertypes_of, IsBelow, IsCyclic, IsAcyclic}
use Rattle.cdi_types.proofs.Supertypes.{declared_above}

-- one more that has the property
pub all_more : {X : Type 0} (P : X → Type 0) (xs : List X) (i : ℕ) (x : X) → i < length xs → x ≡ get_or xs i x → All P (take i xs) → P x → All P (take (i + 1) xs)
all_more {X} P xs i x within is all one =
    let Q : List X → Type 0 = All P in
    subst Q (ap (λ y. take i xs ++ y ∷ []) is ∙ sym (take_more xs i x within)) (All-push P (take i xs) x all one)

first_step : (types : List TypeDeclaration) {a b : ℕ} → IsBelow types a b → (m : ℕ) × Contains (supertypes_of types a) m
first_step types (IsBelow.directly {b = m} e) = (m, e)
first_step types (IsBelow.further {b = m} e p) = (m, e)

pub acyclic : (types : List TypeDeclaration) → All (λ d. ¬ IsCyclic types d.name) types → IsAcyclic types
acyclic types all a cycle =
    let step = first_step types cycle in
    let r = declared_above types a step.0 step.1 in
    let P : ℕ → Type 0 = λ n. ¬ IsCyclic types n in
    let free : ¬ IsCyclic types r.0.name = All-contains (λ d. ¬ IsCyclic types d.name) types r.0 all r.1 in
    subst P r.2 free cycle
