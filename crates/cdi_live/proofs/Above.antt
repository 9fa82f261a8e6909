-- What holds of one of the first items of a list, and of the next one.
use Rattle.std.proofs.Common.{◌≡◌, ◌∙◌, ◌⊎◌, inl, inr, ℕ, ◌+◌, ◌<◌, List, [], ◌∷◌, ◌++◌, get_or, length, take, sym, ap, subst}
use Rattle.std.proofs.lemmas.List.{take_more}
use Rattle.std.proofs.lemmas.List.Elements.{Contains-append_left, Contains-push, Contains-push_cases}
use Rattle.std.specs.List.{Any, Contains}

module _ {X : Type 0} (P : X → Type 0) (xs : List X) (i : ℕ) (x : X) (lt : i < length xs) (is : x ≡ get_or xs i x) where
  longer : take (i + 1) xs ≡ take i xs ++ x ∷ []
  longer = take_more xs i x lt ∙ ap (λ y. take i xs ++ y ∷ []) (sym is)

  pub before_or_here : Any P (take (i + 1) xs) → Any P (take i xs) ⊎ P x
  before_or_here (k, y, within, at, holds) =
      let Q : List X → Type 0 = λ ys. Contains ys y in
      elim (Contains-push_cases (take i xs) x y (subst Q longer (k, within, at))) [
        | inl before ↦ inl (before.0, y, before.1, before.2, holds)
        | inr same ↦ inr (subst P (sym same) holds)
      ]

  pub before : Any P (take i xs) → Any P (take (i + 1) xs)
  before (k, y, within, at, holds) =
      let Q : List X → Type 0 = λ ys. Contains ys y in
      let there : Contains (take (i + 1) xs) y = subst Q (sym longer) (Contains-append_left (take i xs) (x ∷ []) y (k, within, at)) in
      (there.0, y, there.1, there.2, holds)

  pub here : P x → Any P (take (i + 1) xs)
  here holds =
      let Q : List X → Type 0 = λ ys. Contains ys x in
      let there : Contains (take (i + 1) xs) x = subst Q (sym longer) (Contains-push (take i xs) x) in
      (there.0, x, there.1, there.2, holds)
