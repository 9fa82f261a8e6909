-- Lists that are the same, looked at one by one.
use Rattle.std.proofs.Common.{◌≡◌, ◌∙◌, ℕ, suc, ◌+◌, ◌<◌, ◌≤◌, List, ◌∷◌, length, drop, get_or, sym, ap, drop-cons, add-one}
use Rattle.std.proofs.lemmas.List.{drop_all}

module _ {X : Type 0} (xs ys : List X) (i : ℕ) where
  next : (zs : List X) (z : X) → i < length zs → z ≡ get_or zs i z → drop i zs ≡ z ∷ drop (i + 1) zs
  next zs z lt is = rw add-one (drop-cons zs i z lt ∙ ap (λ w. w ∷ drop (suc i) zs) (sym is))

  pub next_same : (x y : X) → i < length xs → i < length ys → x ≡ get_or xs i x → y ≡ get_or ys i y → x ≡ y → (drop i xs ≡ drop i ys → xs ≡ ys) → drop (i + 1) xs ≡ drop (i + 1) ys → xs ≡ ys
  next_same x y ltx lty isx isy same whole rest = whole (next xs x ltx isx ∙ ap (λ z. z ∷ drop (i + 1) xs) same ∙ ap (λ zs. y ∷ zs) rest ∙ sym (next ys y lty isy))

  pub end_same : length xs ≤ i → length ys ≤ i → (drop i xs ≡ drop i ys → xs ≡ ys) → xs ≡ ys
  end_same pastx pasty whole = whole (drop_all i xs pastx ∙ sym (drop_all i ys pasty))
