-- Items with their indices, and one item more.
use Rattle.std.proofs.Common.{◌≡◌, ◌∙◌, ℕ, ◌+◌, ◌<◌, ◌≤◌, List, [], ◌∷◌, ◌++◌, length, take, get_or, sym, ap, arith}
use Rattle.std.proofs.lemmas.List.{take_more, flat_map_more, length-take-le}
use Rattle.std.specs.List.{flat_map, enumerate_from}

module _ {X : Type 0} where
  enumerate_from-push : (n : ℕ) (xs : List X) (x : X) → enumerate_from n (xs ++ x ∷ []) ≡ enumerate_from n xs ++ (n + length xs, x) ∷ []
  enumerate_from-push n [] x = let is : n ≡ n + 0 = omega arith in ap (λ k. (k, x) ∷ []) is
  enumerate_from-push n (y ∷ ys) x =
      let is : n + 1 + length ys ≡ n + length (y ∷ ys) = omega arith in
      ap (λ zs. (n, y) ∷ zs) (enumerate_from-push (n + 1) ys x ∙ ap (λ k. enumerate_from (n + 1) ys ++ (k, x) ∷ []) is)

  -- a loop over a list with indices reads the next item
  numbered_more : (xs : List X) (i : ℕ) (x : X) → i < length xs → x ≡ get_or xs i x → enumerate_from 0 (take i xs) ++ (i, x) ∷ [] ≡ enumerate_from 0 (take (i + 1) xs)
  numbered_more xs i x lt is =
      let below_it : i ≤ length xs = omega (arith, lt) in
      let number : i ≡ 0 + length (take i xs) = omega (arith, length-take-le i xs below_it) in
      ap (λ k. enumerate_from 0 (take i xs) ++ (k, x) ∷ []) number ∙ sym (enumerate_from-push 0 (take i xs) x) ∙ ap (λ y. enumerate_from 0 (take i xs ++ y ∷ [])) is ∙ ap (λ ys. enumerate_from 0 ys) (sym (take_more xs i x lt))

  pub next_numbered : {Y : Type 0} (f : ℕ × X → List Y) (xs : List X) (i : ℕ) (x : X) (before : List Y) → i < length xs → x ≡ get_or xs i x → (before ++ flat_map f (enumerate_from 0 (take i xs))) ++ f (i, x) ≡ before ++ flat_map f (enumerate_from 0 (take (i + 1) xs))
  next_numbered f xs i x before lt is = flat_map_more f before (enumerate_from 0 (take i xs)) (i, x) ∙ ap (λ zs. before ++ flat_map f zs) (numbered_more xs i x lt is)
