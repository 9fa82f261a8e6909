-- Tests over the images of a list's items, one after the other.
use Rattle.std.proofs.Common.{◌≡◌, ◌∙◌, ◌&&◌, ℕ, ◌+◌, ◌<◌, Bool, true, false, List, length, map, drop, get_or, sym, ap}
use Rattle.std.specs.List.{list_all}
use Rattle.cdi_quals.proofs.Pairs.{next}

module _ {X Y : Type 0} (p : Y → Bool) (f : X → Y) (xs : List X) (i : ℕ) (x : X) (lt : i < length xs) (is : x ≡ get_or xs i x) (all : Bool) where
  first : (b : Bool) → p (f x) ≡ b → list_all p (map f (drop i xs)) ≡ (b && list_all p (map f (drop (i + 1) xs)))
  first b e = ap (λ ys. list_all p (map f ys)) (next xs i x lt is) ∙ ap (λ b. b && list_all p (map f (drop (i + 1) xs))) e

  -- an item that passes
  pub passes : p (f x) ≡ true → list_all p (map f (drop i xs)) ≡ all → list_all p (map f (drop (i + 1) xs)) ≡ all
  passes e so_far = sym (first true e) ∙ so_far

  -- one that fails
  pub fails : p (f x) ≡ false → list_all p (map f (drop i xs)) ≡ all → false ≡ all
  fails e so_far = sym (first false e) ∙ so_far
