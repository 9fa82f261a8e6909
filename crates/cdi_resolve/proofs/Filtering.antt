-- A filter behind a filter.
use Rattle.std.proofs.Common.{◌≡◌, ◌∙◌, ◌&&◌, Bool, true, false, List, [], ◌∷◌, filter, cond, refl, ap}

module _ {X : Type 0} (p q : X → Bool) where
  one : (a b : Bool) (x : X) (xs ys : List X) → q x ≡ b → filter q xs ≡ ys → filter q (cond a (x ∷ xs) xs) ≡ cond (a && b) (x ∷ ys) ys
  one true b x xs ys e is = ap (λ c. cond c (x ∷ filter q xs) (filter q xs)) e ∙ ap (λ zs. cond b (x ∷ zs) zs) is
  one false b x xs ys e is = is

  pub filter_both : (xs : List X) → filter q (filter p xs) ≡ filter (λ x. p x && q x) xs
  filter_both [] = refl
  filter_both (x ∷ xs) = one (p x) (q x) x (filter p xs) (filter (λ y. p y && q y) xs) refl (filter_both xs)
