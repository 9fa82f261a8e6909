-- Whether some items pass, of two tests and of two lists.
use Rattle.std.proofs.Common.{◌≡◌, ◌∙◌, ◌||◌, Bool, true, false, List, [], ◌∷◌, refl, ap, sym}
use Rattle.std.specs.List.{list_any}

-- one that passes one of two tests
pub any_of_two : {X : Type 0} (p q : X → Bool) (xs : List X) → list_any (λ x. p x || q x) xs ≡ (list_any p xs || list_any q xs)
any_of_two p q [] = refl
any_of_two p q (x ∷ xs) = by (p x) (q x) (any_of_two p q xs)
  where
    by : (a b : Bool) → list_any (λ y. p y || q y) xs ≡ (list_any p xs || list_any q xs) → ((a || b) || list_any (λ y. p y || q y) xs) ≡ ((a || list_any p xs) || (b || list_any q xs))
    by true b e = refl
    by false false e = e
    by false true e = orders (list_any p xs)
      where
        orders : (a : Bool) → true ≡ (a || true)
        orders true = refl
        orders false = refl

-- a test that nothing passes
pub none_passes : {X : Type 0} (p : X → Bool) → ((x : X) → p x ≡ false) → (xs : List X) → list_any p xs ≡ false
none_passes p none [] = refl
none_passes p none (x ∷ xs) = ap (λ b. b || list_any p xs) (none x) ∙ none_passes p none xs

-- a pair of an item of each list, whichever list is gone over first
pub either_first : {X Y : Type 0} (r : X → Y → Bool) (xs : List X) (ys : List Y) → list_any (λ x. list_any (r x) ys) xs ≡ list_any (λ y. list_any (λ x. r x y) xs) ys
either_first r [] ys = sym (none_passes (λ y. false) (λ y. refl) ys)
either_first r (x ∷ xs) ys = ap (λ t. list_any (r x) ys || t) (either_first r xs ys) ∙ sym (any_of_two (r x) (λ y. list_any (λ z. r z y) xs) ys)

-- one of some that are left is looked at
pub one_moved : (p left seen : Bool) → (left || (p || seen)) ≡ ((p || left) || seen)
one_moved true true seen = refl
one_moved true false seen = refl
one_moved false left seen = refl
