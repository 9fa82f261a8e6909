-- What stands in lists that are made of others.
use Rattle.std.proofs.Common.{◌≡◌, ◌∙◌, zero, suc, List, [], ◌∷◌, ◌++◌, map, Option, Some, None, ◌⊎◌, inl, inr, refl, ap, arith}
use Rattle.std.specs.Prelude.{Contains}
use Rattle.std.specs.List.{filter_map, cons_option}

module _ {X : Type 0} where
  pub further : (x y : X) (xs : List X) → Contains xs y → Contains (x ∷ xs) y
  further x y xs (k, lt, is) = (suc k, omega arith, is)

  pub in_either : (xs ys : List X) (z : X) → Contains (xs ++ ys) z → Contains xs z ⊎ Contains ys z
  in_either [] ys z c = inr c
  in_either (x ∷ xs) ys z (zero, lt, is) = inl (zero, omega arith, is)
  in_either (x ∷ xs) ys z (suc k, lt, is) = by (in_either xs ys z (k, omega arith, is))
    where
      by : Contains xs z ⊎ Contains ys z → Contains (x ∷ xs) z ⊎ Contains ys z
      by (inl c) = inl (further x z xs c)
      by (inr c) = inr c

module _ {X Y : Type 0} where
  -- an item with its image
  pub record Found (f : X → Option Y) (xs : List X) (y : Y) : Type 0 where
    pub item : X
    pub there : Contains xs item
    pub is : f item ≡ Some y

  pub found_in : (f : X → Option Y) (xs : List X) (y : Y) → Contains (filter_map f xs) y → Found f xs y
  found_in f [] y (k, lt, is) = absurd (omega arith)
  found_in f (x ∷ xs) y c = by (f x) refl c (found_in f xs y)
    where
      by : (o : Option Y) → f x ≡ o → Contains (cons_option o (filter_map f xs)) y → (Contains (filter_map f xs) y → Found f xs y) → Found f (x ∷ xs) y
      by None h c more = let found = more c in record { item = found.item; there = further x found.item xs found.there; is = found.is }
      by (Some z) h (zero, lt, is) more = record { item = x; there = (zero, omega arith, refl); is = h ∙ ap (λ w. Some w) is }
      by (Some z) h (suc k, lt, is) more = let found = more (k, omega arith, is) in record { item = found.item; there = further x found.item xs found.there; is = found.is }

  pub stands_in : (f : X → Option Y) (xs : List X) (x : X) (y : Y) → Contains xs x → f x ≡ Some y → Contains (filter_map f xs) y
  stands_in f [] x y (k, lt, is) e = absurd (omega arith)
  stands_in f (w ∷ xs) x y (zero, lt, is) e = by (f w) (ap f is ∙ e)
    where
      by : (o : Option Y) → o ≡ Some y → Contains (cons_option o (filter_map f xs)) y
      by None h = absurd cc
      by (Some z) h = (zero, omega arith, let same : z ≡ y = cc in same)
  stands_in f (w ∷ xs) x y (suc k, lt, is) e = by (f w) (stands_in f xs x y (k, omega arith, is) e)
    where
      by : (o : Option Y) → Contains (filter_map f xs) y → Contains (cons_option o (filter_map f xs)) y
      by None c = c
      by (Some z) c = further z y (filter_map f xs) c

  pub record Image (f : X → Y) (xs : List X) (y : Y) : Type 0 where
    pub item : X
    pub there : Contains xs item
    pub is : f item ≡ y

  pub image_in : (f : X → Y) (xs : List X) (y : Y) → Contains (map f xs) y → Image f xs y
  image_in f [] y (k, lt, is) = absurd (omega arith)
  image_in f (x ∷ xs) y (zero, lt, is) = record { item = x; there = (zero, omega arith, refl); is = is }
  image_in f (x ∷ xs) y (suc k, lt, is) = let found = image_in f xs y (k, omega arith, is) in record { item = found.item; there = further x found.item xs found.there; is = found.is }
