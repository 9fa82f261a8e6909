-- How long a list is that was made from another.
use Rattle.std.proofs.Common.{◌≤◌, List, [], ◌∷◌, length, filter, Option, Some, None, Bool, true, false, cond, arith}
use Rattle.std.specs.List.{cons_option, filter_map}

module _ {X : Type 0} where
  -- no more is kept than there is
  pub filter_no_longer : (p : X → Bool) (xs : List X) → length (filter p xs) ≤ length xs
  filter_no_longer p [] = omega arith
  filter_no_longer p (x ∷ xs) = by (p x) (filter_no_longer p xs)
    where
      by : (b : Bool) → length (filter p xs) ≤ length xs
          → length (cond b (x ∷ filter p xs) (filter p xs)) ≤ length (x ∷ xs)
      by true h = omega (arith, h)
      by false h = omega (arith, h)

  -- no more is given than is asked for
  pub filter_map_no_longer : {Y : Type 0} (h : X → Option Y) (xs : List X)
      → length (filter_map h xs) ≤ length xs
  filter_map_no_longer h [] = omega arith
  filter_map_no_longer h (x ∷ xs) = by (h x) (filter_map_no_longer h xs)
    where
      by : (o : Option _) → length (filter_map h xs) ≤ length xs
          → length (cons_option o (filter_map h xs)) ≤ length (x ∷ xs)
      by None h = omega (arith, h)
      by (Some y) h = omega (arith, h)
