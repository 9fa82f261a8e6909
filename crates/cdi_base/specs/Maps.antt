-- Finite maps with numbers as keys, as lists of pairs in which each key stands once.
use Rattle.std.specs.Prelude.{ℕ, List, [], ◌∷◌, filter, not, nat_lt, ◌==◌, Option, Some, None, if◌then◌else◌}

abbrev pub Map : Type 0 → Type 0
Map X = List (ℕ × X)

module _ {X : Type 0} where
  abbrev pub at : Map X → ℕ → Option X
  at [] key = None
  at (p ∷ more) key = if key == p.0 then Some p.1 else at more key

  -- the value at a key changed, if there is one
  abbrev pub adjusted : ℕ → (X → X) → Map X → Map X
  adjusted key f [] = []
  adjusted key f (p ∷ more) = if key == p.0 then (p.0, f p.1) ∷ more else p ∷ adjusted key f more

  -- a value at a key: a key that is there keeps its place, and another goes to the end
  abbrev pub put : ℕ → X → Map X → Map X
  put key value [] = (key, value) ∷ []
  put key value (p ∷ more) = if key == p.0 then (p.0, value) ∷ more else p ∷ put key value more

  -- a value at a key of a map whose keys rise, which rise again
  abbrev pub put_in_order : ℕ → X → Map X → Map X
  put_in_order key value [] = (key, value) ∷ []
  put_in_order key value (p ∷ more) =
      if key == p.0 then (p.0, value) ∷ more else if nat_lt key p.0 then (key, value) ∷ p ∷ more
      else p ∷ put_in_order key value more

  abbrev pub without : ℕ → Map X → Map X
  without key m = filter (λ p. not (key == p.0)) m
