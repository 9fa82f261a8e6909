-- Lists of things that have names.
use Rattle.std.specs.Prelude.{◌≡◌, ℕ, ◌∷◌, [], List, not, filter, bytes_eq, Option, Some, None, if◌then◌else◌}

module _ {X : Type 0} (name_of : X → List ℕ) where
  -- the thing of a name
  abbrev pub named : List X → List ℕ → Option X
  named [] name = None
  named (x ∷ more) name = if bytes_eq (name_of x) name then Some x else named more name

  -- the thing of a name changed
  abbrev pub changed : List ℕ → (X → X) → List X → List X
  changed name f [] = []
  changed name f (x ∷ more) =
      if bytes_eq (name_of x) name then f x ∷ more else x ∷ changed name f more

  abbrev pub without_name : List ℕ → List X → List X
  without_name name xs = filter (λ x. not (bytes_eq (name_of x) name)) xs

  -- no two have one name
  abbrev pub HaveOwnNames : List X → Type 0
  HaveOwnNames [] = Unit {0}
  HaveOwnNames (x ∷ more) = (named more (name_of x) ≡ None) × HaveOwnNames more
