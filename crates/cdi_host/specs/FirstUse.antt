-- What takes memory from its first use on.
use Rattle.std.specs.Prelude.{List, [], Option, Some, None}

module _ {X : Type 0} where
  -- a list that isn't there yet is empty
  abbrev pub or_empty : Option (List X) → List X
  or_empty None = []
  or_empty (Some xs) = xs
