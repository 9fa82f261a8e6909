-- What a call adds to a list that it extends.
use Rattle.std.specs.Prelude.{◌≡◌, ◌++◌, List}
use Rattle.std.specs.List.{AllZip}

-- behind the items that were there, one for each of some others, in this relation to it
pub record Adds {X Y : Type 0} (R : X → Y → Type 0) (xs : List X) (old new : List Y) : Type 0 where
  pub added : List Y
  pub are : new ≡ old ++ added
  pub each : AllZip R xs added
