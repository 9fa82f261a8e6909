-- What the index of the types tells.
use Rattle.std.specs.Prelude.{ℕ, Option, nat_eq}
use Rattle.std.specs.HashMap.{get}
use Rattle.cdi_types.specs.declared.index.TypeIndex.{TypeIndex}

abbrev pub place_in : TypeIndex → ℕ → Option ℕ
place_in index name = get nat_eq index.places name
