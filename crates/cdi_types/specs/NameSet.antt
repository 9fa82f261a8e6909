-- The names in a dense set.
use Rattle.std.specs.Prelude.{ℕ, Bool}
use Rattle.cdi_paths.specs.BitRow.{has_bit}
use Rattle.cdi_types.specs.declared.name_set.NameSet.{NameSet}

-- a name is in the set if the bit of its number is set
abbrev pub has : NameSet → ℕ → Bool
has names name = has_bit names.words.items name
