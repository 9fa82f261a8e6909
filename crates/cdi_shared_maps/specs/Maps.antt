-- Maps, each as the list of its values by their keys.
use Rattle.std.specs.Prelude.{ℕ, ◌==◌, List, [], ◌∷◌, Option, Some, None, length, if◌then◌else◌, slice_index_or}
use Rattle.cdi_shared_maps.specs.declared.change.Change.{Change}

-- what contracts see of `SharedMaps`
abbrev pub Maps : Type 0
Maps = List (List (Option ℕ))

-- how many maps there are
abbrev pub count : Maps → ℕ
count maps = length maps

-- the value at a key of a map, by the map's number; none if the map has nothing there, and if there is no such map
abbrev pub value_in : Maps → ℕ → ℕ → Option ℕ
value_in maps map key = slice_index_or (slice_index_or maps map []) key None

-- the same where the map need not be given: without one there is no value
abbrev pub value_from : Maps → Option ℕ → ℕ → Option ℕ
value_from maps None key = None
value_from maps (Some map) key = value_in maps map key

-- the value at a key after changes: that of the first change there, or else what was there before
abbrev pub changed : List Change → (ℕ → Option ℕ) → ℕ → Option ℕ
changed [] before key = before key
changed (c ∷ cs) before key = if c.key == key then c.value else changed cs before key
