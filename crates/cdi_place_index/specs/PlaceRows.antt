-- Items by places.
use Rattle.std.specs.Prelude.{List, [], unwrap_or}
use Rattle.std.specs.HashMap.{get}
use Rattle.cdi_base.specs.declared.place.Place.{Place}
use Rattle.cdi_place_index.specs.declared.rows.PlaceRows.{PlaceRows}
use Rattle.cdi_problems.specs.PlaceKeys.{key_of, same_key}

-- the items at a place
abbrev pub row_at : {T : Type 0} → PlaceRows T → Place → List T
row_at rows place = unwrap_or (get same_key rows.rows (key_of place)) []
