-- The slots of requests or sessions by their names.
use Rattle.std.specs.Prelude.{◌≡◌, ℕ, List, Option, None, bytes_eq, if◌then◌else◌}
use Rattle.std.specs.HashMap.{get_by_text}
use Rattle.cdi_store.specs.declared.name_index.NameIndex.{NameIndex}

-- the slot of a name, if it has one
abbrev pub slot_of : NameIndex → List ℕ → Option ℕ
slot_of index name = get_by_text index.slots name

-- no name has a slot
abbrev pub PointsNowhere : NameIndex → Type 0
PointsNowhere index = (name : List ℕ) → slot_of index name ≡ None

-- the name has this slot, or none, and the others have theirs
abbrev pub Points : List ℕ → Option ℕ → NameIndex → NameIndex → Type 0
Points name slot old new =
    (other : List ℕ) → slot_of new other ≡ (if bytes_eq name other then slot else slot_of old other)

-- each name has its slot
abbrev pub PointsAlike : NameIndex → NameIndex → Type 0
PointsAlike old new = (name : List ℕ) → slot_of new name ≡ slot_of old name
