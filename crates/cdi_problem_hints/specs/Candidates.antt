-- The beans that an ambiguous point leaves, in words.
use Rattle.std.specs.Prelude.{ℕ, ◌-◌, List, [], ◌∷◌, ◌++◌, codes, decimal, length, min, take, nat_eq, if◌then◌else◌}
use Rattle.std.specs.List.{flat_map}
use Rattle.cdi_base.specs.declared.place.Place.{Place}
use Rattle.cdi_problems.specs.Places.{place_text}

abbrev pub first_text : List (List ℕ) → Place → List ℕ
first_text names place = codes "; candidates are " ++ place_text names place

abbrev pub other_text : List (List ℕ) → Place → List ℕ
other_text names place = codes ", " ++ place_text names place

abbrev pub others_text : List (List ℕ) → List Place → List ℕ
others_text names places = flat_map (other_text names) places

abbrev pub told_text : List (List ℕ) → List Place → List ℕ
told_text names [] = []
told_text names (a ∷ places) = first_text names a ++ others_text names places

-- so many more aren't told
abbrev pub rest_text : ℕ → List ℕ
rest_text count =
    if nat_eq count 0 then [] else codes " and " ++ (decimal count ++ codes " more")

-- how many are told: 16 at most
abbrev pub told : List Place → ℕ
told places = min (length places) 16

abbrev pub several_text : List (List ℕ) → List Place → List ℕ
several_text names places =
    told_text names (take (told places) places) ++ rest_text (length places - told places)

-- their places, if they are several
abbrev pub candidates_text : List (List ℕ) → List Place → List ℕ
candidates_text names [] = []
candidates_text names (a ∷ []) = []
candidates_text names (a ∷ b ∷ places) = several_text names (a ∷ b ∷ places)
