-- The cycle of dependent beans that need each other on which a bean stands, in words.
use Rattle.std.specs.Prelude.{ℕ, List, [], ◌∷◌, ◌++◌, codes, position, slice_get, Option, Some, None}
use Rattle.std.specs.List.{flat_map}
use Rattle.cdi_base.specs.declared.place.Place.{Place}
use Rattle.cdi_beans.specs.declared.bean.Bean.{Bean}
use Rattle.cdi_candidates.specs.Candidates.{place_of}
use Rattle.cdi_cycle_hints.specs.ToldCycle.{told_cycle}
use Rattle.cdi_problems.specs.Places.{place_text, same_place}

-- the index of the first bean that is declared at a place
abbrev pub bean_at : List Bean → Place → Option ℕ
bean_at beans place = position (λ b. same_place (place_of b) place) beans

abbrev pub cycle_at : List (List ℕ) → Option ℕ → List ℕ
cycle_at needs None = []
cycle_at needs (Some bean) = told_cycle needs bean

-- the beans on a cycle through the one at a place, by their indices, if it stands on one
abbrev pub cycle_of : List (List ℕ) → List Bean → Place → List ℕ
cycle_of needs beans place = cycle_at needs (bean_at beans place)

abbrev pub text_of : List (List ℕ) → Option Bean → List ℕ
text_of names None = []
text_of names (Some b) = place_text names (place_of b)

-- the place of the bean with an index
abbrev pub text_at : List (List ℕ) → List Bean → ℕ → List ℕ
text_at names beans index = text_of names (slice_get beans index)

abbrev pub first_text : List (List ℕ) → List Bean → ℕ → List ℕ
first_text names beans index = codes "; the cycle is " ++ text_at names beans index

abbrev pub other_text : List (List ℕ) → List Bean → ℕ → List ℕ
other_text names beans index = codes ", " ++ text_at names beans index

abbrev pub others_text : List (List ℕ) → List Bean → List ℕ → List ℕ
others_text names beans indices = flat_map (other_text names beans) indices

abbrev pub beans_text : List (List ℕ) → List Bean → List ℕ → List ℕ
beans_text names beans [] = []
beans_text names beans (first ∷ others) =
    first_text names beans first ++ others_text names beans others

-- the places of the beans on that cycle
abbrev pub cycle_text : List (List ℕ) → List Bean → List (List ℕ) → Place → List ℕ
cycle_text names beans needs place = beans_text names beans (cycle_of needs beans place)
