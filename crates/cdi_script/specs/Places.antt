-- How a script keeps where its steps stand.
use Rattle.std.specs.Prelude.{ℕ, ◌+◌, ◌≡◌, Bool, List, [], ◌∷◌, if◌then◌else◌}
use Rattle.cdi_script.specs.Reached.{is_wanted}
use Rattle.cdi_script.specs.declared.places.Places.{Places}
use Rattle.cdi_script.specs.declared.step.Step.{Step}

-- the places of the catch steps, or those of the others, where the first step stands at this place
abbrev pub places_from : Bool → ℕ → List Step → List ℕ
places_from catches place [] = []
places_from catches place (step ∷ steps) =
    if is_wanted catches step then place ∷ places_from catches (place + 1) steps
    else places_from catches (place + 1) steps

-- how many of them stand before each step and before the end, where so many stand before the first
abbrev pub counts_from : Bool → ℕ → List Step → List ℕ
counts_from catches count [] = count ∷ []
counts_from catches count (step ∷ steps) =
    if is_wanted catches step then count ∷ counts_from catches (count + 1) steps
    else count ∷ counts_from catches count steps

pub record ArePlaces (catches : Bool) (steps : List Step) (p : Places) : Type 0 where
  pub places : p.places ≡ places_from catches 0 steps
  pub before : p.before ≡ counts_from catches 0 steps
