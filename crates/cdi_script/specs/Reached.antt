-- The step that a script reaches.
use Rattle.std.specs.Prelude.{◌≡◌, List, [], ◌∷◌, Bool, true, false, not, fold, if◌then◌else◌}
use Rattle.cdi_base.specs.declared.act.Answer.{Answer}
use Rattle.cdi_bodies.specs.Answers.{threw}
use Rattle.cdi_script.specs.declared.step.Step.{Step}

-- a catch step where one is wanted, and else a step that is none
abbrev pub is_wanted : Bool → Step → Bool
is_wanted true step = step.is_catch
is_wanted false step = not step.is_catch

-- the steps from the next that is wanted on
abbrev pub from_next : Bool → List Step → List Step
from_next catches [] = []
from_next catches (step ∷ steps) =
    if is_wanted catches step then step ∷ steps else from_next catches steps

-- the steps behind the first
abbrev pub passed : List Step → List Step
passed [] = []
passed (step ∷ steps) = steps

-- an answer passes the step that it answers; after an exception the next catch is wanted
abbrev pub after_answer : List Step → Answer → List Step
after_answer left answer = from_next (threw answer) (passed left)

-- the steps from the one reached on, after these answers: no step is passed twice
abbrev pub reached : List Step → List Answer → List Step
reached steps answers = fold after_answer (from_next false steps) answers

-- these answers lead to the end: no step is left
abbrev pub HasEnded : List Step → List Answer → Type 0
HasEnded steps answers = reached steps answers ≡ []
