-- Which of a body's answers are exceptions.
use Rattle.std.specs.Prelude.{ℕ, ◌+◌, Bool, true, false, List, [], ◌∷◌, if◌then◌else◌}
use Rattle.cdi_base.specs.declared.act.Answer.{Answer}
use Rattle.cdi_base.specs.declared.act.Answer.TheVariants.{Threw}

abbrev pub threw : Answer → Bool
threw (Threw exception text) = true
threw _ = false

-- the places of those that are exceptions, where the first one stands at this place
abbrev pub exceptions_from : ℕ → List Answer → List ℕ
exceptions_from place [] = []
exceptions_from place (answer ∷ answers) =
    if threw answer then place ∷ exceptions_from (place + 1) answers
    else exceptions_from (place + 1) answers
