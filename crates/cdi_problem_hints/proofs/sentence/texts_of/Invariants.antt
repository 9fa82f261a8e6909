use Rattle.std.proofs.Common.{◌≡◌, map, take}
use Rattle.cdi_problems.specs.Places.{name_text}
use Rattle.cdi_problem_hints.proofs.sentence.texts_of.Given as goal

abbrev pub invariant-loop-name : goal.invariant-loop-name
invariant-loop-name l =
    map (λ text. text.now) l.texts.items ≡ map (name_text l.names) (take l.name-index l.known)
