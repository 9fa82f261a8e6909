use Rattle.std.proofs.Common.{◌≡◌, map, take}
use Rattle.cdi_findings.proofs.explaining.words_of.Given as goal

abbrev pub invariant-loop-explanation : goal.invariant-loop-explanation
invariant-loop-explanation l =
    map (λ word. word.now) l.words.items
    ≡ map (λ e. e.word.now) (take l.explanation-index l.explanations)
