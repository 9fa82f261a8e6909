use Rattle.std.proofs.Common.{◌≡◌, ◌++◌, string_bytes, take}
use Rattle.cdi_problems.specs.Elements.{element_of}
use Rattle.cdi_problem_hints.specs.Sentences as spec
use Rattle.cdi_problem_hints.proofs.sentence.add_sentences.Given as goal

abbrev pub invariant-loop-used : goal.invariant-loop-used
invariant-loop-used l =
    string_bytes l.hint ≡ string_bytes l.initial.hint
    ++ spec.sentences l.deployment (element_of l.element) (take l.used-index l.unknown)
