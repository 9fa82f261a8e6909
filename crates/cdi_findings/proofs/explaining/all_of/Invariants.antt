use Rattle.std.proofs.Common.{◌≡◌, string_bytes, take}
use Rattle.cdi_findings.specs.Explanation as spec
use Rattle.cdi_findings.proofs.explaining.all_of.Given as goal

abbrev pub invariant-loop-explanation : goal.invariant-loop-explanation
invariant-loop-explanation l =
    string_bytes l.text ≡ spec.texts_of l.word (take l.explanation-index l.explanations)
