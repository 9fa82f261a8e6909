use Rattle.std.proofs.Common.{◌≡◌, ◌++◌, string_bytes, take}
use Rattle.cdi_pictures.specs.Problems as spec
use Rattle.cdi_pictures.proofs.problems.add_problems.Given as goal

abbrev pub invariant-loop-problem : goal.invariant-loop-problem
invariant-loop-problem l =
    string_bytes l.text ≡ string_bytes l.initial.text
    ++ spec.problems_text l.names (take l.problem-index l.problems)
