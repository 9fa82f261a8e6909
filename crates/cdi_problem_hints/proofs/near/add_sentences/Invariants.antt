use Rattle.std.proofs.Common.{◌≡◌, ◌++◌, string_bytes, take}
use Rattle.cdi_problem_hints.specs.Near as spec
use Rattle.cdi_problem_hints.proofs.near.add_sentences.Given as goal

abbrev pub invariant-loop-bean : goal.invariant-loop-bean
invariant-loop-bean l =
    string_bytes l.hint ≡ string_bytes l.initial.hint ++ spec.near_sentences l.names (take l.bean-index l.near)
