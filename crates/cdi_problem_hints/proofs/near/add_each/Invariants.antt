use Rattle.std.proofs.Common.{◌≡◌, ◌++◌, string_bytes, take}
use Rattle.std.specs.Option.{option_copied}
use Rattle.cdi_problem_hints.specs.Near as spec
use Rattle.cdi_problem_hints.proofs.near.add_each.Given as goal

abbrev pub invariant-loop-point : goal.invariant-loop-point
invariant-loop-point l =
    string_bytes l.hint ≡ string_bytes l.initial.hint
    ++ spec.unsatisfied_texts l.subject.deployment.now (option_copied l.subject.tables) (take l.point-index l.points)
