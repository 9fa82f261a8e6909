use Rattle.std.proofs.Common.{◌≡◌, ◌++◌, string_bytes, take}
use Rattle.std.specs.List.{flat_map}
use Rattle.std.specs.Option.{option_copied}
use Rattle.cdi_problems.specs.Elements.{shown}
use Rattle.cdi_problem_hints.specs.Hints as spec
use Rattle.cdi_problem_hints.proofs.hint.add_each.Given as goal

abbrev pub invariant-loop-element : goal.invariant-loop-element
invariant-loop-element l =
    string_bytes l.hint ≡ string_bytes l.initial.hint
    ++ flat_map (spec.details l.subject.deployment.now (option_copied l.subject.tables) l.kind) (shown (take l.element-index l.elements))
