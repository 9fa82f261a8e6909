use Rattle.std.proofs.Common.{string_bytes, take}
use Rattle.cdi_problem_hints.specs.Subjects.{subject_of}
use Rattle.cdi_program.specs.Advice as spec
use Rattle.cdi_program.proofs.advising.hint_lines.Given as goal

abbrev pub invariant-loop-problem : goal.invariant-loop-problem
invariant-loop-problem l =
    spec.AreHintLines l.file l.bytes (subject_of l.subject) (take l.problem-index l.problems)
    (string_bytes l.lines)
