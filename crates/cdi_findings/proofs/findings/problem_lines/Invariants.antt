use Rattle.std.proofs.Common.{string_bytes, take}
use Rattle.cdi_problem_hints.specs.Subjects.{subject_of}
use Rattle.cdi_findings.specs.Findings as spec
use Rattle.cdi_findings.proofs.findings.problem_lines.Given as goal

abbrev pub invariant-loop-index : goal.invariant-loop-index
invariant-loop-index l =
    spec.AreProblemLines l.bytes (subject_of l.subject) (take l.index l.problems)
    (string_bytes l.lines)
