use Rattle.std.proofs.Common.{◌≡◌, ◌++◌, drop}
use Rattle.cdi_report.specs.Reports.{problem_lines}
use Rattle.cdi_report.proofs.problem_lines.write_problems.Given as goal

abbrev pub invariant-loop-problem : goal.invariant-loop-problem
invariant-loop-problem l = l.lines.items ++ problem_lines l.names (drop l.problem-index l.problems) ≡ problem_lines l.names l.problems
