use Rattle.std.proofs.Common.{◌≡◌, ◌++◌, drop}
use Rattle.cdi_problems.specs.Words.{problems_at}
use Rattle.cdi_problems.proofs.problem.add_problems_at.Given as goal

abbrev pub invariant-loop-place : goal.invariant-loop-place
invariant-loop-place l = l.problems ++ problems_at l.kind (drop l.place-index l.places) ≡ l.initial.problems ++ problems_at l.kind l.places
