use Rattle.std.proofs.Common.{◌≡◌, ◌++◌, take}
use Rattle.cdi_problems.specs.Words as words
use Rattle.cdi_name_check.proofs.problems.add_problems.Given as goal

abbrev pub invariant-loop-place : goal.invariant-loop-place
invariant-loop-place l = l.problems ≡ l.initial.problems ++ words.problems_at l.kind (take l.place-index l.places)
