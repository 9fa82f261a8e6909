use Rattle.std.proofs.Common.{◌≡◌, ◌++◌, take}
use Rattle.cdi_problem_hints.proofs.left.add_places.Given as goal

abbrev pub invariant-loop-place : goal.invariant-loop-place
invariant-loop-place l = l.places ≡ l.initial.places ++ take l.place-index l.left
