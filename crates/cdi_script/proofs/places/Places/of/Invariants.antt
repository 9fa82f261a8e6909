use Rattle.std.proofs.Common.{◌≡◌, ◌++◌, drop, length}
use Rattle.cdi_script.specs.Places as spec
use Rattle.cdi_script.proofs.places.Places.of.Given as goal

abbrev pub invariant-loop-place : goal.invariant-loop-place
invariant-loop-place l =
    (l.places ++ spec.places_from l.catches l.place (drop l.place l.steps) ≡ spec.places_from l.catches 0 l.steps)
    × (l.before ++ spec.counts_from l.catches (length l.places) (drop l.place l.steps) ≡ spec.counts_from l.catches 0 l.steps)
