use Rattle.std.proofs.Common.{◌≡◌, drop, fold}
use Rattle.cdi_problems.specs.PlaceKeys.{HasPlaces}
use Rattle.cdi_problems.specs.Places.{with_place, once}
use Rattle.cdi_problems.proofs.distinct.once.Given as goal

abbrev pub invariant-loop-place : goal.invariant-loop-place
invariant-loop-place l = record {
  known : HasPlaces l.listed l.known;
  left : fold with_place l.listed (drop l.place-index l.places) ≡ once l.places;
}
