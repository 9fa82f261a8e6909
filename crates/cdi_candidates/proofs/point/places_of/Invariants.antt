use Rattle.std.proofs.Common.{◌≡◌, map, take}
use Rattle.cdi_candidates.specs.Candidates as spec
use Rattle.cdi_candidates.proofs.point.places_of.Given as goal

abbrev pub invariant-loop-bean : goal.invariant-loop-bean
invariant-loop-bean l = l.places ≡ map (λ b. spec.place_of b.1) (take l.bean-index l.beans)
