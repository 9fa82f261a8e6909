use Rattle.std.proofs.Common.{◌≡◌, ℕ, nat_eq, position, take}
use Rattle.std.specs.HashMap.{get}
use Rattle.cdi_shape_check.proofs.injected.places_of.Given as goal

abbrev pub invariant-loop-place : goal.invariant-loop-place
invariant-loop-place l = (name : ℕ) → get nat_eq l.places name ≡ position (λ f. nat_eq f.name name) (take l.place l.fields)
