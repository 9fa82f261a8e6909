use Rattle.std.proofs.Common.{◌≡◌, ℕ, nat_eq, take}
use Rattle.std.specs.HashMap.{get}
use Rattle.cdi_enable.specs.Enablement.{bean_of_class}
use Rattle.cdi_enable.proofs.class_places.places_of.Given as goal

abbrev pub invariant-loop-place : goal.invariant-loop-place
invariant-loop-place l = (class : ℕ) → get nat_eq l.places class ≡ bean_of_class (take l.place l.classes) class
