use Rattle.std.proofs.Common.{◌≡◌, ℕ, nat_eq, take}
use Rattle.std.specs.HashMap.{get}
use Rattle.cdi_types.specs.Nodes.{place_of}
use Rattle.cdi_types.proofs.index.TypeIndex.build.Given as goal

abbrev pub invariant-loop-place : goal.invariant-loop-place
invariant-loop-place l = (name : ℕ) → get nat_eq l.places name ≡ place_of (take l.place l.types) name
