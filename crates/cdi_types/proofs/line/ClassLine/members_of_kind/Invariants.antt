use Rattle.std.proofs.Common.{◌≡◌, ◌<◌, ℕ, map, drop, reverse}
use Rattle.std.specs.List.{list_any}
use Rattle.cdi_types.specs.Kinds.{of_kind}
use Rattle.cdi_types.specs.Members.{declares, members_of}
use Rattle.cdi_types.specs.NameSet.{has}
use Rattle.cdi_types.proofs.line.ClassLine.members_of_kind.Given as goal

-- the names of the classes that were looked at matter only where there are classes above
abbrev pub invariant-loop-place : goal.invariant-loop-place
invariant-loop-place l = record {
  below : 0 < l.place → (name : ℕ) → has l.below name ≡ list_any (declares name) (map (λ c. c.now) (drop l.place l.classes));
  found : reverse l.found ≡ of_kind l.kind (members_of (map (λ c. c.now) (drop l.place l.classes)));
}
