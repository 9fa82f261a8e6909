use Rattle.std.proofs.Common.{◌≡◌, ℕ, nat_eq, length, take}
use Rattle.std.specs.List.{list_any}
use Rattle.cdi_paths.specs.BitRow.{has_bit}
use Rattle.cdi_paths.proofs.reachability.row_of.Given as goal

abbrev pub invariant-loop-target : goal.invariant-loop-target
invariant-loop-target l = record { len : length l.row ≡ l.width; bits : (b : ℕ) → has_bit l.row b ≡ list_any (nat_eq b) (take l.target-index l.targets) }
