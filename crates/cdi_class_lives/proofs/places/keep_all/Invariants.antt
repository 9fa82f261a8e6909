use Rattle.std.proofs.Common.{ℕ, ◌≡◌, ◌++◌, List, map, Some, slice_get}
use Rattle.cdi_class_lives.proofs.places.keep_all.Given as goal

abbrev pub invariant-loop-item : goal.invariant-loop-item
invariant-loop-item g l =
    record {
      kept : l.kept ≡ l.initial.kept ++ l.yielded;
      added : List ℕ;
      places : l.places ≡ l.initial.places ++ added;
      told : map (slice_get l.kept) added ≡ map Some l.yielded;
    }
