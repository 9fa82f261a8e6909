-- The set of the items of a list.
use Rattle.std.specs.Prelude.{List, Contains, ◌↔◌}
use Rattle.std.specs.List.Sorted.{IsStrictlySortedBy}
use Rattle.std.specs.declared.cmp.Ordering.{Ordering}

-- the given items, each once, in an order
pub record IsOrderedSet {X : Type 0} (order : X → X → Ordering) (given set : List X) : Type 0 where
  pub rising : IsStrictlySortedBy order set
  pub same : (x : X) → Contains set x ↔ Contains given x
