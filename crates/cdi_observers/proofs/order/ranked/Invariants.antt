use Rattle.std.proofs.Common.{◌≡◌, ◌++◌, drop, map}
use Rattle.std.specs.List.{enumerate_from}
use Rattle.cdi_observers.specs.Order.{ranked}
use Rattle.cdi_observers.proofs.order.ranked.Given as goal

abbrev pub invariant-loop-index : goal.invariant-loop-index
invariant-loop-index l = l.ranked.items ++ map ranked (enumerate_from l.index (drop l.index l.observers)) ≡ map ranked (enumerate_from 0 l.observers)
