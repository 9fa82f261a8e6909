use Rattle.std.proofs.Common.{List, rules, subst}
use Rattle.std.proofs.lemmas.Fn.{always_returns_same}
use Rattle.std.specs.List.Sorted.{IsStableByKey}
use Rattle.std.specs.Ordering.{int_cmp}
use Rattle.cdi_observers.specs.declared.order.RankedObserver.{RankedObserver}
use Rattle.cdi_observers.proofs.Sorting.{sorted_order}
use Rattle.cdi_observers.proofs.order.order_of.Goals as goal

pub returns : goal.returns
returns c =
    let sorted = c.in_ok-sort_by_key.ensures.sorted (λ r. r.priority) (always_returns_same _ _ _ (λ a r f k. search rules)) in
    let stable = c.sort_by_key.ensures.stable (λ r. r.priority) (always_returns_same _ _ _ (λ a r f k. search rules)) in
    let P : List RankedObserver → Type 0 = λ base. IsStableByKey (λ r. r.priority) int_cmp base c.sort_by_key.new.self.items in
    rw c.new.ensures (sorted_order c.args.observers.now c.sort_by_key.new.self.items sorted (subst P c.in_ok-order.ensures stable))
