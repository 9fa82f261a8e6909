use Rattle.std.proofs.Common.{rules, is_lt}
use Rattle.std.proofs.lemmas.Fn.{always_returns_same, dedup_same}
use Rattle.std.proofs.lemmas.List.Sorted.{ranks_by}
use Rattle.std.specs.Ordering.{eq_by_cmp}
use Rattle.cdi_quals.specs.Order.{compare_qualifiers}
use Rattle.cdi_quals.proofs.OrderedSets.{ordered_set}
use Rattle.cdi_quals.proofs.Orders.{qualifiers_total, qualifiers_apart}
use Rattle.cdi_quals.proofs.set.put_in_order.Goals as goal

pub returns : goal.returns
returns c =
    let total = qualifiers_total c.args.names.now in
    let sorted = c.in_ok-sort_by.ensures.sorted (λ a b. is_lt (compare_qualifiers c.args.names.now a b)) (ranks_by total (λ x. x)) (always_returns_same _ _ _ (λ a r f k. search rules)) in
    let kept = dedup_same _ (eq_by_cmp (compare_qualifiers c.args.names.now)) _ (λ x y b f' x' y' k. search rules) _ _ c.dedup_by.ensures.filtered in
    ordered_set total (qualifiers_apart c.args.names.now) _ _ _ c.sort_by.ensures.permutation sorted kept
