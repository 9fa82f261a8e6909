-- What sorting observers by their priorities gives.
use Rattle.std.proofs.Common.{◌≡◌, ◌∙◌, ℕ, zero, suc, ℤ, ◌<◌, ◌≤◌, Bool, true, false, not, ◌&&◌, cond, List, [], ◌∷◌, length, map, filter, get_or, Less, Equal, Greater, is_lt, refl, sym, arith}
use Rattle.std.proofs.lemmas.Bool.{true≢false}
use Rattle.std.proofs.lemmas.Cmp.{int_cmp_total}
use Rattle.std.proofs.lemmas.List.Elements.{recursion_from_All}
use Rattle.std.proofs.lemmas.List.Sorted.{ranks_by, sorted_far}
use Rattle.std.specs.List.{enumerate_from}
use Rattle.std.specs.List.Sorted.{IsSortedByKey, IsStableByKey, ties}
use Rattle.std.specs.Ordering.{int_cmp, int_eq, is_eq}
use Rattle.std.specs.Prelude.{int_lt}
use Rattle.cdi_beans.specs.declared.bean.ObserverMethod.{ObserverMethod}
use Rattle.cdi_observers.specs.Order.{ranked, IsAscending, IsOrderOf}
use Rattle.cdi_observers.specs.declared.order.RankedObserver.{RankedObserver}
use Rattle.cdi_observers.proofs.Those.{same_filter}

not_lt : (p q : ℤ) → is_lt (int_cmp p q) ≡ false → int_lt p q ≡ false
not_lt p q e = by (int_lt p q) (int_lt q p) e
  where
    by : (b c : Bool) → is_lt (cond b Less (cond c Greater Equal)) ≡ false → b ≡ false
    by true c e = absurd (true≢false e)
    by false c e = refl

ascending : (rs : List RankedObserver) → ((i j : ℕ) (d : RankedObserver) → i ≤ j → j < length rs → is_lt (int_cmp (get_or rs j d).priority (get_or rs i d).priority) ≡ false) → IsAscending rs
ascending [] far = tt
ascending (r ∷ rs) far = (
  recursion_from_All (λ s. int_lt s.priority r.priority ≡ false) rs (λ k d lt. not_lt (get_or rs k d).priority r.priority (far zero (suc k) d (omega arith) (omega (arith, lt)))),
  ascending rs (λ i j d le lt. far (suc i) (suc j) d (omega (arith, le)) (omega (arith, lt))),
)

-- what ties with a priority has it
tied : (p q : ℤ) → (not (is_lt (int_cmp p q)) && not (is_lt (int_cmp q p))) ≡ int_eq q p
tied p q = by (int_lt p q) (int_lt q p)
  where
    by : (b c : Bool) → (not (is_lt (cond b Less (cond c Greater Equal))) && not (is_lt (cond c Less (cond b Greater Equal)))) ≡ is_eq (cond c Less (cond b Greater Equal))
    by true true = refl
    by true false = refl
    by false true = refl
    by false false = refl

pub sorted_order : (observers : List ObserverMethod) (order : List RankedObserver) → IsSortedByKey (λ r. r.priority) int_cmp order → IsStableByKey (λ r. r.priority) int_cmp (map ranked (enumerate_from 0 observers)) order → IsOrderOf observers order
sorted_order observers order sorted stable =
    let lt : RankedObserver → RankedObserver → Bool = λ r s. is_lt (int_cmp r.priority s.priority) in
    let base : List RankedObserver = map ranked (enumerate_from 0 observers) in
    let same : (p : ℤ) (rs : List RankedObserver) → filter (ties lt (record { priority = p; index = 0 })) rs ≡ filter (λ r. int_eq r.priority p) rs = λ p rs. same_filter (ties lt (record { priority = p; index = 0 })) (λ r. int_eq r.priority p) (λ r. tied p r.priority) rs in
    record {
      ascending = ascending order (sorted_far lt (ranks_by int_cmp_total (λ (r : RankedObserver). r.priority)) order sorted);
      stable = λ p. sym (same p order) ∙ stable (record { priority = p; index = 0 }) ∙ same p base;
    }
