-- Interceptors with their indices, sorted by their priorities.
use Rattle.std.proofs.Common.{◌≡◌, ◌∙◌, ℕ, ◌+◌, ◌<◌, false, cond, List, [], ◌∷◌, filter, refl, ap, subst, arith, nat_cmp, Ordering, Less, Equal, Greater}
use Rattle.std.proofs.lemmas.Bool.Decides.{nat_tests}
use Rattle.std.proofs.lemmas.Cmp.{on_total, nat_cmp_total, int_cmp_total}
use Rattle.std.proofs.lemmas.List.Kept.{IsStrictlySortedBy-dedup, IsStrictlySortedBy-filter}
use Rattle.std.proofs.lemmas.List.Sorted.{Contains-permutation, IsPermutation-sym}
use Rattle.std.proofs.lemmas.Map.Keys.{IsDistinct-from_sorted, IsDistinct-IsPermutation}
use Rattle.std.specs.Cmp.{IsTotalOrder, then_total}
use Rattle.std.specs.Cmp.Lexicographic.{options_total}
use Rattle.std.specs.List.{AllByRecursion, IsDistinct, enumerate_from, dedup, dedup_from}
use Rattle.std.specs.List.Sorted.{IsPermutation, IsSorted, IsStrictlySortedBy}
use Rattle.std.specs.Option.{option_cmp}
use Rattle.std.specs.Ordering.{eq_by_cmp, is_eq, int_cmp, on, ordering_then}
use Rattle.cdi_deployment.specs.declared.deployment.Interceptor.{Interceptor}
use Rattle.cdi_quals.specs.OrderedSet.{IsOrderedSet}
use Rattle.cdi_beans.specs.Interceptors.{Indexed, has_priority, compare_priorities}

by_index : Indexed → Indexed → Ordering
by_index = on (λ (p : Indexed). p.0) nat_cmp

pub priorities_total : IsTotalOrder compare_priorities
priorities_total =
    then_total (on_total (λ (p : Indexed). p.1.priority) (options_total int_cmp_total)) (on_total (λ (p : Indexed). p.0) nat_cmp_total)

less : (m n : ℕ) → m < n → nat_cmp m n ≡ Less
less m n lt = grind (arith, nat_tests)

all_later : (m n : ℕ) (x : Interceptor) (js : List Interceptor) → m < n → AllByRecursion (λ y. by_index (m, x) y ≡ Less) (enumerate_from n js)
unfolding by_index
all_later m n x [] lt = tt
all_later m n x (j ∷ js) lt = (less m n lt, all_later m (n + 1) x js (omega (arith, lt)))

rising : (n : ℕ) (js : List Interceptor) → IsStrictlySortedBy by_index (enumerate_from n js)
unfolding IsStrictlySortedBy
rising n [] = tt
rising n (j ∷ js) = (all_later n (n + 1) j js (omega arith), rising (n + 1) js)

tied : (o : Ordering) → is_eq o ≡ false → (first : Ordering) → is_eq (ordering_then first o) ≡ false
tied o e Less = refl
tied o e Equal = e
tied o e Greater = refl

-- apart by their indices, apart in the order
apart : (x y : Indexed) → eq_by_cmp by_index x y ≡ false → eq_by_cmp compare_priorities x y ≡ false
unfolding by_index
apart x y e = tied (nat_cmp x.0 y.0) e (option_cmp int_cmp x.1.priority y.1.priority)

index_flips : (x y : Indexed) → eq_by_cmp by_index x y ≡ eq_by_cmp by_index y x
unfolding by_index
index_flips x y = flips x.0 y.0
  where
    flips : (m n : ℕ) → is_eq (nat_cmp m n) ≡ is_eq (nat_cmp n m)
    flips m n = grind (arith, nat_tests)

-- nothing is dropped where no two are tied
kept_from : (k : Indexed) (xs : List Indexed) → IsDistinct (eq_by_cmp by_index) (k ∷ xs) → dedup_from (eq_by_cmp compare_priorities) k xs ≡ k ∷ xs
unfolding IsDistinct
kept_from k [] e = refl
kept_from k (x ∷ xs) e =
    let flipped : eq_by_cmp compare_priorities x k ≡ false = apart x k (index_flips x k ∙ e.0.0) in
    ap (λ b. cond b (dedup_from (eq_by_cmp compare_priorities) k xs) (k ∷ dedup_from (eq_by_cmp compare_priorities) x xs)) flipped ∙ ap (λ ys. k ∷ ys) (kept_from x xs e.1)

all_kept : (xs : List Indexed) → IsDistinct (eq_by_cmp by_index) xs → dedup (eq_by_cmp compare_priorities) xs ≡ xs
all_kept [] e = refl
all_kept (x ∷ xs) e = kept_from x xs e

pub ordered : (js : List Interceptor) (sorted : List Indexed) → IsPermutation (filter has_priority (enumerate_from 0 js)) sorted → IsSorted compare_priorities sorted
    → IsOrderedSet compare_priorities (filter has_priority (enumerate_from 0 js)) sorted
ordered js sorted moved is =
    let given = filter has_priority (enumerate_from 0 js) in
    let distinct = IsDistinct-from_sorted by_index given (IsStrictlySortedBy-filter by_index has_priority (enumerate_from 0 js) (rising 0 js)) in
    let whole = all_kept sorted (IsDistinct-IsPermutation (eq_by_cmp by_index) index_flips given sorted moved distinct) in
    let P : List Indexed → Type 0 = IsStrictlySortedBy compare_priorities in
    record {
      rising = subst P whole (IsStrictlySortedBy-dedup priorities_total (λ x y. refl) sorted is);
      same = λ x. (
        λ h. Contains-permutation sorted given x (IsPermutation-sym given sorted moved) h,
        λ h. Contains-permutation given sorted x moved h,
      );
    }
