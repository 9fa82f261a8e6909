-- Sorting and dropping repeats gives the set of a list.
use Rattle.std.proofs.Common.{◌≡◌, true, List, sym, subst, refl, Ordering, Less, Equal, Greater}
use Rattle.std.proofs.lemmas.Cmp.{eq_by_cmp_equiv}
use Rattle.std.proofs.lemmas.List.Kept.{IsStrictlySortedBy-dedup, Contains-dedup, Contains-from_dedup}
use Rattle.std.proofs.lemmas.List.Sorted.{Contains-permutation, IsPermutation-sym}
use Rattle.std.specs.Cmp.{IsTotalOrder}
use Rattle.std.specs.FinMap.{IsAntisymmetric}
use Rattle.std.specs.List.{dedup}
use Rattle.std.specs.List.Sorted.{IsPermutation, IsSorted}
use Rattle.std.specs.Ordering.{eq_by_cmp, is_eq}
use Rattle.cdi_quals.specs.OrderedSet.{IsOrderedSet}

equal : (o : Ordering) → is_eq o ≡ true → o ≡ Equal
equal Less e = absurd cc
equal Equal e = refl
equal Greater e = absurd cc

pub ordered_set : {X : Type 0} {R : X → X → Ordering} → IsTotalOrder R → IsAntisymmetric R → (given sorted set : List X) → IsPermutation given sorted → IsSorted R sorted → set ≡ dedup (eq_by_cmp R) sorted → IsOrderedSet R given set
ordered_set {X} {R} total apart given sorted set moved rising is =
    let P : List X → Type 0 = IsOrderedSet R given in
    subst P (sym is) (
    record {
      rising = IsStrictlySortedBy-dedup total (λ x y. refl) sorted rising;
      same = λ x. (
        λ h. Contains-permutation sorted given x (IsPermutation-sym given sorted moved) (Contains-from_dedup (eq_by_cmp R) sorted x h),
        λ h. Contains-dedup (eq_by_cmp_equiv total) (λ a b e. apart a b (equal (R a b) e)) sorted x (Contains-permutation given sorted x moved h),
      );
    }
    )
