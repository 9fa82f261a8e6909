-- An ordered set of given items is determined by these.
use Rattle.std.proofs.Common.{◌≡◌, ◌∙◌, ◌⊎◌, inl, inr, zero, suc, List, [], ◌∷◌, refl, sym, ap, subst, arith, Ordering, Less, Equal, Greater}
use Rattle.std.proofs.lemmas.Cmp.{tied_itself}
use Rattle.std.proofs.lemmas.List.Elements.{All-contains, All-from_recursion}
use Rattle.std.proofs.lemmas.Map.Keys.{sorted_head, sorted_tail}
use Rattle.std.specs.Cmp.{IsTotalOrder}
use Rattle.std.specs.FinMap.{IsAntisymmetric}
use Rattle.std.specs.List.{AllByRecursion, Contains}
use Rattle.std.specs.List.Sorted.{IsStrictlySortedBy}
use Rattle.std.specs.Ordering.{ordering_reverse}
use Rattle.cdi_quals.specs.OrderedSet.{IsOrderedSet}

pub in_front : {X : Type 0} (y : X) (ys : List X) (x : X) → Contains (y ∷ ys) x → (y ≡ x) ⊎ Contains ys x
in_front y ys x (zero, lt, e) = inl e
in_front y ys x (suc k, lt, e) = inr (k, omega (arith, lt), e)

pub behind : {X : Type 0} (y : X) (ys : List X) (x : X) → Contains ys x → Contains (y ∷ ys) x
behind y ys x (k, lt, e) = (suc k, omega (arith, lt), e)

-- only equal ones of these tie
abbrev pub AreApart : {X : Type 0} → (X → X → Ordering) → (X → Type 0) → Type 0
AreApart {X} R P = (x y : X) → P x → P y → R x y ≡ Equal → x ≡ y

module _ {X : Type 0} {R : X → X → Ordering} {P : X → Type 0} (total : IsTotalOrder R) (apart : AreApart R P) where
  not_less : (x : X) → R x x ≡ Less → ⊥
  not_less x e = by (sym e ∙ tied_itself total x)
    where
      by : Less ≡ Equal → ⊥
      by h = cc

  -- what is below the first item of a list in order isn't in it
  not_there : (x y : X) (ys : List X) → IsStrictlySortedBy R (y ∷ ys) → R x y ≡ Less → Contains (y ∷ ys) x → ⊥
  not_there x y ys rising less there =
      not_less x (All-contains (λ z. R x z ≡ Less) (y ∷ ys) x (All-from_recursion (λ z. R x z ≡ Less) (y ∷ ys) (less, above ys (sorted_head R y ys rising))) there)
    where
      above : (zs : List X) → AllByRecursion (λ z. R y z ≡ Less) zs → AllByRecursion (λ z. R x z ≡ Less) zs
      above [] h = tt
      above (z ∷ zs) h = (total.trans x y z less h.0, above zs h.1)

  greater : (x y : X) → R x y ≡ Greater → R y x ≡ Less
  greater x y e = total.antisymm y x ∙ ap ordering_reverse e

  -- all of the first tail is in the second
  tail_in : (x : X) (xs : List X) (y : X) (ys : List X) → x ≡ y → IsStrictlySortedBy R (x ∷ xs) → ((z : X) → Contains (x ∷ xs) z → Contains (y ∷ ys) z) → (z : X) → Contains xs z → Contains ys z
  tail_in x xs y ys same rising sub z there = by (in_front y ys z (sub z (behind x xs z there)))
    where
      by : (y ≡ z) ⊎ Contains ys z → Contains ys z
      by (inl e) =
          let less : R x z ≡ Less = All-contains (λ z. R x z ≡ Less) xs z (All-from_recursion (λ z. R x z ≡ Less) xs (sorted_head R x xs rising)) there in
          absurd (not_less x (subst (λ w. R x w ≡ Less) (sym (same ∙ e)) less))
      by (inr h) = h

  same_sorted : (xs ys : List X) → IsStrictlySortedBy R xs → IsStrictlySortedBy R ys → ((x : X) → Contains xs x → P x) → ((y : X) → Contains ys y → P y) → ((x : X) → Contains xs x → Contains ys x) → ((x : X) → Contains ys x → Contains xs x) → xs ≡ ys
  same_sorted [] [] a b p q sub sup = refl
  same_sorted [] (y ∷ ys) a b p q sub sup = absurd (none (sup y (zero, omega arith, refl)))
    where
      none : Contains [] y → ⊥
      none (k, lt, e) = omega (arith, lt)
  same_sorted (x ∷ xs) [] a b p q sub sup = absurd (none (sub x (zero, omega arith, refl)))
    where
      none : Contains [] x → ⊥
      none (k, lt, e) = omega (arith, lt)
  same_sorted (x ∷ xs) (y ∷ ys) a b p q sub sup =
      by (R x y) refl λ head.
      same_sorted xs ys (sorted_tail R x xs a) (sorted_tail R y ys b) (λ z there. p z (behind x xs z there)) (λ z there. q z (behind y ys z there))
      (tail_in x xs y ys head a sub) (tail_in y ys x xs (sym head) b sup)
    where
      by : (o : Ordering) → R x y ≡ o → (x ≡ y → xs ≡ ys) → x ∷ xs ≡ y ∷ ys
      by Less e rest = absurd (not_there x y ys b e (sub x (zero, omega arith, refl)))
      by Greater e rest = absurd (not_there y x xs a (greater x y e) (sup y (zero, omega arith, refl)))
      by Equal e rest =
          let head : x ≡ y = apart x y (p x (zero, omega arith, refl)) (q y (zero, omega arith, refl)) e in
          let tail : xs ≡ ys = rest head in
          λ i. head i ∷ tail i

  pub one_set_of : (given set other : List X) → ((x : X) → Contains given x → P x) → IsOrderedSet R given set → IsOrderedSet R given other → set ≡ other
  one_set_of given set other p a b =
      same_sorted set other a.rising b.rising (λ x there. p x ((a.same x).0 there)) (λ x there. p x ((b.same x).0 there))
      (λ x there. (b.same x).1 ((a.same x).0 there)) (λ x there. (a.same x).1 ((b.same x).0 there))

pub one_set : {X : Type 0} {R : X → X → Ordering} → IsTotalOrder R → IsAntisymmetric R → (given set other : List X) → IsOrderedSet R given set → IsOrderedSet R given other → set ≡ other
one_set total apart given set other a b = one_set_of {P = λ x. Unit {0}} total (λ x y p q e. apart x y e) given set other (λ x there. tt) a b
