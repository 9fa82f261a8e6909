-- Items put into a list in order, one after another, make the set of them.
use Rattle.std.proofs.Common.{◌≡◌, ◌∙◌, ◌⊎◌, inl, inr, List, [], ◌∷◌, refl, sym, ap, subst, Ordering, Less, Equal, Greater}
use Rattle.std.specs.Cmp.{IsTotalOrder}
use Rattle.std.specs.FinMap.{IsAntisymmetric}
use Rattle.std.specs.List.{AllByRecursion}
use Rattle.std.specs.List.Sorted.{IsStrictlySortedBy}
use Rattle.std.specs.Ordering.{ordering_reverse}
use Rattle.cdi_quals.specs.OrderedSet.{IsOrderedSet}
use Rattle.cdi_event_tables.proofs.Among.{Among, among_contains, contains_among}

module _ {X : Type 0} (R : X → X → Ordering) where
  abbrev pub placed : Ordering → X → X → List X → List X → List X
  placed Less q r more rest = q ∷ r ∷ more
  placed Equal q r more rest = r ∷ more
  placed Greater q r more rest = r ∷ rest

  -- an item goes before the first one that it is below, unless it is there
  abbrev pub inserted : X → List X → List X
  inserted q [] = q ∷ []
  inserted q (r ∷ more) = placed (R q r) q r more (inserted q more)

  abbrev pub in_order : List X → List X
  in_order [] = []
  in_order (q ∷ more) = inserted q (in_order more)

  all_inserted : (P : X → Type 0) (q : X) (ys : List X) → P q → AllByRecursion P ys → AllByRecursion P (inserted q ys)
  all_inserted P q [] p all = (p, tt)
  all_inserted P q (r ∷ more) p all = by (R q r) (all_inserted P q more p all.1)
    where
      by : (o : Ordering) → AllByRecursion P (inserted q more) → AllByRecursion P (placed o q r more (inserted q more))
      by Less rest = (p, all)
      by Equal rest = all
      by Greater rest = (all.0, rest)

  module _ (total : IsTotalOrder R) (apart : IsAntisymmetric R) where
    above : (q r : X) (ys : List X) → R q r ≡ Less → AllByRecursion (λ y. R r y ≡ Less) ys → AllByRecursion (λ y. R q y ≡ Less) ys
    above q r [] less all = tt
    above q r (y ∷ ys) less all = (total.trans q r y less all.0, above q r ys less all.1)

    pub insertion_rises : (q : X) (ys : List X) → IsStrictlySortedBy R ys → IsStrictlySortedBy R (inserted q ys)
    unfolding IsStrictlySortedBy
    insertion_rises q [] up = (tt, tt)
    insertion_rises q (r ∷ more) up = by (R q r) refl (insertion_rises q more up.1)
      where
        by : (o : Ordering) → R q r ≡ o → IsStrictlySortedBy R (inserted q more) → IsStrictlySortedBy R (placed o q r more (inserted q more))
        by Less e rest = ((e, above q r more e up.0), up)
        by Equal e rest = up
        by Greater e rest = (all_inserted (λ y. R r y ≡ Less) q more (total.antisymm r q ∙ ap ordering_reverse e) up.0, rest)

    pub new_or_old : (q : X) (ys : List X) (x : X) → Among x (inserted q ys) → (x ≡ q) ⊎ Among x ys
    new_or_old q [] x (inl e) = inl e
    new_or_old q [] x (inr never) = absurd never
    new_or_old q (r ∷ more) x a = by (R q r) (new_or_old q more x) a
      where
        later : (x ≡ q) ⊎ Among x more → (x ≡ q) ⊎ Among x (r ∷ more)
        later (inl e) = inl e
        later (inr b) = inr (inr b)

        by : (o : Ordering) → (Among x (inserted q more) → (x ≡ q) ⊎ Among x more) → Among x (placed o q r more (inserted q more)) → (x ≡ q) ⊎ Among x (r ∷ more)
        by Less rest (inl e) = inl e
        by Less rest (inr b) = inr b
        by Equal rest b = inr b
        by Greater rest (inl e) = inr (inl e)
        by Greater rest (inr b) = later (rest b)

    new_stands : (q : X) (ys : List X) → Among q (inserted q ys)
    new_stands q [] = inl refl
    new_stands q (r ∷ more) = by (R q r) refl (new_stands q more)
      where
        by : (o : Ordering) → R q r ≡ o → Among q (inserted q more) → Among q (placed o q r more (inserted q more))
        by Less e rest = inl refl
        by Equal e rest = inl (apart q r e)
        by Greater e rest = inr rest

    old_stands : (q : X) (ys : List X) (x : X) → Among x ys → Among x (inserted q ys)
    old_stands q [] x a = absurd a
    old_stands q (r ∷ more) x a = by (R q r) (old_stands q more x) a
      where
        by : (o : Ordering) → (Among x more → Among x (inserted q more)) → Among x (r ∷ more) → Among x (placed o q r more (inserted q more))
        by Less rest b = inr b
        by Equal rest b = b
        by Greater rest (inl e) = inl e
        by Greater rest (inr b) = inr (rest b)

    pub order_rises : (xs : List X) → IsStrictlySortedBy R (in_order xs)
    unfolding IsStrictlySortedBy
    order_rises [] = tt
    order_rises (x ∷ xs) = insertion_rises x (in_order xs) (order_rises xs)

    pub from_order : (xs : List X) (x : X) → Among x (in_order xs) → Among x xs
    from_order [] x a = a
    from_order (y ∷ ys) x a = by (from_order ys x) (new_or_old y (in_order ys) x a)
      where
        by : (Among x (in_order ys) → Among x ys) → (x ≡ y) ⊎ Among x (in_order ys) → Among x (y ∷ ys)
        by rest (inl e) = inl e
        by rest (inr b) = inr (rest b)

    pub to_order : (xs : List X) (x : X) → Among x xs → Among x (in_order xs)
    to_order [] x a = a
    to_order (y ∷ ys) x (inl e) = let P : X → Type 0 = λ z. Among z (inserted y (in_order ys)) in subst P (sym e) (new_stands y (in_order ys))
    to_order (y ∷ ys) x (inr a) = old_stands y (in_order ys) x (to_order ys x a)

    pub ordered_set : (xs : List X) → IsOrderedSet R xs (in_order xs)
    ordered_set xs =
        record {
          rising = order_rises xs;
          same = λ x. (
            λ h. among_contains xs x (from_order xs x (contains_among (in_order xs) x h)),
            λ h. among_contains (in_order xs) x (to_order xs x (contains_among xs x h)),
          );
        }
