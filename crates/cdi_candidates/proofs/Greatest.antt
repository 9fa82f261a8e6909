-- Some bean has the greatest priority of some that all have one.
use Rattle.std.proofs.Common.{◌≡◌, ◌∙◌, ℕ, ℤ, ◌||◌, ◌⊎◌, inl, inr, Bool, true, false, cond, List, [], ◌∷◌, filter, Option, Some, None, refl, sym, ap}
use Rattle.std.proofs.lemmas.Bool.{true≢false, and_parts}
use Rattle.std.proofs.lemmas.Cmp.{int_eq_equiv}
use Rattle.std.specs.Int.{int_max}
use Rattle.std.specs.List.{list_any}
use Rattle.std.specs.Prelude.{fold, int_lt, is_some}
use Rattle.cdi_beans.specs.declared.bean.Bean.{Bean}
use Rattle.cdi_resolve.specs.Filters.{has_priority, is_priority}
use Rattle.cdi_resolve.specs.Resolution.{all_have_priority, greater, greatest_priority, with_greatest, highest}

module _ {X : Type 0} (p : X → Bool) where
  pub none_left : (xs : List X) → list_any p xs ≡ false → filter p xs ≡ []
  none_left [] e = refl
  none_left (x ∷ xs) e = by (p x) e (none_left xs)
    where
      by : (b : Bool) → (b || list_any p xs) ≡ false → (list_any p xs ≡ false → filter p xs ≡ []) → cond b (x ∷ filter p xs) (filter p xs) ≡ []
      by true h more = absurd (true≢false h)
      by false h more = more h

  pub some_left : (xs : List X) → list_any p xs ≡ true → filter p xs ≡ [] → ⊥
  some_left [] e none = true≢false (sym e)
  some_left (x ∷ xs) e none = by (p x) e none (some_left xs)
    where
      by : (b : Bool) → (b || list_any p xs) ≡ true → cond b (x ∷ filter p xs) (filter p xs) ≡ [] → (list_any p xs ≡ true → filter p xs ≡ [] → ⊥) → ⊥
      by true h none more = absurd cc
      by false h none more = more h none

pub is_own : (p : ℤ) → is_priority p (Some p) ≡ true
is_own p = int_eq_equiv.refl p

one_of : (p q m : ℤ) (b : Bool) → Some (cond b p q) ≡ Some m → (Some p ≡ Some m) ⊎ (Some q ≡ Some m)
one_of p q m true e = inl e
one_of p q m false e = inr e

-- the greater is one of the two
greater_one : (p q : Option ℤ) (m : ℤ) → greater p q ≡ Some m → (p ≡ Some m) ⊎ (q ≡ Some m)
greater_one None q m e = inr e
greater_one (Some p) None m e = inl e
greater_one (Some p) (Some q) m e = one_of p q m (int_lt q p) e

abbrev has : ℤ → ℕ × Bean → Bool
has m b = has_priority m b.1

either_way : (a b : Bool) → b ≡ true → (a || b) ≡ true
either_way true b e = refl
either_way false b e = e

reached : (p : Option ℤ) (beans : List (ℕ × Bean)) (m : ℤ) → fold (λ p b. greater p b.1.priority) p beans ≡ Some m
    → (p ≡ Some m) ⊎ (list_any (has m) beans ≡ true)
reached p [] m e = inl e
reached p (b ∷ bs) m e = by (reached (greater p b.1.priority) bs m e)
  where
    first : (p ≡ Some m) ⊎ (b.1.priority ≡ Some m) → (p ≡ Some m) ⊎ (list_any (has m) (b ∷ bs) ≡ true)
    first (inl h) = inl h
    first (inr h) = inr (ap (λ q. is_priority m q || list_any (has m) bs) h ∙ ap (λ t. t || list_any (has m) bs) (is_own m))

    by : (greater p b.1.priority ≡ Some m) ⊎ (list_any (has m) bs ≡ true) → (p ≡ Some m) ⊎ (list_any (has m) (b ∷ bs) ≡ true)
    by (inl h) = first (greater_one p b.1.priority m h)
    by (inr h) = inr (either_way (has m b) (list_any (has m) bs) h)

-- what is greater than a priority is one
stays : (p : ℤ) (beans : List (ℕ × Bean)) → fold (λ p b. greater p b.1.priority) (Some p) beans ≡ None → ⊥
stays p [] e = absurd cc
stays p (b ∷ bs) e = by (λ m. stays m bs) b.1.priority e
  where
    by : ((m : ℤ) → fold (λ p b. greater p b.1.priority) (Some m) bs ≡ None → ⊥) → (q : Option ℤ)
        → fold (λ p b. greater p b.1.priority) (greater (Some p) q) bs ≡ None → ⊥
    by more None h = more p h
    by more (Some q) h = more (int_max p q) h

-- of beans that all have a priority, some have the highest
pub highest_some : (b : ℕ × Bean) (bs : List (ℕ × Bean)) → all_have_priority (b ∷ bs) ≡ true → highest (b ∷ bs) ≡ [] → ⊥
highest_some b bs all none = by (greatest_priority (b ∷ bs)) refl none
  where
    first : (q : Option ℤ) → is_some q ≡ true → fold (λ p b. greater p b.1.priority) q bs ≡ None → ⊥
    first None h e = true≢false (sym h)
    first (Some q) h e = stays q bs e

    found : (m : ℤ) → (None ≡ Some m) ⊎ (list_any (has m) (b ∷ bs) ≡ true) → filter (has m) (b ∷ bs) ≡ [] → ⊥
    found m (inl h) empty = absurd cc
    found m (inr h) empty = some_left (has m) (b ∷ bs) h empty

    by : (q : Option ℤ) → greatest_priority (b ∷ bs) ≡ q → with_greatest q (b ∷ bs) ≡ [] → ⊥
    by None e empty = first b.1.priority (and_parts (is_some b.1.priority) (all_have_priority bs) all).0 e
    by (Some m) e empty = found m (reached None (b ∷ bs) m e) empty
