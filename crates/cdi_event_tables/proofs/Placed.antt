-- An observer among the groups, by the place of the first one whose priority isn't below its own.
use Rattle.std.proofs.Common.{ℕ, ℤ, suc, ◌≡◌, ◌∙◌, ◌≤◌, Bool, true, false, cond, List, [], ◌∷◌, ◌++◌, length, set, get_or, Option, Some, None, refl, sym, ap, arith}
use Rattle.std.specs.Prelude.{int_lt, slice_get}
use Rattle.std.specs.List.{insert}
use Rattle.std.specs.Ordering.{int_eq}
use Rattle.std.proofs.lemmas.Int.{ints}
use Rattle.std.proofs.lemmas.Option.{get_or_from_slice_get}
use Rattle.cdi_event_tables.specs.Observers.{group_with, has_priority, place_of, with_planned}
use Rattle.cdi_event_tables.specs.declared.observer_groups.ObserverGroup.{ObserverGroup}
use Rattle.cdi_event_tables.specs.declared.observers.PlannedObserver.{PlannedObserver}
use Rattle.cdi_event_tables.proofs.Grouped.{equal_other, is_above, not_below, not_same_above}

module _ (p : ℤ) (o : PlannedObserver) where
  -- a group of a lower priority is passed over
  passed : (g : ObserverGroup) (more : List ObserverGroup) → int_lt g.priority p ≡ true → with_planned p o (g ∷ more) ≡ g ∷ with_planned p o more
  passed g more e =
      ap (λ b. cond b (group_with g.priority (g.observers ++ o ∷ []) ∷ more) (cond (int_lt p g.priority) (group_with p (o ∷ []) ∷ g ∷ more) (g ∷ with_planned p o more))) (not_same_above p g.priority e)
      ∙ ap (λ b. cond b (group_with p (o ∷ []) ∷ g ∷ more) (g ∷ with_planned p o more)) (not_below p g.priority e)

  -- it goes to the end of the group of its priority
  pub merged : (gs : List ObserverGroup) (g : ObserverGroup) → slice_get gs (place_of p gs) ≡ Some g → int_eq g.priority p ≡ true → set gs (place_of p gs) (group_with g.priority (g.observers ++ o ∷ [])) ≡ with_planned p o gs
  merged [] g is e = absurd cc
  merged (h ∷ more) g is e = by (int_lt h.priority p) refl is (merged more g)
    where
      x : ObserverGroup
      x = group_with g.priority (g.observers ++ o ∷ [])

      by : (b : Bool) → int_lt h.priority p ≡ b → slice_get (h ∷ more) (cond b (suc (place_of p more)) 0) ≡ Some g
          → (slice_get more (place_of p more) ≡ Some g → int_eq g.priority p ≡ true → set more (place_of p more) (group_with g.priority (g.observers ++ o ∷ [])) ≡ with_planned p o more)
          → set (h ∷ more) (cond b (suc (place_of p more)) 0) (group_with g.priority (g.observers ++ o ∷ [])) ≡ with_planned p o (h ∷ more)
      by true f there rec = ap (λ gs. h ∷ gs) (rec there e) ∙ sym (passed h more f)
      by false f there rec =
          let same : h ≡ g = cc in
          let eq : int_eq p h.priority ≡ true = equal_other p h.priority (ap (λ (k : ObserverGroup). int_eq k.priority p) same ∙ e) in
          ap (λ (k : ObserverGroup). group_with k.priority (k.observers ++ o ∷ []) ∷ more) (sym same)
          ∙ sym (ap (λ b. cond b (group_with h.priority (h.observers ++ o ∷ []) ∷ more) (cond (int_lt p h.priority) (group_with p (o ∷ []) ∷ h ∷ more) (h ∷ with_planned p o more))) eq)

  -- or a group of its own stands there
  pub inserted : (gs : List ObserverGroup) → has_priority p (slice_get gs (place_of p gs)) ≡ false → insert gs (place_of p gs) (group_with p (o ∷ [])) ≡ with_planned p o gs
  inserted [] e = refl
  inserted (h ∷ more) e = by (int_lt h.priority p) refl e (inserted more)
    where
      by : (b : Bool) → int_lt h.priority p ≡ b → has_priority p (slice_get (h ∷ more) (cond b (suc (place_of p more)) 0)) ≡ false
          → (has_priority p (slice_get more (place_of p more)) ≡ false → insert more (place_of p more) (group_with p (o ∷ [])) ≡ with_planned p o more)
          → insert (h ∷ more) (cond b (suc (place_of p more)) 0) (group_with p (o ∷ [])) ≡ with_planned p o (h ∷ more)
      by true f other rec = ap (λ gs. h ∷ gs) (rec other) ∙ sym (passed h more f)
      by false f other rec =
          sym
          (ap (λ b. cond b (group_with h.priority (h.observers ++ o ∷ []) ∷ more) (cond (int_lt p h.priority) (group_with p (o ∷ []) ∷ h ∷ more) (h ∷ with_planned p o more))) (other_way h.priority p other)
          ∙ ap (λ b. cond b (group_with p (o ∷ []) ∷ h ∷ more) (h ∷ with_planned p o more)) (is_above h.priority p other f))
        where
          other_way : (a b : ℤ) → int_eq a b ≡ false → int_eq b a ≡ false
          other_way a b e = grind (arith, ints)

-- ---- by the place that was told

module _ (p : ℤ) (o : PlannedObserver) (gs : List ObserverGroup) (n : ℕ) (is : n ≡ place_of p gs) where
  pub merged_there : (x : ObserverGroup) → x ≡ get_or gs n x → has_priority p (slice_get gs n) ≡ true → set gs n (group_with x.priority (x.observers ++ o ∷ [])) ≡ with_planned p o gs
  merged_there x read there = by (slice_get gs n) refl there
    where
      by : (g : Option ObserverGroup) → slice_get gs n ≡ g → has_priority p g ≡ true → set gs n (group_with x.priority (x.observers ++ o ∷ [])) ≡ with_planned p o gs
      by None at e = absurd cc
      by (Some g) at e =
          let same : x ≡ g = read ∙ get_or_from_slice_get gs n g x at in
          ap (λ (k : ObserverGroup). set gs n (group_with k.priority (k.observers ++ o ∷ []))) same
          ∙ ap (λ k. set gs k (group_with g.priority (g.observers ++ o ∷ []))) is
          ∙ merged p o gs g (ap (slice_get gs) (sym is) ∙ at) e

  pub inserted_there : has_priority p (slice_get gs n) ≡ false → insert gs n (group_with p (o ∷ [])) ≡ with_planned p o gs
  inserted_there other = ap (λ k. insert gs k (group_with p (o ∷ []))) is ∙ inserted p o gs (ap (λ k. has_priority p (slice_get gs k)) (sym is) ∙ other)

-- the place is within the list, or behind it
pub place_within : (p : ℤ) (gs : List ObserverGroup) → place_of p gs ≤ length gs
place_within p [] = omega arith
place_within p (g ∷ more) = by (int_lt g.priority p) (place_within p more)
  where
    by : (b : Bool) → place_of p more ≤ length more → cond b (suc (place_of p more)) 0 ≤ suc (length more)
    by true le = omega arith
    by false le = omega arith
