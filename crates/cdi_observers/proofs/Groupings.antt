-- Groups of any items that have a priority and an index.
use Rattle.std.proofs.Common.{◌≡◌, ◌≢◌, ◌∙◌, ℕ, ℤ, Bool, true, false, cond, List, [], ◌∷◌, map, filter, refl, sym, subst, inl, inr, arith}
use Rattle.std.proofs.lemmas.Bool.{true≢false}
use Rattle.std.proofs.lemmas.Bool.Decides.{Decides-int_eq}
use Rattle.std.proofs.lemmas.List.Elements.{Contains-append_right}
use Rattle.std.specs.List.{AllByRecursion, Contains}
use Rattle.std.specs.Ordering.{int_cmp, int_eq}
use Rattle.cdi_quals.specs.OrderedSet.{IsOrderedSet}
use Rattle.cdi_types.proofs.Listed.{not_in_none, first_or_later}
use Rattle.cdi_observers.specs.declared.group.ObserverGroup.{ObserverGroup}

pub record AreGroupsBy {X : Type 0} (priority : X → ℤ) (index : X → ℕ) (items : List X) (groups : List ObserverGroup) : Type 0 where
  pub priorities : IsOrderedSet int_cmp (map priority items) (map (λ g. g.priority) groups)
  pub each : AllByRecursion (λ g. g.observers ≡ map index (filter (λ x. int_eq (priority x) g.priority) items)) groups

module _ {X : Type 0} (priority : X → ℤ) (index : X → ℕ) where
  -- the indices of the items of a priority
  abbrev pub with_priority : List X → ℤ → List ℕ
  with_priority items p = map index (filter (λ x. int_eq (priority x) p) items)

  -- where an item has the priority, the list isn't empty
  pub not_empty : (items : List X) (p : ℤ) → Contains (map priority items) p → with_priority items p ≢ []
  not_empty [] p there none = not_in_none [] p refl there
  not_empty (x ∷ xs) p there none = by (int_eq (priority x) p) refl none (not_empty xs p)
    where
      by : (b : Bool) → int_eq (priority x) p ≡ b → map index (cond b (x ∷ filter (λ y. int_eq (priority y) p) xs) (filter (λ y. int_eq (priority y) p) xs)) ≡ [] → (Contains (map priority xs) p → with_priority xs p ≢ []) → ⊥
      by true is e rest = absurd cc
      by false is e rest =
          elim (first_or_later (priority x) (map priority xs) p there) [
            | inl same ↦ true≢false (sym ((Decides-int_eq (priority x) p).1 same) ∙ is)
            | inr later ↦ rest later e
          ]

  -- and where the list isn't empty, an item has it
  pub has_priority : (items : List X) (p : ℤ) → with_priority items p ≢ [] → Contains (map priority items) p
  has_priority [] p some = absurd (some refl)
  has_priority (x ∷ xs) p some = by (int_eq (priority x) p) refl some (has_priority xs p)
    where
      by : (b : Bool) → int_eq (priority x) p ≡ b → map index (cond b (x ∷ filter (λ y. int_eq (priority y) p) xs) (filter (λ y. int_eq (priority y) p) xs)) ≢ [] → (with_priority xs p ≢ [] → Contains (map priority xs) p)
          → Contains (map priority (x ∷ xs)) p
      by true is h rest =
          let P : ℤ → Type 0 = λ q. Contains (map priority (x ∷ xs)) q in
          subst P ((Decides-int_eq (priority x) p).0 is) (0, omega arith, refl)
      by false is h rest = Contains-append_right (priority x ∷ []) (map priority xs) p (rest h)

-- the groups hang on the indices of each priority alone
module _ {X Y : Type 0} (px : X → ℤ) (ix : X → ℕ) (py : Y → ℤ) (iy : Y → ℕ) (xs : List X) (ys : List Y) (same : (p : ℤ) → with_priority px ix xs p ≡ with_priority py iy ys p) where
  each_other : (groups : List ObserverGroup) → AllByRecursion (λ g. g.observers ≡ with_priority px ix xs g.priority) groups → AllByRecursion (λ g. g.observers ≡ with_priority py iy ys g.priority) groups
  each_other [] all = tt
  each_other (g ∷ gs) all = (all.0 ∙ same g.priority, each_other gs all.1)

  pub groups_of_others : {groups : List ObserverGroup} → AreGroupsBy px ix xs groups → AreGroupsBy py iy ys groups
  groups_of_others {groups} are = record {
    priorities = record {
      rising = are.priorities.rising;
      same = λ p. (
        λ there. has_priority py iy ys p (λ none. not_empty px ix xs p ((are.priorities.same p).0 there) (same p ∙ none)),
        λ there. (are.priorities.same p).1 (has_priority px ix xs p (λ none. not_empty py iy ys p there (sym (same p) ∙ none))),
      );
    };
    each = each_other groups are.each;
  }
