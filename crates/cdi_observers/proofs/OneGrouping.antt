-- Items have one list of groups, and none of them is empty.
use Rattle.std.proofs.Common.{◌≡◌, ◌≢◌, ◌∙◌, ℕ, ℤ, List, [], ◌∷◌, map, refl, sym, ap, arith}
use Rattle.std.proofs.lemmas.List.Elements.{Contains-append_right}
use Rattle.std.specs.List.{AllByRecursion, Contains}
use Rattle.cdi_observers.specs.declared.group.ObserverGroup.{ObserverGroup}
use Rattle.cdi_observers.proofs.Groupings.{AreGroupsBy, with_priority, not_empty}
use Rattle.cdi_observers.proofs.Rising.{same_rising}

heads : (p q : ℤ) (ps qs : List ℤ) → p ∷ ps ≡ q ∷ qs → (p ≡ q) × (ps ≡ qs)
heads p q ps qs e = (cc, cc)

group_of : ℤ → List ℕ → ObserverGroup
group_of p indices = record { priority = p; observers = indices }

same_group : (f : ℤ → List ℕ) (g h : ObserverGroup) → g.priority ≡ h.priority → g.observers ≡ f g.priority → h.observers ≡ f h.priority → g ≡ h
unfolding group_of
same_group f g h e is is' = ap (λ p. group_of p g.observers) e ∙ ap (group_of h.priority) (is ∙ ap f e ∙ sym is')

same_list : (f : ℤ → List ℕ) (gs hs : List ObserverGroup) → map (λ g. g.priority) gs ≡ map (λ g. g.priority) hs → AllByRecursion (λ g. g.observers ≡ f g.priority) gs → AllByRecursion (λ g. g.observers ≡ f g.priority) hs → gs ≡ hs
same_list f [] [] e all all' = refl
same_list f [] (h ∷ hs) e all all' = absurd cc
same_list f (g ∷ gs) [] e all all' = absurd cc
same_list f (g ∷ gs) (h ∷ hs) e all all' =
    let apart = heads g.priority h.priority (map (λ (k : ObserverGroup). k.priority) gs) (map (λ (k : ObserverGroup). k.priority) hs) e in
    ap (λ k. k ∷ gs) (same_group f g h apart.0 all.0 all'.0) ∙ ap (λ ks. h ∷ ks) (same_list f gs hs apart.1 all.1 all'.1)

module _ {X : Type 0} (priority : X → ℤ) (index : X → ℕ) (items : List X) where
  pub one_grouping : (gs hs : List ObserverGroup) → AreGroupsBy priority index items gs → AreGroupsBy priority index items hs → gs ≡ hs
  one_grouping gs hs are are' =
      let same = same_rising (map (λ (g : ObserverGroup). g.priority) gs) (map (λ (g : ObserverGroup). g.priority) hs) are.priorities.rising are'.priorities.rising (λ p there. (are'.priorities.same p).1 ((are.priorities.same p).0 there)) (λ p there. (are.priorities.same p).1 ((are'.priorities.same p).0 there)) in
      same_list (with_priority priority index items) gs hs same are.each are'.each

  some_in_each : (gs : List ObserverGroup) → AllByRecursion (λ g. g.observers ≡ with_priority priority index items g.priority) gs → ((p : ℤ) → Contains (map (λ g. g.priority) gs) p → Contains (map priority items) p) → AllByRecursion (λ g. g.observers ≢ []) gs
  some_in_each [] all had = tt
  some_in_each (g ∷ gs) all had = (
    λ none. not_empty priority index items g.priority (had g.priority (0, omega arith, refl)) (sym all.0 ∙ none),
    some_in_each gs all.1 (λ p there. had p (Contains-append_right (g.priority ∷ []) (map (λ (k : ObserverGroup). k.priority) gs) p there)),
  )

  pub no_empty_group : (gs : List ObserverGroup) → AreGroupsBy priority index items gs → AllByRecursion (λ g. g.observers ≢ []) gs
  no_empty_group gs are = some_in_each gs are.each (λ p there. (are.priorities.same p).0 there)
