-- The runs of the observers that hear an event, in the order of priorities, are the groups of the event.
use Rattle.std.proofs.Common.{◌≡◌, ◌≢◌, ◌∙◌, ◌↔◌, ℕ, ℤ, ◌<◌, Bool, true, false, cond, List, [], ◌∷◌, length, map, filter, get_or, slice_get, Option, Some, refl, sym, ap, subst, ◌⊎◌, inl, inr, zero-add, arith}
use Rattle.std.proofs.lemmas.Bool.Decides.{Decides-int_eq}
use Rattle.std.proofs.lemmas.List.Elements.{All-from_recursion, recursion_from_All}
use Rattle.std.proofs.lemmas.List.FromFn.{length-enumerate_from, get_or-enumerate_from}
use Rattle.std.proofs.lemmas.Option.{slice_get-get_or}
use Rattle.std.specs.List.{AllByRecursion, Contains, enumerate_from}
use Rattle.std.specs.Option.{IsSomeAnd}
use Rattle.std.specs.Ordering.{int_eq}
use Rattle.std.specs.Prelude.{int_lt}
use Rattle.cdi_beans.specs.declared.bean.ObserverMethod.{ObserverMethod}
use Rattle.cdi_quals.specs.declared.qualifier.Qualifier.{Qualifier}
use Rattle.cdi_types.specs.ListsThose.{ListsThose}
use Rattle.cdi_observers.specs.Groups.{AreGroups, AreGroupsOf}
use Rattle.cdi_observers.specs.Observers.{ObserverTable, Hears}
use Rattle.cdi_observers.specs.Order.{ranked, IsAscending, IsOrderOf, HearsAt}
use Rattle.cdi_observers.specs.Runs.{groups_in}
use Rattle.cdi_observers.specs.declared.group.ObserverGroup.{ObserverGroup}
use Rattle.cdi_observers.specs.declared.order.RankedObserver.{RankedObserver}
use Rattle.cdi_observers.proofs.Groupings.{AreGroupsBy, with_priority, groups_of_others}
use Rattle.cdi_observers.proofs.RunGroups.{groups_of_ascending}
use Rattle.cdi_observers.proofs.Those.{only_those, decided, list_those, those_made, held_by_those, in_map, in_filter, from_filter}
use Rattle.cdi_observers.proofs.Rising.{at_one}
use Rattle.cdi_observers.proofs.OneGrouping.{one_grouping, no_empty_group}

-- an observer with its index, as items of a grouping
abbrev own_priority : ℕ × ObserverMethod → ℤ
own_priority o = o.1.priority

abbrev own_index : ℕ × ObserverMethod → ℕ
own_index o = o.0

pub grouped : (heard : List (ℕ × ObserverMethod)) (groups : List ObserverGroup) → AreGroups heard groups → AreGroupsBy own_priority own_index heard groups
grouped heard groups are = record { priorities = are.priorities; each = recursion_from_All (λ g. g.observers ≡ with_priority own_priority own_index heard g.priority) groups are.each }

in_groups : (heard : List (ℕ × ObserverMethod)) (groups : List ObserverGroup) → AreGroupsBy own_priority own_index heard groups → AreGroups heard groups
in_groups heard groups are = record { priorities = are.priorities; each = All-from_recursion (λ g. g.observers ≡ with_priority own_priority own_index heard g.priority) groups are.each }

ascending_those : {P : RankedObserver → Type 0} {order kept : List RankedObserver} → IsAscending order → ListsThose P order kept → IsAscending kept
ascending_those up ListsThose.none = tt
ascending_those up (ListsThose.keep {x = x} p k) = (held_by_those (λ s. int_lt s.priority x.priority ≡ false) up.0 k, ascending_those up.1 k)
ascending_those up (ListsThose.skip n k) = ascending_those up.1 k

-- the observers of a priority, ranked or not
ranked_alike : (p : ℤ) (os : List (ℕ × ObserverMethod)) → map (λ r. r.index) (filter (λ r. int_eq r.priority p) (map ranked os)) ≡ with_priority own_priority own_index os p
ranked_alike p [] = refl
ranked_alike p (o ∷ os) = by (int_eq o.1.priority p) (ranked_alike p os)
  where
    by : (b : Bool) → map (λ r. r.index) (filter (λ r. int_eq r.priority p) (map ranked os)) ≡ with_priority own_priority own_index os p
        → map (λ r. r.index) (cond b (ranked o ∷ filter (λ r. int_eq r.priority p) (map ranked os)) (filter (λ r. int_eq r.priority p) (map ranked os))) ≡ map own_index (cond b (o ∷ filter (λ q. int_eq q.1.priority p) os) (filter (λ q. int_eq q.1.priority p) os))
    by true e = ap (λ is. o.0 ∷ is) e
    by false e = e

module _ (table : ObserverTable) (class : ℕ) (qualifiers : List Qualifier) where
  abbrev At : ℕ → Type 0
  At index = HearsAt table.types class qualifiers table.observers index

  abbrev Of : ℕ × ObserverMethod → Type 0
  Of o = Hears table.types class qualifiers o.1

  abbrev base : List (ℕ × ObserverMethod)
  base = enumerate_from 0 table.observers

  at_its_index : (k : ℕ) (d : ℕ × ObserverMethod) → k < length base → slice_get table.observers (get_or base k d).0 ≡ Some (get_or base k d).1
  at_its_index k d lt =
      let within : k < length table.observers = omega (arith, lt, length-enumerate_from 0 table.observers) in
      let P : ℕ × ObserverMethod → Type 0 = λ o. slice_get table.observers o.0 ≡ Some o.1 in
      subst P (sym (get_or-enumerate_from 0 table.observers k d within)) (ap (slice_get table.observers) (zero-add k) ∙ slice_get-get_or table.observers k d.1 within)

  alike : (o : ℕ × ObserverMethod) → slice_get table.observers o.0 ≡ Some o.1 → Of o ↔ At o.0
  alike o at =
      let P : Option ObserverMethod → Type 0 = λ m. IsSomeAnd m (Hears table.types class qualifiers) in
      (λ hears. subst P (sym at) hears, λ hears. subst P at hears)

  all_alike : AllByRecursion (λ o. Of o ↔ At o.0) base
  all_alike = recursion_from_All (λ o. Of o ↔ At o.0) base (λ k d lt. alike (get_or base k d) (at_its_index k d lt))

  module _ (order kept : List RankedObserver) (in_order : IsOrderOf table.observers order) (those : ListsThose (λ r. At r.index) order kept) where
    stands_in_order : (o : ℕ × ObserverMethod) → Contains base o → Contains order (ranked o)
    stands_in_order o there =
        let p = o.1.priority in
        let test : RankedObserver → Bool = λ r. int_eq r.priority p in
        let In : List RankedObserver → Type 0 = λ rs. Contains rs (ranked o) in
        from_filter test order (ranked o) (subst In (sym (in_order.stable p)) (in_filter test (map ranked base) (ranked o) (in_map ranked base o there) ((Decides-int_eq p p).1 refl)))

    told : (o : ℕ × ObserverMethod) → Contains base o → Of o ⊎ (Of o → ⊥)
    told o there =
        let at : Of o ↔ At o.0 = at_one (λ o. Of o ↔ At o.0) base o all_alike there in
        elim (decided (ranked o) those (stands_in_order o there)) [ inl hears ↦ inl (at.1 hears) | inr silent ↦ inr (λ hears. silent (at.0 hears)) ]

    same_of_priority : (heard : List (ℕ × ObserverMethod)) → ListsThose Of base heard → (p : ℤ) → with_priority (λ (r : RankedObserver). r.priority) (λ r. r.index) kept p ≡ with_priority own_priority own_index heard p
    same_of_priority heard hear p =
        let test : RankedObserver → Bool = λ r. int_eq r.priority p in
        let ours : ListsThose At (map (λ (r : RankedObserver). r.index) (filter test order)) (map (λ (r : RankedObserver). r.index) (filter test kept)) = those_made (λ (r : RankedObserver). r.index) test (all_same order) those in
        let theirs : ListsThose At (with_priority own_priority own_index base p) (with_priority own_priority own_index heard p) = those_made own_index (λ o. int_eq o.1.priority p) all_alike hear in
        let same : map (λ (r : RankedObserver). r.index) (filter test order) ≡ with_priority own_priority own_index base p = ap (map (λ (r : RankedObserver). r.index)) (in_order.stable p) ∙ ranked_alike p base in
        let P : List ℕ → Type 0 = λ is. ListsThose At is (map (λ (r : RankedObserver). r.index) (filter test kept)) in
        only_those (subst P same ours) theirs
      where
        all_same : (rs : List RankedObserver) → AllByRecursion (λ r. At r.index ↔ At r.index) rs
        all_same [] = tt
        all_same (r ∷ rs) = ((λ at. at, λ at. at), all_same rs)

    pub groups_of_event : AreGroupsOf table class qualifiers (groups_in kept)
    groups_of_event =
        let heard = list_those base told in
        let are = groups_of_others (λ (r : RankedObserver). r.priority) (λ r. r.index) own_priority own_index kept heard.0 (same_of_priority heard.0 heard.1) (groups_of_ascending kept (ascending_those in_order.ascending those)) in
        record { heard = heard.0; hear = heard.1; are = in_groups heard.0 (groups_in kept) are }

  pub one_answer : (groups others : List ObserverGroup) → AreGroupsOf table class qualifiers groups → AreGroupsOf table class qualifiers others → groups ≡ others
  one_answer groups others are are' =
      let P : List (ℕ × ObserverMethod) → Type 0 = λ heard. AreGroups heard others in
      one_grouping own_priority own_index are.heard groups others (grouped are.heard groups are.are) (grouped are.heard others (subst P (only_those are'.hear are.hear) are'.are))

  pub none_empty : (groups : List ObserverGroup) → AreGroupsOf table class qualifiers groups → AllByRecursion (λ g. g.observers ≢ []) groups
  none_empty groups are = no_empty_group own_priority own_index are.heard groups (grouped are.heard groups are.are)
