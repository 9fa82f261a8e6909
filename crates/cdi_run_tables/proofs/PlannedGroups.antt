-- The observers that are kept for a run are those of beans.
use Rattle.std.proofs.Common.{ℕ, ℤ, ◌≡◌, ◌<◌, ◌≤◌, ◌^◌, Bool, true, false, cond, List, [], ◌∷◌, ◌++◌, Option, Some, None, length, refl, ap, subst, arith, option_map, option_and_then}
use Rattle.std.specs.Prelude.{int_lt, fold}
use Rattle.std.specs.List.{AllByRecursion, list_all}
use Rattle.std.specs.Ordering.{int_eq}
use Rattle.std.proofs.lemmas.Bool.{and_from, and_parts, leb-true, lt-ltb}
use Rattle.std.proofs.lemmas.Option.{same_Some}
use Rattle.cdi_beans.specs.declared.bean.ObserverMethod.{ObserverMethod}
use Rattle.cdi_event_tables.specs.Observers.{group_with, managed_bean, member_of, planned_observer, planned_of_bean, planned_with, with_next, with_planned, with_told}
use Rattle.cdi_event_tables.specs.declared.ids.BodyIds.{BodyIds}
use Rattle.cdi_event_tables.specs.declared.observer_groups.ObserverGroup.{ObserverGroup}
use Rattle.cdi_event_tables.specs.declared.observers.PlannedObserver.{PlannedObserver}
use Rattle.cdi_numbered_plans.proofs.Within.{managed_within}
use Rattle.cdi_numbered_plans.specs.Numbers.{is_number, numbers_member, numbers_observer, numbers_observers, observers_have_numbers}
use Rattle.cdi_planner.specs.Tables.{PlanTables}
use Rattle.cdi_plans.specs.declared.plan.InjectedMethod.{InjectedMethod}
use Rattle.cdi_resolve.specs.Filters.{Candidates, is_enabled}
use Rattle.cdi_run_tables.proofs.NumberedParts.{numbers_of}
use Rattle.cdi_run_tables.specs.Numbered.{is_numbered}
use Rattle.cdi_run_tables.specs.Observers.{group_has_numbers, planned_groups}
use Rattle.cdi_run_tables.specs.Planned.{plan_tables}
use Rattle.cdi_run_tables.specs.Parts.{RunParts}

-- ---- what is so of each that is planned

module _ (P : PlannedObserver → Type 0) where
  abbrev pub InGroups : List ObserverGroup → Type 0
  InGroups groups = AllByRecursion (λ (g : ObserverGroup). AllByRecursion P g.observers) groups

  with_last : (os : List PlannedObserver) (o : PlannedObserver) → AllByRecursion P os → P o → AllByRecursion P (os ++ o ∷ [])
  with_last [] o all h = (h, tt)
  with_last (x ∷ os) o all h = (all.0, with_last os o all.1 h)

  with_one : (p : ℤ) (o : PlannedObserver) → P o → (gs : List ObserverGroup) → InGroups gs → InGroups (with_planned p o gs)
  with_one p o h [] all = ((h, tt), tt)
  with_one p o h (g ∷ more) all = by (int_eq p g.priority) (int_lt p g.priority) (with_one p o h more all.1)
    where
      by : (b c : Bool) → InGroups (with_planned p o more) → InGroups (cond b (group_with g.priority (g.observers ++ o ∷ []) ∷ more) (cond c (group_with p (o ∷ []) ∷ g ∷ more) (g ∷ with_planned p o more)))
      by true c rest = (with_last g.observers o all.0 h, all.1)
      by false true rest = ((h, tt), all)
      by false false rest = (all.0, rest)

  module _ (plans : PlanTables) (beans : Candidates) (ids : BodyIds) (so : (o : ObserverMethod) (x : PlannedObserver) → planned_observer plans beans ids o ≡ Some x → P x) where
    with_each : (o : ObserverMethod) (gs : List ObserverGroup) → InGroups gs → InGroups (with_next plans beans ids gs o)
    with_each o gs all = by (planned_observer plans beans ids o) refl
      where
        by : (m : Option PlannedObserver) → planned_observer plans beans ids o ≡ m → InGroups (with_told o.priority m gs)
        by None e = all
        by (Some x) e = with_one o.priority x (so o x e) gs all

    pub each_planned : (os : List ObserverMethod) (gs : List ObserverGroup) → InGroups gs → InGroups (fold (with_next plans beans ids) gs os)
    each_planned [] gs all = all
    each_planned (o ∷ os) gs all = each_planned os (with_next plans beans ids gs o) (with_each o gs all)

-- ---- their beans

bean_within : (plans : PlanTables) (beans : Candidates) (ids : BodyIds) (o : ObserverMethod) (x : PlannedObserver) → planned_observer plans beans ids o ≡ Some x → x.bean < length beans.beans
bean_within plans beans ids o x e = by (managed_bean beans.beans o.bean) refl e
  where
    declared : (bean : ℕ) → managed_bean beans.beans o.bean ≡ Some bean → (b : Bool) (d : Option InjectedMethod) → cond b (option_map (planned_with ids o bean) d) None ≡ Some x → x.bean < length beans.beans
    declared bean found true (Some member) is =
        let same : bean ≡ x.bean = ap (λ (y : PlannedObserver). y.bean) (same_Some (planned_with ids o bean member) x is) in
        subst (λ n. n < length beans.beans) same (managed_within beans.beans o.bean bean found)
    declared bean found true None is = absurd cc
    declared bean found false d is = absurd cc

    by : (m : Option ℕ) → managed_bean beans.beans o.bean ≡ m → option_and_then (planned_of_bean plans beans ids o) m ≡ Some x → x.bean < length beans.beans
    by None found is = absurd cc
    by (Some bean) found is = declared bean found (is_enabled beans.flags bean) (member_of plans o) is

module _ (t : RunParts) where
  abbrev HasBean : PlannedObserver → Type 0
  HasBean o = o.bean < length t.tables.resolver.beans

  beans_within : InGroups HasBean (planned_groups t)
  beans_within =
      let plans = plan_tables t.deployment t.tables in
      each_planned HasBean plans t.tables.resolver t.ids (bean_within plans t.tables.resolver t.ids) t.tables.observers [] tt

  module _ (few : length t.tables.resolver.beans ≤ 2 ^ 32) where
    number : (b : ℕ) → b < length t.tables.resolver.beans → is_number b ≡ true
    number b lt = let less : b < 2 ^ 32 = omega (arith, lt, few) in lt-ltb b (2 ^ 32) less

    of_group : (os : List PlannedObserver) → AllByRecursion HasBean os → observers_have_numbers os ≡ true → numbers_observers os ≡ true
    of_group [] within have = refl
    of_group (o ∷ os) within have =
        let parts = and_parts (numbers_member o.member) (observers_have_numbers os) have in
        and_from (numbers_observer o) (numbers_observers os) (and_from (is_number o.bean) (numbers_member o.member) (number o.bean within.0) parts.0) (of_group os within.1 parts.1)

    of_groups : (gs : List ObserverGroup) → InGroups HasBean gs → list_all group_has_numbers gs ≡ true → AllByRecursion (λ (g : ObserverGroup). numbers_observers g.observers ≡ true) gs
    of_groups [] within have = tt
    of_groups (g ∷ gs) within have =
        let parts = and_parts (group_has_numbers g) (list_all group_has_numbers gs) have in
        (of_group g.observers within.0 parts.0, of_groups gs within.1 parts.1)

  -- their places are numbers too
  pub all_numbered : is_numbered t ≡ true → AllByRecursion (λ (g : ObserverGroup). numbers_observers g.observers ≡ true) (planned_groups t)
  all_numbered all =
      let numbers = numbers_of t all in
      of_groups (leb-true (length t.tables.resolver.beans) (2 ^ 32) numbers.few) (planned_groups t) beans_within numbers.observers
