-- The places of interceptors round observers are numbers of 32 bits, since few interceptors are enabled.
use Rattle.std.proofs.Common.{ℕ, ℤ, ◌≡◌, ◌∙◌, ◌≤◌, Bool, true, false, List, [], ◌∷◌, ◌++◌, length, fold, Option, Some, None, refl, if◌then◌else◌}
use Rattle.std.proofs.lemmas.Bool.{and_from, and_parts}
use Rattle.std.proofs.lemmas.List.Folds.{list_all-append}
use Rattle.std.specs.Prelude.{IfSome, option_and_then, option_map, int_lt}
use Rattle.std.specs.Ordering.{int_eq}
use Rattle.std.specs.List.{list_all}
use Rattle.cdi_beans.specs.declared.bean.ObserverMethod.{ObserverMethod}
use Rattle.cdi_deployment.specs.declared.deployment.Class.{Class}
use Rattle.cdi_deployment.specs.declared.deployment.Observer.{Observer}
use Rattle.cdi_event_tables.specs.Observers.{group_with, managed_bean, member_of, observer_groups, planned_observer, planned_of_bean, planned_with, with_next, with_planned, with_told}
use Rattle.cdi_event_tables.specs.declared.ids.BodyIds.{BodyIds}
use Rattle.cdi_event_tables.specs.declared.observer_groups.ObserverGroup.{ObserverGroup}
use Rattle.cdi_event_tables.specs.declared.observers.PlannedObserver.{PlannedObserver}
use Rattle.cdi_numbered_plans.specs.Numbers.{numbers_member, observers_have_numbers}
use Rattle.cdi_planner.specs.Observers.{observer_method, observer_of}
use Rattle.cdi_planner.specs.Tables.{PlanTables}
use Rattle.cdi_resolve.specs.Filters.{Candidates, is_enabled}
use Rattle.cdi_run_tables.specs.Observers.{group_has_numbers}
use Rattle.cdi_report.proofs.Places.{invoke_numbered}

abbrev IsNumbered : PlannedObserver → Type 0
IsNumbered o = numbers_member o.member ≡ true

abbrev AreNumbered : List ObserverGroup → Type 0
AreNumbered groups = list_all group_has_numbers groups ≡ true

-- ---- groups

-- an observer more at the end of a group
pushed : (observers : List PlannedObserver) (o : PlannedObserver) → IsNumbered o
    → observers_have_numbers observers ≡ true
    → observers_have_numbers (observers ++ o ∷ []) ≡ true
pushed observers o is are =
    let test : PlannedObserver → Bool = λ x. numbers_member x.member in
    list_all-append test observers (o ∷ [])
    ∙ and_from (list_all test observers) (list_all test (o ∷ [])) are (and_from (test o) true is refl)

-- an observer more in the group of its priority
placed : (p : ℤ) (o : PlannedObserver) → IsNumbered o → (groups : List ObserverGroup)
    → AreNumbered groups → AreNumbered (with_planned p o groups)
placed p o is [] are = and_from (group_has_numbers (group_with p (o ∷ []))) true (pushed [] o is refl) refl
placed p o is (g ∷ more) are =
    let parts = and_parts (group_has_numbers g) (list_all group_has_numbers more) are in
    by (int_eq p g.priority) (int_lt p g.priority) parts.0 parts.1 (placed p o is more parts.1)
  where
    by : (same before : Bool) → group_has_numbers g ≡ true → AreNumbered more
        → AreNumbered (with_planned p o more)
        → AreNumbered
        (if same then group_with g.priority (g.observers ++ o ∷ []) ∷ more
        else if before then group_with p (o ∷ []) ∷ g ∷ more
        else g ∷ with_planned p o more)
    by true before first others rest = and_from _ _ (pushed g.observers o is first) others
    by false true first others rest = and_from _ _ (pushed [] o is refl) (and_from _ _ first others)
    by false false first others rest = and_from _ _ first rest

-- one more, if there is one
told : (p : ℤ) (o : Option PlannedObserver) → IfSome o IsNumbered → (groups : List ObserverGroup)
    → AreNumbered groups → AreNumbered (with_told p o groups)
told p None is groups are = are
told p (Some o) is groups are = placed p o is groups are

module _ (t : PlanTables) (enabled : length t.chains.interceptors ≤ 2048) (beans : Candidates) (ids : BodyIds) where
  -- ---- an observer as it is planned

  -- by what its class declares
  of_declared : (o : ObserverMethod) (bean : ℕ) (declared : Option (Class × Observer))
      → IfSome (option_map (planned_with ids o bean) (option_map (observer_method t.chains o.bean) declared)) IsNumbered
  of_declared o bean None = tt
  of_declared o bean (Some (c, x)) =
      invoke_numbered t.chains enabled o.bean (record { class = c.name; name = x.name })

  -- of a bean, if that is enabled
  of_bean : (o : ObserverMethod) (bean : ℕ) → IfSome (planned_of_bean t beans ids o bean) IsNumbered
  of_bean o bean = by (is_enabled beans.flags bean)
    where
      by : (b : Bool)
          → IfSome (if b then option_map (planned_with ids o bean) (member_of t o) else None) IsNumbered
      by true = of_declared o bean (observer_of t.classes o)
      by false = tt

  -- of a bean, if there is one
  of_any_bean : (o : ObserverMethod) (bean : Option ℕ)
      → IfSome (option_and_then (planned_of_bean t beans ids o) bean) IsNumbered
  of_any_bean o None = tt
  of_any_bean o (Some bean) = of_bean o bean

  -- one after another
  of_all : (observers : List ObserverMethod) (groups : List ObserverGroup) → AreNumbered groups
      → AreNumbered (fold (with_next t beans ids) groups observers)
  of_all [] groups are = are
  of_all (o ∷ observers) groups are =
      of_all observers (with_next t beans ids groups o)
      (told o.priority (planned_observer t beans ids o) (of_any_bean o (managed_bean beans.beans o.bean)) groups are)

  -- those of the groups of a deployment's observers
  pub groups_numbered : (observers : List ObserverMethod)
      → AreNumbered (observer_groups t beans ids observers)
  groups_numbered observers = of_all observers [] refl
