-- The groups of the observers that hear an event (Jakarta CDI 4.0, Observer ordering).
use Rattle.std.specs.Prelude.{ℕ, ◌≡◌, List, map, filter}
use Rattle.std.specs.List.{All, enumerate_from}
use Rattle.std.specs.Ordering.{int_cmp, int_eq}
use Rattle.cdi_beans.specs.declared.bean.ObserverMethod.{ObserverMethod}
use Rattle.cdi_quals.specs.OrderedSet.{IsOrderedSet}
use Rattle.cdi_quals.specs.declared.qualifier.Qualifier.{Qualifier}
use Rattle.cdi_types.specs.ListsThose.{ListsThose}
use Rattle.cdi_observers.specs.Observers.{ObserverTable, Hears}
use Rattle.cdi_observers.specs.declared.group.ObserverGroup.{ObserverGroup}

-- observers with their indices, in groups: one for each of their priorities, ascending, of those that have it, as they stand
pub record AreGroups (observers : List (ℕ × ObserverMethod)) (groups : List ObserverGroup)
    : Type 0 where
  pub priorities :
      IsOrderedSet int_cmp (map (λ o. o.1.priority) observers) (map (λ g. g.priority) groups)
  pub each :
      All (λ g. g.observers
      ≡ map (λ o. o.0) (filter (λ o. int_eq o.1.priority g.priority) observers)) groups

-- the groups of those that hear an event of a class with qualifiers
pub record AreGroupsOf (table : ObserverTable) (class : ℕ) (qualifiers : List Qualifier)
    (groups : List ObserverGroup) : Type 0 where
  pub heard : List (ℕ × ObserverMethod)
  pub hear :
      ListsThose (λ o. Hears table.types class qualifiers o.1) (enumerate_from 0 table.observers)
      heard
  pub are : AreGroups heard groups
