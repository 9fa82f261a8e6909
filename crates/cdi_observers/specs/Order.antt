-- How the code keeps the order of the observers.
use Rattle.std.specs.Prelude.{ℕ, ℤ, ◌≡◌, false, List, [], ◌∷◌, map, filter, slice_get, int_lt}
use Rattle.std.specs.List.{AllByRecursion, enumerate_from}
use Rattle.std.specs.Option.{IsSomeAnd}
use Rattle.std.specs.Ordering.{int_eq}
use Rattle.cdi_beans.specs.declared.bean.ObserverMethod.{ObserverMethod}
use Rattle.cdi_quals.specs.declared.qualifier.Qualifier.{Qualifier}
use Rattle.cdi_types.specs.declared.declaration.TypeDeclaration.{TypeDeclaration}
use Rattle.cdi_observers.specs.Observers.{any, Hears}
use Rattle.cdi_observers.specs.declared.order.RankedObserver.{RankedObserver}

abbrev pub ranked : ℕ × ObserverMethod → RankedObserver
ranked o = record { priority = o.1.priority; index = o.0 }

-- no priority is below an earlier one
abbrev pub IsAscending : List RankedObserver → Type 0
IsAscending [] = Unit {0}
IsAscending (r ∷ rs) =
    AllByRecursion (λ s. int_lt s.priority r.priority ≡ false) rs × IsAscending rs

-- by ascending priority, and those of one priority as they stand
pub record IsOrderOf (observers : List ObserverMethod) (order : List RankedObserver) : Type 0 where
  pub ascending : IsAscending order
  pub stable : (p : ℤ)
      → filter (λ r. int_eq r.priority p) order
      ≡ filter (λ r. int_eq r.priority p) (map ranked (enumerate_from 0 observers))

pub record IsPrepared (observers : List ObserverMethod) (order : List RankedObserver)
    (own_any : Qualifier) : Type 0 where
  pub in_order : IsOrderOf observers order
  pub is_any : own_any ≡ any

-- the observer at an index hears an event
abbrev pub HearsAt : List TypeDeclaration → ℕ → List Qualifier → List ObserverMethod → ℕ → Type 0
HearsAt types class qualifiers observers index =
    IsSomeAnd (slice_get observers index) (Hears types class qualifiers)
