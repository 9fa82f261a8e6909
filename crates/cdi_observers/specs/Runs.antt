-- How the code makes groups: of each run of observers of one priority.
use Rattle.std.specs.Prelude.{List, [], ◌∷◌, ◌++◌, if◌then◌else◌}
use Rattle.std.specs.Ordering.{int_eq}
use Rattle.cdi_observers.specs.declared.group.ObserverGroup.{ObserverGroup}
use Rattle.cdi_observers.specs.declared.order.RankedObserver.{RankedObserver}

abbrev pub group_with : RankedObserver → ObserverGroup
group_with r = record { priority = r.priority; observers = r.index ∷ [] }

-- the group of the next observer: the one before, or a new one
abbrev pub next_group : ObserverGroup → RankedObserver → ObserverGroup
next_group g r =
    if int_eq r.priority g.priority
    then record { priority = g.priority; observers = g.observers ++ r.index ∷ [] }
    else group_with r

-- the one before, if it isn't that of the next observer
abbrev pub whole_groups : ObserverGroup → RankedObserver → List ObserverGroup
whole_groups g r = if int_eq r.priority g.priority then [] else g ∷ []

abbrev pub groups_from : ObserverGroup → List RankedObserver → List ObserverGroup
groups_from g [] = g ∷ []
groups_from g (r ∷ rs) = whole_groups g r ++ groups_from (next_group g r) rs

abbrev pub groups_in : List RankedObserver → List ObserverGroup
groups_in [] = []
groups_in (r ∷ rs) = groups_from (group_with r) rs
