-- The observers of enabled beans, as they are kept for a run, and those that hear an event.
use Rattle.std.specs.Prelude.{List, [], ◌∷◌, map, filter, Bool, false, not, Option, Some, None, if◌then◌else◌}
use Rattle.std.specs.List.{cons_option}
use Rattle.cdi_event_tables.specs.Observers.{observer_groups}
use Rattle.cdi_event_tables.specs.declared.observer_groups.ObserverGroup.{ObserverGroup}
use Rattle.cdi_event_tables.specs.declared.observers.PlannedObserver.{PlannedObserver}
use Rattle.cdi_machine.specs.declared.member.Observer.{Observer}
use Rattle.cdi_numbered_plans.specs.Numbers.{observers_have_numbers}
use Rattle.cdi_run_tables.specs.Machine.{has_none}
use Rattle.cdi_run_tables.specs.Planned.{plan_tables}
use Rattle.cdi_run_tables.specs.Parts.{RunParts}

-- all that are notified at all, in groups by ascending priority
abbrev pub planned_groups : RunParts → List ObserverGroup
planned_groups t =
    observer_groups (plan_tables t.deployment t.tables) t.tables.resolver t.ids t.tables.observers

-- the places of the interceptors round each are numbers of 32 bits
abbrev pub group_has_numbers : ObserverGroup → Bool
group_has_numbers g = observers_have_numbers g.observers

-- ---- who hears an event

-- those of each group that hear it; a group in which none does is left out
abbrev pub heard_among : (PlannedObserver → Bool) → List ObserverGroup → List (List PlannedObserver)
heard_among hears groups =
    filter (λ heard. not (has_none heard)) (map (λ g. filter hears g.observers) groups)

-- what is told of two lists that go side by side, where something is
abbrev pub told_beside : {X Y Z : Type 0} → (X → Y → Option Z) → List X → List Y → List Z
told_beside f xs [] = []
told_beside f [] (y ∷ ys) = []
told_beside f (x ∷ xs) (y ∷ ys) = cons_option (f x y) (told_beside f xs ys)

-- whether the observer at a place hears it
abbrev pub is_heard_at : (PlannedObserver → Bool) → Option PlannedObserver → Bool
is_heard_at hears None = false
is_heard_at hears (Some o) = hears o

-- the same observer in the words of an instance's life, if it hears the event
abbrev pub if_heard : (PlannedObserver → Bool) → PlannedObserver → Observer → Option Observer
if_heard hears o numbered = if hears o then Some numbered else None

abbrev pub heard_in : (PlannedObserver → Bool) → List PlannedObserver → List Observer → List Observer
heard_in hears observers numbered = told_beside (if_heard hears) observers numbered

abbrev pub if_any : {X : Type 0} → List X → Option (List X)
if_any [] = None
if_any (x ∷ xs) = Some (x ∷ xs)

-- those of a group, if there are any
abbrev pub heard_of_group : (PlannedObserver → Bool) → ObserverGroup → List Observer
    → Option (List Observer)
heard_of_group hears g numbered = if_any (heard_in hears g.observers numbered)

-- those of the group at a place
abbrev pub heard_at : (PlannedObserver → Bool) → Option ObserverGroup → List Observer → List Observer
heard_at hears None numbered = []
heard_at hears (Some g) numbered = heard_in hears g.observers numbered

abbrev pub heard_groups : (PlannedObserver → Bool) → List ObserverGroup → List (List Observer)
    → List (List Observer)
heard_groups hears groups numbered = told_beside (heard_of_group hears) groups numbered
