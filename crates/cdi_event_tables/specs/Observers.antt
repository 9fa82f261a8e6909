-- The observers of enabled beans, as they are kept for a run.
use Rattle.std.specs.Prelude.{ℕ, suc, ℤ, ◌==◌, ◌&&◌, List, [], ◌∷◌, ◌++◌, fold, Bool, false, Option, Some, None, option_map, option_and_then, position, int_lt, if◌then◌else◌}
use Rattle.std.specs.Ordering.{int_eq}
use Rattle.cdi_base.specs.declared.uses.Use.{Use}
use Rattle.cdi_bean_check.specs.Qualifiers.{full_uses}
use Rattle.cdi_beans.specs.Kinds.{is_managed}
use Rattle.cdi_beans.specs.declared.bean.Bean.{Bean}
use Rattle.cdi_beans.specs.declared.bean.ObserverMethod.{ObserverMethod}
use Rattle.cdi_beans.specs.declared.declared.DeclaredTables.{DeclaredTables}
use Rattle.cdi_planner.specs.Observers.{observer_of, observer_method}
use Rattle.cdi_planner.specs.Tables.{PlanTables}
use Rattle.cdi_plans.specs.declared.plan.InjectedMethod.{InjectedMethod}
use Rattle.cdi_quals.specs.Qualifiers.{has_all}
use Rattle.cdi_resolve.specs.Filters.{Candidates, is_enabled}
use Rattle.cdi_event_tables.specs.Events.{any_qualifier, is_subtype}
use Rattle.cdi_event_tables.specs.Ids.{id_in}
use Rattle.cdi_event_tables.specs.declared.ids.BodyIds.{BodyIds}
use Rattle.cdi_event_tables.specs.declared.observer_groups.ObserverGroup.{ObserverGroup}
use Rattle.cdi_event_tables.specs.declared.observers.PlannedObserver.{PlannedObserver}

-- ---- plans

-- the managed bean of a class, by its index
abbrev pub managed_bean : List Bean → ℕ → Option ℕ
managed_bean beans class = position (λ b. is_managed b.kind && (b.class == class)) beans

-- what runs where an observer is notified, if its class declares it
abbrev pub member_of : PlanTables → ObserverMethod → Option InjectedMethod
member_of t o = option_map (observer_method t.chains o.bean) (observer_of t.classes o)

abbrev pub planned_with : BodyIds → ObserverMethod → ℕ → InjectedMethod → PlannedObserver
planned_with ids o bean member =
    record {
      ty = o.ty;
      qualifiers = o.qualifiers;
      bean = bean;
      member = member;
      body = id_in ids member.code.body;
      conditional = o.if_exists;
    }

-- one of a bean that is enabled, by what plans are made from, the beans of the deployment, and the numbers of its bodies
abbrev pub planned_of_bean : PlanTables → Candidates → BodyIds → ObserverMethod → ℕ
    → Option PlannedObserver
planned_of_bean plans beans ids o bean =
    if is_enabled beans.flags bean then option_map (planned_with ids o bean) (member_of plans o) else None

abbrev pub planned_observer : PlanTables → Candidates → BodyIds → ObserverMethod
    → Option PlannedObserver
planned_observer plans beans ids o =
    option_and_then (planned_of_bean plans beans ids o) (managed_bean beans.beans o.bean)

-- ---- groups

abbrev pub group_with : ℤ → List PlannedObserver → ObserverGroup
group_with priority observers = record { priority = priority; observers = observers }

-- an observer goes to the end of the group of its priority; the groups stand by ascending priority
abbrev pub with_planned : ℤ → PlannedObserver → List ObserverGroup → List ObserverGroup
with_planned p o [] = group_with p (o ∷ []) ∷ []
with_planned p o (g ∷ more) =
    if int_eq p g.priority then group_with g.priority (g.observers ++ o ∷ []) ∷ more
    else if int_lt p g.priority then group_with p (o ∷ []) ∷ g ∷ more
    else g ∷ with_planned p o more

-- the place of the first group whose priority isn't below this one
abbrev pub place_of : ℤ → List ObserverGroup → ℕ
place_of p [] = 0
place_of p (g ∷ more) = if int_lt g.priority p then suc (place_of p more) else 0

abbrev pub has_priority : ℤ → Option ObserverGroup → Bool
has_priority p None = false
has_priority p (Some g) = int_eq g.priority p

abbrev pub with_told : ℤ → Option PlannedObserver → List ObserverGroup → List ObserverGroup
with_told p None groups = groups
with_told p (Some o) groups = with_planned p o groups

abbrev pub with_next : PlanTables → Candidates → BodyIds → List ObserverGroup → ObserverMethod
    → List ObserverGroup
with_next plans beans ids groups o = with_told o.priority (planned_observer plans beans ids o) groups

-- all that are notified at all, by ascending priority, and in a group as they stand in the bean list
abbrev pub observer_groups : PlanTables → Candidates → BodyIds → List ObserverMethod
    → List ObserverGroup
observer_groups plans beans ids observers = fold (with_next plans beans ids) [] observers

-- ---- who hears

-- an event of a class with these qualifiers, as they were written, and Any
abbrev pub is_heard_by : DeclaredTables → ℕ → List Use → PlannedObserver → Bool
is_heard_by t class uses o =
    is_subtype t.types class o.ty
    && has_all (any_qualifier ∷ full_uses t.qualifiers uses) o.qualifiers
