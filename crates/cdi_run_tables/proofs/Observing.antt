-- The numbered observers of a deployment tell what the machine is told, and those of them that hear an event are those that it asks for.
use Rattle.std.proofs.Common.{◌≡◌, ◌∙◌, ◌^◌, true, nat_le, List, [], ◌∷◌, Result, Ok, Err, length, map, sym, subst}
use Rattle.std.specs.Prelude.{IfOk}
use Rattle.std.specs.declared.alloc.AllocError.{AllocError}
use Rattle.std.specs.List.{All, AllByRecursion, AllZip}
use Rattle.std.proofs.lemmas.Bool.{and_from}
use Rattle.cdi_base.specs.declared.uses.Use.{Use}
use Rattle.cdi_bean_check.specs.Qualifiers.{full_uses}
use Rattle.cdi_event_tables.specs.Ids.{id_in}
use Rattle.cdi_event_tables.specs.declared.ids.BodyIds.{BodyIds}
use Rattle.cdi_event_tables.specs.declared.observer_groups.ObserverGroup.{ObserverGroup}
use Rattle.cdi_event_tables.specs.declared.tables.EventTables.{EventTables}
use Rattle.cdi_machine.specs.Resolved.{IsResolvedObserver}
use Rattle.cdi_machine.specs.Told.{observer_told}
use Rattle.cdi_machine.specs.declared.member.Observer.{Observer}
use Rattle.cdi_machine.specs.Words.{Name}
use Rattle.cdi_numbered_plans.specs.Machine.{machine_observer}
use Rattle.cdi_numbered_plans.specs.Numbers.{numbers_observers}
use Rattle.cdi_numbered_plans.specs.declared.numbering.Numbering.{Numbering}
use Rattle.cdi_quals.specs.declared.types.QualifierType.{QualifierType}
use Rattle.cdi_resolve.specs.Filters.{Candidates, enabled_of}
use Rattle.cdi_resolve.specs.Resolution.{resolution}
use Rattle.cdi_run_tables.proofs.Heard.{heard_observers, hears_it}
use Rattle.cdi_run_tables.proofs.Hearing.{groups_same, groups_so}
use Rattle.cdi_run_tables.proofs.NumberedParts.{numbers_of}
use Rattle.cdi_run_tables.proofs.PlannedGroups.{all_numbered}
use Rattle.cdi_run_tables.specs.Index.{AreEventsOf, AreGroupBy, AreObserversOf, IsNumberingOf}
use Rattle.cdi_run_tables.specs.Machine.{machine_resolution, observers_of}
use Rattle.cdi_run_tables.specs.Numbered.{has_few_beans, is_numbered, machine_resolve}
use Rattle.cdi_run_tables.specs.Observers.{heard_groups, planned_groups}
use Rattle.cdi_run_tables.specs.Parts.{RunParts}

-- ---- what was numbered by what the deployment has

module _ (t : RunParts) (n : Numbering) (of : IsNumberingOf t n) where
  module _ (g : ObserverGroup) (made : List Observer) (is : AreGroupBy n g made) where
    abbrev few : Candidates → Type 0
    few c = nat_le (length c.beans) (2 ^ 32) ≡ true

    abbrev Told : BodyIds → Type 0
    Told ids = map observer_told made ≡ map (machine_observer (id_in ids)) g.observers

    abbrev Resolved : List QualifierType → Candidates → Type 0
    Resolved types c = All (IsResolvedObserver (λ asked. machine_resolution (resolution asked.type (full_uses types asked.qualifiers) (enabled_of c)))) made

    group_made : AreObserversOf t g made
    group_made =
        record {
          tells = λ h can.
              let here : few n.resolver.now = subst few (sym of.resolver) h in
              let told : Told n.ids.now = is.tells (and_from (nat_le (length n.resolver.now.beans) (2 ^ 32)) (numbers_observers g.observers) here can) in
              subst Told of.ids told;
          resolved =
              subst (λ types. Resolved types t.tables.resolver) of.qualifiers (subst (Resolved n.qualifiers.now) of.resolver is.resolved);
        }

  groups_made : (gs : List ObserverGroup) (all : List (List Observer)) → AllZip (AreGroupBy n) gs all → AllZip (AreObserversOf t) gs all
  groups_made [] [] a = tt
  groups_made [] (made ∷ all) a = absurd a
  groups_made (g ∷ gs) [] a = absurd a
  groups_made (g ∷ gs) (made ∷ all) a = (group_made g made a.0, groups_made gs all a.1)

  pub groups_of_events : (events : EventTables) → AreEventsOf t events → (r : Result (List (List Observer)) AllocError) → IfOk r (AllZip (AreGroupBy n) events.observers) → IfOk r (AllZip (AreObserversOf t) (planned_groups t))
  groups_of_events events are (Ok all) a = subst (λ gs. AllZip (AreObserversOf t) gs all) are.observers (groups_made events.observers all a)
  groups_of_events events are (Err x) a = tt

-- ---- those that hear an event

module _ (t : RunParts) where
  groups_told : has_few_beans t ≡ true → (gs : List ObserverGroup) (all : List (List Observer)) → AllZip (AreObserversOf t) gs all → AllByRecursion (λ (g : ObserverGroup). numbers_observers g.observers ≡ true) gs
      → AllZip (λ g made. map observer_told made ≡ map (machine_observer (id_in t.ids)) g.observers) gs all
  groups_told few [] [] a can = tt
  groups_told few [] (made ∷ all) a can = absurd a
  groups_told few (g ∷ gs) [] a can = absurd a
  groups_told few (g ∷ gs) (made ∷ all) a can = (a.0.tells few can.0, groups_told few gs all a.1 can.1)

  groups_resolved : (gs : List ObserverGroup) (all : List (List Observer)) → AllZip (AreObserversOf t) gs all → AllZip (λ g made. All (IsResolvedObserver (machine_resolve t)) made) gs all
  groups_resolved [] [] a = tt
  groups_resolved [] (made ∷ all) a = absurd a
  groups_resolved (g ∷ gs) [] a = absurd a
  groups_resolved (g ∷ gs) (made ∷ all) a = (a.0.resolved, groups_resolved gs all a.1)

  module _ (class : Name) (uses : List Use) (all : List (List Observer)) (are : AllZip (AreObserversOf t) (planned_groups t) all) where
    abbrev heard : List (List Observer)
    heard = heard_groups (hears_it t class uses) (planned_groups t) all

    heard_told : is_numbered t ≡ true → map (map observer_told) heard ≡ observers_of t class uses
    heard_told numbered =
        groups_same observer_told (machine_observer (id_in t.ids)) (hears_it t class uses) (planned_groups t) all
        (groups_told (numbers_of t numbered).few (planned_groups t) all are (all_numbered t numbered))
        ∙ heard_observers t class uses

    heard_resolved : All (All (IsResolvedObserver (machine_resolve t))) heard
    heard_resolved = groups_so (IsResolvedObserver (machine_resolve t)) (hears_it t class uses) (planned_groups t) all (groups_resolved (planned_groups t) all are)

    pub told_if_heard : is_numbered t ≡ true → (r : Result (List (List Observer)) AllocError) → IfOk r (λ groups. groups ≡ heard) → IfOk r (λ groups. map (map observer_told) groups ≡ observers_of t class uses)
    told_if_heard numbered (Ok groups) e = subst (λ gs. map (map observer_told) gs ≡ observers_of t class uses) (sym e) (heard_told numbered)
    told_if_heard numbered (Err x) e = tt

    pub resolved_if_heard : (r : Result (List (List Observer)) AllocError) → IfOk r (λ groups. groups ≡ heard) → IfOk r (λ groups. All (All (IsResolvedObserver (machine_resolve t))) groups)
    resolved_if_heard (Ok groups) e = subst (λ gs. All (All (IsResolvedObserver (machine_resolve t))) gs) (sym e) heard_resolved
    resolved_if_heard (Err x) e = tt
