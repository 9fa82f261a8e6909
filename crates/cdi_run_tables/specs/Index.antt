-- What is looked up of a deployment in a run.
use Rattle.std.specs.Prelude.{◌≡◌, true, List, map, Option, option_map, slice_get}
use Rattle.std.specs.List.{All, AllZip}
use Rattle.cdi_beans.specs.declared.bean.EnabledInterceptor.{EnabledInterceptor}
use Rattle.cdi_body_check.specs.Exceptions.{is_checked}
use Rattle.cdi_deployment.specs.declared.deployment.Interceptor.{Interceptor}
use Rattle.cdi_event_tables.specs.Ids.{id_in}
use Rattle.cdi_event_tables.specs.Tables.{AreEventTables}
use Rattle.cdi_event_tables.specs.declared.observer_groups.ObserverGroup.{ObserverGroup}
use Rattle.cdi_event_tables.specs.declared.tables.EventTables.{EventTables}
use Rattle.cdi_machine.specs.Resolved.{IsResolvedObserver, IsResolvedStep}
use Rattle.cdi_machine.specs.Told.{observer_told, step_told}
use Rattle.cdi_machine.specs.declared.member.Observer.{Observer}
use Rattle.cdi_machine.specs.declared.step.Step.{Step as LifeStep}
use Rattle.cdi_name_check.specs.NameSets.{HasDeclared, HasNames}
use Rattle.cdi_numbered_plans.specs.Machine.{machine_observer}
use Rattle.cdi_numbered_plans.specs.Numbers.{has_numbers, numbers_observers}
use Rattle.cdi_numbered_plans.specs.Plans.{AreObserversBy, IsResolvedIfAny, TellsOf}
use Rattle.cdi_numbered_plans.specs.declared.numbering.Numbering.{Numbering}
use Rattle.cdi_numbered_plans.specs.Life.{NumberedPlan}
use Rattle.cdi_plans.specs.declared.plan.Plan.{Plan}
use Rattle.cdi_resolve.specs.Filters.{Candidates, enabled_of}
use Rattle.cdi_run_tables.specs.Asked.{AreTold}
use Rattle.cdi_run_tables.specs.Interceptors.{plan_of}
use Rattle.cdi_run_tables.specs.Machine.{machine_interceptor, machine_kind}
use Rattle.cdi_run_tables.specs.Numbered.{has_few_beans, machine_resolve}
use Rattle.cdi_run_tables.specs.Observers.{planned_groups}
use Rattle.cdi_run_tables.specs.Planned.{plan_tables}
use Rattle.cdi_run_tables.specs.declared.index.RunIndex.{RunIndex}
use Rattle.cdi_run_tables.specs.Parts.{RunParts}

-- resolution is asked for among the enabled beans of these tables
abbrev pub AsksOf : RunParts → Candidates → Type 0
AsksOf t c = enabled_of c ≡ enabled_of t.tables.resolver

-- ---- plans

-- what the plans of a deployment are numbered by
pub record IsNumberingOf (t : RunParts) (n : Numbering) : Type 0 where
  pub ids : n.ids.now ≡ t.ids
  pub names : n.names.now ≡ t.deployment.names
  pub qualifiers : n.qualifiers.now ≡ t.tables.declared.qualifiers
  pub resolver : n.resolver.now ≡ t.tables.resolver

-- what is made of a plan: it tells what the machine is told of the plan, if what that names has numbers, with its points resolved
pub record IsNumberedOf (t : RunParts) (plan : Plan) (made : Option NumberedPlan) : Type 0 where
  pub tells :
      has_few_beans t ≡ true → has_numbers plan ≡ true
      → TellsOf (machine_kind (id_in t.ids) t.tables.resolver.beans plan) made
  pub resolved : IsResolvedIfAny (machine_resolve t) made

-- ---- interceptors and observers

-- the steps by which an instance of an interceptor is created, with each point resolved
pub record AreStepsOf (t : RunParts) (j : Option Interceptor) (made : List LifeStep)
    : Type 0 where
  pub tells :
      has_few_beans t ≡ true
      → map step_told made ≡ plan_of (option_map (machine_interceptor (id_in t.ids)) j)
  pub resolved : All (IsResolvedStep (machine_resolve t)) made

-- those of an enabled interceptor
abbrev pub ArePlannedBy : RunParts → EnabledInterceptor → List LifeStep → Type 0
ArePlannedBy t j made = AreStepsOf t (slice_get t.deployment.interceptors j.index) made

-- what is looked up of events
abbrev pub AreEventsOf : RunParts → EventTables → Type 0
AreEventsOf t events =
    AreEventTables (plan_tables t.deployment t.tables) t.tables t.ids events

-- the observers of a group, as they are numbered
abbrev pub AreGroupBy : Numbering → ObserverGroup → List Observer → Type 0
AreGroupBy n g made = AreObserversBy n g.observers made

-- the observers of a group: what the machine is told of them, if what they name has numbers, with their points resolved
pub record AreObserversOf (t : RunParts) (g : ObserverGroup) (made : List Observer) : Type 0 where
  pub tells :
      has_few_beans t ≡ true → numbers_observers g.observers ≡ true
      → map observer_told made ≡ map (machine_observer (id_in t.ids)) g.observers
  pub resolved : All (IsResolvedObserver (machine_resolve t)) made

-- The names that the deployment declares and those of its checked exceptions; what is looked up of its events; the steps by which an
-- instance of each enabled interceptor is created; the numbered observers of each group.
pub record IsIndexOf (t : RunParts) (i : RunIndex) : Type 0 where
  pub names : HasDeclared t.deployment i.names
  pub checked : HasNames (is_checked t.deployment.exceptions) i.checked
  pub events : AreEventsOf t i.events
  pub interceptor_steps :
      AllZip (ArePlannedBy t) t.tables.chains.interceptors i.interceptor_steps
  pub observers : AllZip (AreObserversOf t) (planned_groups t) i.observers
  pub asked : AreTold t i.asked
