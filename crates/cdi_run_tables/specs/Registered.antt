-- Bodies that are registered; ids tells the numbers of names.
use Rattle.std.specs.Prelude.{ℕ, ◌≡◌, ◌&&◌, Bool, true, List, Option, Some, None, is_some}
use Rattle.std.specs.List.{list_all}
use Rattle.cdi_deployment.specs.declared.deployment.Interceptor.{Interceptor}
use Rattle.cdi_event_tables.specs.declared.observer_groups.ObserverGroup.{ObserverGroup}
use Rattle.cdi_event_tables.specs.declared.observers.PlannedObserver.{PlannedObserver}
use Rattle.cdi_plans.specs.declared.plan.Code.{Code}
use Rattle.cdi_plans.specs.declared.plan.InjectedMethod.{InjectedMethod}
use Rattle.cdi_plans.specs.declared.plan.Plan.{Plan}
use Rattle.cdi_plans.specs.declared.plan.Plan.TheVariants as plans
use Rattle.cdi_plans.specs.declared.plan.Source.{Source}
use Rattle.cdi_plans.specs.declared.plan.Source.TheVariants as sources
use Rattle.cdi_plans.specs.declared.plan.Step.{Step}
use Rattle.cdi_plans.specs.declared.plan.Step.TheVariants as steps
use Rattle.cdi_run_tables.specs.Machine.{declared_at, id_of, planned_at}
use Rattle.cdi_run_tables.specs.Observers.{planned_groups}
use Rattle.cdi_run_tables.specs.Parts.{PlannedBean}
use Rattle.cdi_run_tables.specs.declared.tables.RunTables.{RunTables}

module _ (ids : ℕ → Option ℕ) where
  abbrev pub is_registered : Code → Bool
  is_registered c = is_some (ids c.body)

  abbrev pub are_registered : List Code → Bool
  are_registered codes = list_all is_registered codes

  -- what a step runs
  abbrev pub registers_step : Step → Bool
  registers_step (steps.Construct points l) = are_registered l.callbacks
  registers_step (steps.Initialize code points) = is_registered code
  registers_step (steps.Complete l) = are_registered l.callbacks
  registers_step step = true

  -- a producer method, a disposer, or what runs where an observer is notified
  abbrev pub registers_member : InjectedMethod → Bool
  registers_member m = is_registered m.code

  abbrev pub registers_source : Source → Bool
  registers_source (sources.ProducerMethod m) = registers_member m
  registers_source (sources.ProducerField field) = true

  -- what runs in the life of an instance of a bean; a method whose body isn't registered is none
  abbrev pub registers_plan : Plan → Bool
  registers_plan (plans.Managed p) =
      list_all registers_step p.steps && are_registered p.pre_destroy.callbacks
  registers_plan (plans.Product p) =
      registers_source p.source && list_all registers_member p.disposers

  -- the observers of a group
  abbrev pub registers_group : ObserverGroup → Bool
  registers_group g = list_all (λ (o : PlannedObserver). registers_member o.member) g.observers

  -- the methods of an interceptor
  abbrev pub registers_body : Option ℕ → Bool
  registers_body None = true
  registers_body (Some name) = is_some (ids name)

  abbrev pub registers_interceptor : Interceptor → Bool
  registers_interceptor j =
      registers_body j.invoke && registers_body j.construct && registers_body j.post
      && registers_body j.pre

-- the bodies of what is enabled are registered: of beans, of interceptors, and of the observers of beans
pub record HasBodies (t : RunTables) : Type 0 where
  pub beans : (b : ℕ) (planned : PlannedBean) → planned_at t b ≡ Some planned
      → registers_plan (id_of t) planned.plan ≡ true
  pub interceptors : (i : ℕ) (j : Interceptor) → declared_at t i ≡ Some j
      → registers_interceptor (id_of t) j ≡ true
  pub observers : list_all (registers_group (id_of t)) (planned_groups t) ≡ true
