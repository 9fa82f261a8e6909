-- What contracts see of a deployment in a run.
use Rattle.std.specs.Prelude.{List}
use Rattle.cdi_base.specs.declared.place.Place.{Place}
use Rattle.cdi_base.specs.declared.scope.Scope.{Scope}
use Rattle.cdi_bodies.specs.declared.shape.Lookup.{Lookup}
use Rattle.cdi_deployment.specs.declared.deployment.Deployment.{Deployment}
use Rattle.cdi_event_tables.specs.declared.ids.BodyIds.{BodyIds}
use Rattle.cdi_plans.specs.declared.plan.Plan.{Plan}
use Rattle.cdi_resolve.specs.declared.bean_tables.BeanTables.{BeanTables}

-- A bean as the machine makes and uses its instances: its class, or the producer with the class that declares it; its scope; and by
-- which steps an instance is created, and what else runs in its life.
pub record PlannedBean : Type 0 where
  pub place : Place
  pub scope : Scope
  pub plan : Plan

-- A deployment with its tables, the plans of its beans in their order, the numbers of its bodies, and the lookups of each registered
-- body, by its number.
pub record RunParts : Type 0 where
  pub deployment : Deployment
  pub tables : BeanTables
  pub beans : List PlannedBean
  pub ids : BodyIds
  pub lookups : List (List Lookup)
