-- Beans with the plans of their instances.
use Rattle.std.specs.Prelude.{◌≡◌}
use Rattle.std.specs.List.{AllZip}
use Rattle.cdi_beans.specs.declared.bean.Bean.{Bean}
use Rattle.cdi_planner.specs.Plans.{IsPlanOf}
use Rattle.cdi_planner.specs.Tables.{PlanTables}
use Rattle.cdi_resolve.specs.BeanTables.{AreTablesOf}
use Rattle.cdi_run_tables.specs.Parts.{PlannedBean, RunParts}
pub use Rattle.cdi_run_tables.specs.Places.{place_of, plan_tables}

pub record IsPlanned (t : PlanTables) (b : Bean) (planned : PlannedBean) : Type 0 where
  pub place : planned.place ≡ place_of b
  pub scope : planned.scope ≡ b.scope
  pub plan : IsPlanOf t b planned.plan

-- the tables of a deployment without problems of names or beans: each of its beans has its plan
pub record IsTabled (t : RunParts) : Type 0 where
  pub tables : AreTablesOf t.deployment t.tables
  pub planned :
      AllZip (IsPlanned (plan_tables t.deployment t.tables)) t.tables.resolver.beans t.beans
