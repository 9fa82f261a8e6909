-- What is asked of a managed bean, by its plan.
use Rattle.std.specs.Prelude.{List, [], Option, Some, None}
use Rattle.std.specs.List.{filter_map}
use Rattle.cdi_deployment.specs.declared.deployment.Point.{Point}
use Rattle.cdi_machine.specs.Words.{Name, Fields}
use Rattle.cdi_plans.specs.declared.plan.ManagedPlan.{ManagedPlan}
use Rattle.cdi_plans.specs.declared.plan.Plan.{Plan}
use Rattle.cdi_plans.specs.declared.plan.Plan.TheVariants as plans
use Rattle.cdi_plans.specs.declared.plan.Step.{Step}
use Rattle.cdi_plans.specs.declared.plan.Step.TheVariants as steps
use Rattle.cdi_run_tables.specs.Machine.{first_values}
use Rattle.cdi_run_tables.specs.Parts.{PlannedBean}

abbrev pub managed_of : Plan → Option ManagedPlan
managed_of (plans.Managed p) = Some p
managed_of (plans.Product p) = None

abbrev pub managed_plan : PlannedBean → Option ManagedPlan
managed_plan b = managed_of b.plan

-- a product has no fields
abbrev pub fields_of : Option ManagedPlan → Fields
fields_of None = []
fields_of (Some p) = first_values p.fields

-- an injected field, and what is asked for at its injection point
abbrev pub injected : Step → Option (Name × Point)
injected (steps.Inject field point) = Some (field, point)
injected step = None

abbrev pub injections_of : Option ManagedPlan → List (Name × Point)
injections_of None = []
injections_of (Some p) = filter_map injected p.steps
