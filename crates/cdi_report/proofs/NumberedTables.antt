-- The tables of a deployment whose lists are within their limits are numbered.
use Rattle.std.proofs.Common.{◌≡◌, ◌∙◌, ◌≤◌, ◌&&◌, true, List, length, ap, arith}
use Rattle.std.proofs.lemmas.Bool.{and_from}
use Rattle.std.specs.Prelude.{IsTrue}
use Rattle.std.specs.List.{AllByRecursion, AllZip, list_all}
use Rattle.cdi_beans.specs.declared.bean.Bean.{Bean}
use Rattle.cdi_beans.specs.declared.bean.BeanList.{BeanList}
use Rattle.cdi_deployment.specs.Limits.{is_within}
use Rattle.cdi_deployment.specs.declared.deployment.Deployment.{Deployment}
use Rattle.cdi_numbered_plans.specs.Numbers.{has_numbers, numbers_managed}
use Rattle.cdi_planner.specs.Plans.{IsManagedPlan, IsPlanOf, constructor_of}
use Rattle.cdi_planner.specs.Tables.{PlanTables}
use Rattle.cdi_plans.specs.declared.plan.ManagedPlan.{ManagedPlan}
use Rattle.cdi_plans.specs.declared.plan.Plan.{Plan}
use Rattle.cdi_resolve.specs.declared.bean_tables.BeanTables.{BeanTables}
use Rattle.cdi_run_tables.specs.Numbered.{has_few_beans, is_numbered}
use Rattle.cdi_run_tables.specs.Observers.{group_has_numbers, planned_groups}
use Rattle.cdi_run_tables.specs.Planned.{IsPlanned, IsTabled, plan_tables}
use Rattle.cdi_run_tables.specs.Sizes.{has_few_fields}
use Rattle.cdi_run_tables.specs.Parts.{PlannedBean}
use Rattle.cdi_run_tables.specs.declared.tables.RunTables.{RunTables}
use Rattle.cdi_report.proofs.Each.{all_pass, each_item, each_zipped}
use Rattle.cdi_report.proofs.EnabledCounts.{few_of_deployment}
use Rattle.cdi_report.proofs.Lines.{each_in_line, no_longer}
use Rattle.cdi_report.proofs.NumberedObservers.{groups_numbered}
use Rattle.cdi_report.proofs.NumberedPlans.{managed_numbered, product_numbered}
use Rattle.cdi_report.proofs.SmallTables.{few_resolved}
use Rattle.cdi_report.proofs.Within.{HasFew, HasFewMembers, each_has_few, each_has_few_members, few_classes, few_interceptors, few_listed, interceptors_have_few}

-- ---- plans

module _ (t : PlanTables) (enabled : length t.chains.interceptors ≤ 2048)
    (few : AllByRecursion HasFew t.classes) (members : AllByRecursion HasFewMembers t.classes)
    (classes : length t.classes ≤ 1024) where
  -- the plan of a managed bean
  of_managed : (b : Bean) (plan : ManagedPlan) → IsManagedPlan t b plan → numbers_managed plan ≡ true
  of_managed b plan is =
      let short : length is.line ≤ length t.classes =
      no_longer t.types t.classes b.class is.line is.is_line in
      ap numbers_managed is.is
      ∙ managed_numbered t.chains enabled b (constructor_of t.classes b.class) is.line
      (each_in_line HasFew t.types t.classes b.class is.line is.is_line few)
      (each_in_line HasFewMembers t.types t.classes b.class is.line is.is_line members)
      (omega (arith, short, classes))

  -- that of any bean
  of_any_plan : (b : Bean) (plan : Plan) → IsPlanOf t b plan → has_numbers plan ≡ true
  of_any_plan b plan (IsPlanOf.managed {plan = p} kind is) = of_managed b p is
  of_any_plan b plan (IsPlanOf.product {plan = p} is) = product_numbered t enabled is.declared p is.by

  -- each bean has its plan
  beans_numbered : (beans : List Bean) (all : List PlannedBean) → AllZip (IsPlanned t) beans all
      → list_all (λ (b : PlannedBean). has_numbers b.plan) all ≡ true
  beans_numbered beans all are =
      all_pass (λ (b : PlannedBean). has_numbers b.plan ≡ true) (λ b. has_numbers b.plan) all
      (λ b is. is)
      (each_zipped (λ b. Unit {0}) (IsPlanned t) (λ (b : PlannedBean). has_numbers b.plan ≡ true)
      (λ b planned any is. of_any_plan b planned.plan is.plan) beans all
      (each_item (λ b. Unit {0}) (λ b. tt) beans) are)

-- ---- tables

-- at most 2,048 interceptors are enabled
few_enabled : (t : RunTables) → IsTabled t → IsTrue (is_within t.deployment)
    → length t.tables.chains.interceptors ≤ 2048
few_enabled t tabled within =
    let d : Deployment = t.deployment in
    let list : BeanList = tabled.tables.list in
    let made = tabled.tables.made in
    omega (
      arith,
      ap (λ (k : BeanTables). length k.chains.interceptors) tabled.tables.are.are,
      few_of_deployment d made.bindings list.interceptors made.is.interceptors,
      few_interceptors d within,
      few_listed d within,
    )

-- beans, plans, interceptors and observers
pub tables_are_numbered : (t : RunTables) → IsTabled t → IsTrue (is_within t.deployment)
    → is_numbered t ≡ true
tables_are_numbered t tabled within =
    let d : Deployment = t.deployment in
    let plans : PlanTables = plan_tables d t.tables in
    let enabled = few_enabled t tabled within in
    and_from
    (has_few_beans t && list_all (λ (b : PlannedBean). has_numbers b.plan) t.beans
    && list_all has_few_fields d.interceptors)
    (list_all group_has_numbers (planned_groups t))
    (and_from (has_few_beans t && list_all (λ (b : PlannedBean). has_numbers b.plan) t.beans)
    (list_all has_few_fields d.interceptors)
    (and_from (has_few_beans t) (list_all (λ (b : PlannedBean). has_numbers b.plan) t.beans)
    (few_resolved t tabled)
    (beans_numbered plans enabled (each_has_few d within) (each_has_few_members d within)
    (few_classes d within) t.tables.resolver.beans t.beans tabled.planned))
    (interceptors_have_few d within))
    (groups_numbered plans enabled t.tables.resolver t.ids t.tables.observers)
