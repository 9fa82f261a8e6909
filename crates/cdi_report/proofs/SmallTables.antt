-- The tables of a deployment whose lists are within their limits are small.
use Rattle.std.proofs.Common.{ℕ, ◌&&◌, ◌≡◌, ◌∙◌, ◌*◌, ◌^◌, ◌≤◌, true, List, length, Some, ap, arith, nat_le, nat_lt}
use Rattle.std.specs.Prelude.{IsTrue}
use Rattle.std.proofs.lemmas.Bool.{and_from, le-leb, lt-ltb}
use Rattle.std.proofs.lemmas.Slice.Zip.{AllZip-long}
use Rattle.std.specs.List.{AllByRecursion, AllZip, flat_map, list_all}
use Rattle.cdi_bean_rules.specs.Limits.{bean_count}
use Rattle.cdi_beans.specs.Beans.{IsBeanOf, sources_in}
use Rattle.cdi_beans.specs.declared.bean.Bean.{Bean}
use Rattle.cdi_beans.specs.declared.bean.BeanList.{BeanList}
use Rattle.cdi_deployment.specs.Limits.{is_within}
use Rattle.cdi_deployment.specs.declared.deployment.Deployment.{Deployment}
use Rattle.cdi_planner.specs.Plans.{IsManagedPlan, IsPlanOf, constructor_of}
use Rattle.cdi_planner.specs.Steps.{steps_of}
use Rattle.cdi_planner.specs.Tables.{PlanTables}
use Rattle.cdi_plans.specs.declared.plan.ManagedPlan.{ManagedPlan}
use Rattle.cdi_plans.specs.declared.plan.Plan.{Plan}
use Rattle.cdi_run_tables.specs.Managed.{injections_of, managed_of}
use Rattle.cdi_run_tables.specs.Planned.{IsPlanned, IsTabled, plan_tables}
use Rattle.cdi_run_tables.specs.Numbered.{has_few_beans}
use Rattle.cdi_run_tables.specs.Sizes.{has_few_fields, has_few_injections, is_small}
use Rattle.cdi_run_tables.specs.Parts.{PlannedBean}
use Rattle.cdi_run_tables.specs.declared.tables.RunTables.{RunTables}
use Rattle.cdi_resolve.specs.declared.bean_tables.BeanTables.{BeanTables}
use Rattle.cdi_report.proofs.BeanCounts.{as_many, few_beans}
use Rattle.cdi_report.proofs.Each.{all_pass, each_item, each_zipped}
use Rattle.cdi_report.proofs.Injections.{count, few_injections}
use Rattle.cdi_report.proofs.Lines.{each_in_line, no_longer}
use Rattle.cdi_report.proofs.Within.{HasFew, each_has_few, few_classes, interceptors_have_few}

-- 64 fields in each of at most 1,024 classes
few_enough : (fields classes : ℕ) → fields ≤ classes * 64 → classes ≤ 1024
    → nat_lt fields (2 ^ 32) ≡ true
few_enough fields classes each all = lt-ltb fields (2 ^ 32) (omega arith)

module _ (t : PlanTables) (few : AllByRecursion HasFew t.classes)
    (classes : length t.classes ≤ 1024) where
  -- the injected fields of a managed bean
  of_managed : (b : Bean) (plan : ManagedPlan) → IsManagedPlan t b plan
      → nat_lt (length (injections_of (Some plan))) (2 ^ 32) ≡ true
  of_managed b plan is =
      let line_few : AllByRecursion HasFew is.line =
      each_in_line HasFew t.types t.classes b.class is.line is.is_line few in
      let constructor = constructor_of t.classes b.class in
      let fields : count (steps_of t.chains constructor b is.line) ≤ length is.line * 64 =
      few_injections t.chains b is.line constructor line_few in
      let line : length is.line ≤ length t.classes =
      no_longer t.types t.classes b.class is.line is.is_line in
      ap (λ (p : ManagedPlan). nat_lt (length (injections_of (Some p))) (2 ^ 32)) is.is
      ∙ few_enough (count (steps_of t.chains constructor b is.line)) (length is.line) fields
      (omega arith)

  -- a product has none
  of_any_plan : (b : Bean) (plan : Plan) → IsPlanOf t b plan
      → nat_lt (length (injections_of (managed_of plan))) (2 ^ 32) ≡ true
  of_any_plan b plan (IsPlanOf.managed {plan = p} kind is) = of_managed b p is
  of_any_plan b plan (IsPlanOf.product is) = few_enough 0 0 (omega arith) (omega arith)

  of_planned : (b : Bean) (planned : PlannedBean) → Unit {0} → IsPlanned t b planned
      → has_few_injections planned ≡ true
  of_planned b planned any is = of_any_plan b planned.plan is.plan

  pub of_beans : (beans : List Bean) (all : List PlannedBean) → AllZip (IsPlanned t) beans all
      → list_all has_few_injections all ≡ true
  of_beans beans all are =
      all_pass (λ planned. has_few_injections planned ≡ true) has_few_injections all
      (λ planned is. is)
      (each_zipped (λ b. Unit {0}) (IsPlanned t) (λ planned. has_few_injections planned ≡ true)
      of_planned beans all (each_item (λ b. Unit {0}) (λ b. tt) beans) are)

-- as many beans as are counted, which are not too many
listed_number : (t : RunTables) → IsTabled t → length t.tables.resolver.beans ≤ 4096
listed_number t tabled =
    let d : Deployment = t.deployment in
    let list : BeanList = tabled.tables.list in
    let made = tabled.tables.made in
    let beans : t.tables.resolver.beans ≡ list.beans =
    ap (λ (k : BeanTables). k.resolver.beans) tabled.tables.are.are in
    let listed : length list.beans ≡ length (flat_map sources_in d.classes) =
    AllZip-long (IsBeanOf d made.qualifiers) (flat_map sources_in d.classes) list.beans
    made.is.beans in
    let counted : length (flat_map sources_in d.classes) ≡ bean_count d.classes =
    as_many d.classes in
    let few : bean_count d.classes ≤ 4096 = few_beans d made.qualifiers made.beans_well in
    let same : length t.tables.resolver.beans ≡ bean_count d.classes =
    ap length beans ∙ listed ∙ counted in
    omega (arith, same, few)

bean_number : (t : RunTables) → IsTabled t → length t.beans ≤ 4096
bean_number t tabled =
    let planned : length t.beans ≡ length t.tables.resolver.beans =
    AllZip-long (IsPlanned (plan_tables t.deployment t.tables)) t.tables.resolver.beans t.beans tabled.planned
    in
    omega (arith, planned, listed_number t tabled)

pub few_resolved : (t : RunTables) → IsTabled t → has_few_beans t ≡ true
few_resolved t tabled = le-leb (length t.tables.resolver.beans) (2 ^ 32) (omega (arith, listed_number t tabled))

pub tables_are_small : (t : RunTables) → IsTabled t → IsTrue (is_within t.deployment)
    → is_small t ≡ true
tables_are_small t tabled within =
    and_from (nat_le (length t.beans) 4096 && list_all has_few_injections t.beans)
    (list_all has_few_fields t.deployment.interceptors)
    (and_from (nat_le (length t.beans) 4096) (list_all has_few_injections t.beans)
    (le-leb (length t.beans) 4096 (bean_number t tabled))
    (of_beans (plan_tables t.deployment t.tables) (each_has_few t.deployment within)
    (few_classes t.deployment within) t.tables.resolver.beans t.beans tabled.planned))
    (interceptors_have_few t.deployment within)
