-- A bean has one plan.
use Rattle.std.proofs.Common.{◌≡◌, ◌∙◌, ℕ, List, [], ◌∷◌, Option, Some, None, refl, sym, ap, subst}
use Rattle.std.specs.Prelude.{option_and_then, option_map}
use Rattle.std.specs.List.{AllZip, filter_map, find}
use Rattle.cdi_beans.specs.declared.bean.Bean.{Bean}
use Rattle.cdi_beans.specs.declared.bean.BeanKind.{BeanKind}
use Rattle.cdi_beans.specs.declared.bean.BeanKind.TheVariants as kinds
use Rattle.cdi_deployment.specs.declared.deployment.Class.{Class}
use Rattle.cdi_deployment.specs.declared.deployment.Member.{Member}
use Rattle.cdi_types.specs.Line.{class_named}
use Rattle.cdi_planner.specs.Plans.{IsManagedPlan, IsPlanOf, constructor_of, managed_plan}
use Rattle.cdi_planner.specs.Products.{IsPlanBy, IsProductPlan, disposer_method, is_producer_of, producer_in, producer_of}
use Rattle.cdi_planner.specs.Tables.{PlanTables}
use Rattle.cdi_plans.specs.declared.plan.ManagedPlan.{ManagedPlan}
use Rattle.cdi_plans.specs.declared.plan.Plan.{Plan}
use Rattle.cdi_plans.specs.declared.plan.Plan.TheVariants as plans
use Rattle.cdi_plans.specs.declared.plan.ProductPlan.{ProductPlan}
use Rattle.cdi_run_tables.specs.Planned.{IsPlanned}
use Rattle.cdi_run_tables.specs.Parts.{PlannedBean}
use Rattle.cdi_accepted.proofs.OneLine.{neither, one_line}
use Rattle.cdi_accepted.proofs.DeterminedLists.{one_listed, one_zipped}

module _ (t : PlanTables) where
  one_managed : (b : Bean) (p q : ManagedPlan) → IsManagedPlan t b p → IsManagedPlan t b q → p ≡ q
  one_managed b p q x y =
      x.is ∙ ap (managed_plan t.chains (constructor_of t.classes b.class) b) (one_line t.classes b.class x.line y.line x.is_line y.is_line) ∙ sym y.is

  one_by : (declared : Class × Member) (p q : ProductPlan) → IsPlanBy t declared p → IsPlanBy t declared q → p ≡ q
  one_by declared p q x y =
      let declaring : p.declaring ≡ q.declaring = x.declaring ∙ sym y.declaring in
      let found : Some p.source ≡ Some q.source = sym x.source ∙ y.source in
      let source : p.source ≡ q.source = cc in
      let disposers : p.disposers ≡ q.disposers =
      x.disposers.are ∙ ap (filter_map (disposer_method t.chains declared.0)) (one_listed x.disposers.serve y.disposers.serve) ∙ sym y.disposers.are in
      λ i. record { declaring = declaring i; source = source i; disposers = disposers i }

  one_product : (name : ℕ) (kind : BeanKind) (p q : ProductPlan) → IsProductPlan t name kind p → IsProductPlan t name kind q → p ≡ q
  one_product name kind p q x y =
      let found : Some y.declared ≡ Some x.declared = sym y.is ∙ x.is in
      let same : y.declared ≡ x.declared = cc in
      one_by x.declared p q x.by (subst (λ c. IsPlanBy t c q) same y.by)

  -- no producer makes managed beans
  no_producer : (ms : List Member) → find (is_producer_of kinds.Managed) ms ≡ None
  no_producer [] = refl
  no_producer (m ∷ ms) = no_producer ms

  none_declared : (o : Option Class) → option_and_then (producer_in kinds.Managed) o ≡ None
  none_declared None = refl
  none_declared (Some c) = ap (option_map (λ m. (c, m))) (no_producer c.members)

  not_both : (b : Bean) (q : ProductPlan) → b.kind ≡ kinds.Managed → IsProductPlan t b.class b.kind q → ⊥
  not_both b q e y =
      let there : producer_of t.classes b.class kinds.Managed ≡ Some y.declared =
      subst (λ k. producer_of t.classes b.class k ≡ Some y.declared) e y.is in
      neither (sym (none_declared (class_named t.classes b.class)) ∙ there)

  pub one_plan : (b : Bean) (p q : Plan) → IsPlanOf t b p → IsPlanOf t b q → p ≡ q
  one_plan b p q (IsPlanOf.managed {plan = m} e x) (IsPlanOf.managed {plan = n} f y) = ap plans.Managed (one_managed b m n x y)
  one_plan b p q (IsPlanOf.managed e x) (IsPlanOf.product {plan = n} y) = absurd (not_both b n e y)
  one_plan b p q (IsPlanOf.product {plan = m} x) (IsPlanOf.managed f y) = absurd (not_both b m f x)
  one_plan b p q (IsPlanOf.product {plan = m} x) (IsPlanOf.product {plan = n} y) = ap plans.Product (one_product b.class b.kind m n x y)

  one_planned : (b : Bean) (p q : PlannedBean) → IsPlanned t b p → IsPlanned t b q → p ≡ q
  one_planned b p q x y =
      let place : p.place ≡ q.place = x.place ∙ sym y.place in
      let scope : p.scope ≡ q.scope = x.scope ∙ sym y.scope in
      let plan : p.plan ≡ q.plan = one_plan b p.plan q.plan x.plan y.plan in
      λ i. record { place = place i; scope = scope i; plan = plan i }

  pub one_plan_list : (beans : List Bean) (these those : List PlannedBean) → AllZip (IsPlanned t) beans these → AllZip (IsPlanned t) beans those → these ≡ those
  one_plan_list = one_zipped (IsPlanned t) one_planned
