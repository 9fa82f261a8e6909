-- A managed bean of the list, with its plan and the line of its class.
use Rattle.std.proofs.Common.{ℕ, ◌≡◌, ◌∙◌, true, List, [], ◌∷◌, map, Option, Some, None, refl, sym, ap, subst}
use Rattle.std.specs.Prelude.{option_map, option_and_then}
use Rattle.std.specs.List.{find, flat_map, slice_get}
use Rattle.cdi_beans.specs.Beans.{IsBeanOf, Source, bean_member, sources_in}
use Rattle.cdi_beans.specs.declared.bean.Bean.{Bean}
use Rattle.cdi_beans.specs.declared.bean.BeanKind.{BeanKind}
use Rattle.cdi_beans.specs.declared.bean.BeanKind.TheVariants as kinds
use Rattle.cdi_deployment.specs.declared.deployment.Class.{Class}
use Rattle.cdi_deployment.specs.declared.deployment.Constructor.{Constructor}
use Rattle.cdi_deployment.specs.declared.deployment.Deployment.{Deployment}
use Rattle.cdi_deployment.specs.declared.deployment.Member.{Member}
use Rattle.cdi_beans.specs.Kinds.{is_managed}
use Rattle.cdi_types.proofs.Lines.{one_line}
use Rattle.cdi_types.specs.Line.{IsLineOf, class_named}
use Rattle.cdi_types.specs.Members.{members_of}
use Rattle.cdi_planner.specs.Plans.{IsManagedPlan, IsPlanOf, constructor_of, managed_plan}
use Rattle.cdi_planner.specs.Products.{is_producer_of, producer_in, producer_of}
use Rattle.cdi_planner.specs.Tables.{PlanTables}
use Rattle.cdi_plans.specs.declared.plan.ManagedPlan.{ManagedPlan}
use Rattle.cdi_plans.specs.declared.plan.Plan.{Plan}
use Rattle.cdi_plans.specs.declared.plan.Plan.TheVariants as plans
use Rattle.cdi_quals.specs.declared.types.QualifierType.{QualifierType}
use Rattle.cdi_run_tables.specs.Planned.{IsPlanned, IsTabled, plan_tables}
use Rattle.cdi_run_tables.specs.Parts.{PlannedBean}
use Rattle.cdi_run_tables.specs.declared.tables.RunTables.{RunTables}
use Rattle.cdi_resolve.specs.declared.bean_tables.BeanTables.{BeanTables}
use Rattle.cdi_types.specs.Declarations.{declarations_of}
use Rattle.cdi_types.specs.declared.declaration.TypeDeclaration.{TypeDeclaration}
use Rattle.cdi_accepted.proofs.Beans.{before, beside}
use Rattle.cdi_accepted.proofs.Lists.{Among, at_among}

-- a managed bean of the list has the members of the line of its class
record IsManaged (d : Deployment) (b : Bean) : Type 0 where
  line : List Class
  is_line : IsLineOf (declarations_of d) d.classes b.class line
  are : b.members ≡ map bean_member (members_of line)

managed_of : (d : Deployment) (qualifiers : List QualifierType) (s : Source) (b : Bean) → b.kind ≡ kinds.Managed → IsBeanOf d qualifiers s b → IsManaged d b
managed_of d qualifiers (Source.AClass c) b kind (IsBeanOf.managed uses by has with) =
    let P : ℕ → Type 0 = λ n. IsLineOf (declarations_of d) d.classes n has.had.line in
    record { line = has.had.line; is_line = subst P (sym by.class) has.had.is_line; are = has.are ∙ ap (map bean_member) has.had.are }
managed_of d qualifiers (Source.AProducer c m) b kind (IsBeanOf.produced by with) = let other = with.kind_is in absurd cc
managed_of d qualifiers (Source.AProducer c m) b kind (IsBeanOf.held by with) = let other = with.kind_is in absurd cc

-- no member is the producer of a managed bean
no_producer : (ms : List Member) → find (is_producer_of kinds.Managed) ms ≡ None
no_producer [] = refl
no_producer (m ∷ ms) = no_producer ms

never_produced : (classes : List Class) (name : ℕ) → producer_of classes name kinds.Managed ≡ None
never_produced classes name = by (class_named classes name)
  where
    by : (o : Option Class) → option_and_then (producer_in kinds.Managed) o ≡ None
    by None = refl
    by (Some c) = ap (option_map (λ m. (c, m))) (no_producer c.members)

-- the plan of a managed bean
record IsClassPlan (t : PlanTables) (b : Bean) (plan : Plan) : Type 0 where
  managed : ManagedPlan
  is : plan ≡ plans.Managed managed
  by : IsManagedPlan t b managed

class_plan : (t : PlanTables) (b : Bean) (plan : Plan) → b.kind ≡ kinds.Managed → IsPlanOf t b plan → IsClassPlan t b plan
class_plan t b (plans.Managed plan) e (IsPlanOf.managed kind is) = record { managed = plan; is = refl; by = is }
class_plan t b (plans.Product plan) e (IsPlanOf.product is) =
    let none : producer_of t.classes b.class b.kind ≡ None = ap (producer_of t.classes b.class) e ∙ never_produced t.classes b.class in
    let some = is.is in
    absurd cc

-- a bean with its plan, by the line of its class
pub record HasPlan (t : RunTables) (b : ℕ) (listed : Bean) : Type 0 where
  pub planned : PlannedBean
  pub has : slice_get t.beans b ≡ Some planned
  pub plan : ManagedPlan
  pub is_plan : planned.plan ≡ plans.Managed plan
  pub line : List Class
  pub is_line : IsLineOf (declarations_of t.deployment) t.deployment.classes listed.class line
  pub constructor : Option Constructor
  pub is_constructor : constructor ≡ constructor_of t.deployment.classes listed.class
  pub is : plan ≡ managed_plan t.tables.chains constructor listed line
  pub members : listed.members ≡ map bean_member (members_of line)

-- each managed bean of the list has a plan
pub has_plan : (t : RunTables) → IsTabled t → (b : ℕ) (listed : Bean) → slice_get t.tables.resolver.beans b ≡ Some listed → listed.kind ≡ kinds.Managed → HasPlan t b listed
has_plan t tabled b listed stands kind =
    let d = t.deployment in
    let planning = plan_tables d t.tables in
    let found = beside (IsPlanned planning) t.tables.resolver.beans t.beans b listed tabled.planned stands in
    let plan = class_plan planning listed found.item.plan kind found.related.plan in
    let Q : List TypeDeclaration → Type 0 = λ types. IsLineOf types d.classes listed.class plan.by.line in
    let is_line : IsLineOf (declarations_of d) d.classes listed.class plan.by.line = subst Q tabled.tables.are.declared.types plan.by.is_line in
    let made = tabled.tables.made in
    let P : BeanTables → Type 0 = λ s. Among listed s.resolver.beans in
    let among : Among listed tabled.tables.list.beans = subst P tabled.tables.are.are (at_among t.tables.resolver.beans b listed stands) in
    let source = before (IsBeanOf d made.qualifiers) (flat_map sources_in d.classes) tabled.tables.list.beans listed made.is.beans among in
    let managed = managed_of d made.qualifiers source.item listed kind source.related in
    let same : managed.line ≡ plan.by.line = one_line (declarations_of d) d.classes listed.class managed.line plan.by.line managed.is_line is_line in
    record {
      planned = found.item;
      has = found.stands;
      plan = plan.managed;
      is_plan = plan.is;
      line = plan.by.line;
      is_line = is_line;
      constructor = constructor_of d.classes listed.class;
      is_constructor = refl;
      is = plan.by.is;
      members = managed.are ∙ ap (λ l. map bean_member (members_of l)) same;
    }

pub kind_of : (k : BeanKind) → is_managed k ≡ true → k ≡ kinds.Managed
kind_of kinds.Managed e = refl
kind_of (kinds.ProducerMethod name) e = absurd (cc)
kind_of (kinds.ProducerField name) e = absurd (cc)
