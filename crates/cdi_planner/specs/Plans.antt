-- By which steps an instance of a bean is created (Jakarta CDI 4.0, Lifecycle of managed beans, Lifecycle of producer methods).
use Rattle.std.specs.Prelude.{ℕ, ◌≡◌, List, map, Option, option_and_then, IsSome}
use Rattle.std.specs.List.{filter_map}
use Rattle.cdi_beans.specs.declared.bean.Bean.{Bean}
use Rattle.cdi_beans.specs.declared.bean.BeanKind.{BeanKind}
use Rattle.cdi_beans.specs.declared.bean.BeanKind.TheVariants as kinds
use Rattle.cdi_plans.specs.Chains.{ChainTables}
use Rattle.cdi_deployment.specs.declared.deployment.Class.{Class}
use Rattle.cdi_deployment.specs.declared.deployment.Constructor.{Constructor}
use Rattle.cdi_deployment.specs.declared.deployment.Field.{Field}
use Rattle.cdi_types.specs.Line.{IsLineOf, class_named}
use Rattle.cdi_types.specs.Members.{fields_of, members_of}
use Rattle.cdi_planner.specs.Codes.{business_method, destruction}
use Rattle.cdi_planner.specs.Products.{producer_of, IsProductPlan}
use Rattle.cdi_planner.specs.Steps.{steps_of}
use Rattle.cdi_planner.specs.Tables.{PlanTables}
use Rattle.cdi_plans.specs.declared.plan.ManagedPlan.{ManagedPlan}
use Rattle.cdi_plans.specs.declared.plan.Plan.{Plan}
use Rattle.cdi_plans.specs.declared.plan.Plan.TheVariants as plans
use Rattle.cdi_plans.specs.declared.plan.ProductPlan.{ProductPlan}

-- the constructor of a class, if that declares one
abbrev pub constructor_of : List Class → ℕ → Option Constructor
constructor_of classes name = option_and_then (λ c. c.constructor) (class_named classes name)

-- the fields of a new instance with the values that they begin with
abbrev pub initial_fields : List Class → List Field
initial_fields line = map (λ f. f.1) (fields_of line)

-- the plan of a managed bean by the constructor and the line of its class
abbrev pub managed_plan : ChainTables → Option Constructor → Bean → List Class → ManagedPlan
managed_plan t constructor b line =
    record {
      fields = initial_fields line;
      steps = steps_of t constructor b line;
      methods = filter_map (business_method t b.class) (members_of line);
      pre_destroy = destruction t b.class (members_of line);
    }

pub record IsManagedPlan (t : PlanTables) (b : Bean) (plan : ManagedPlan) : Type 0 where
  pub line : List Class
  pub is_line : IsLineOf t.types t.classes b.class line
  pub is : plan ≡ managed_plan t.chains (constructor_of t.classes b.class) b line

pub data IsPlanOf (t : PlanTables) (b : Bean) : Plan → Type 0 where
  managed : {plan : ManagedPlan} → b.kind ≡ kinds.Managed → IsManagedPlan t b plan
      → IsPlanOf t b (plans.Managed plan)
  product : {plan : ProductPlan} → IsProductPlan t b.class b.kind plan
      → IsPlanOf t b (plans.Product plan)

-- the class of a bean is one of these, and that of a product declares its producer; of classes with one name the first counts
abbrev pub IsDeclaredAs : List Class → ℕ → BeanKind → Type 0
IsDeclaredAs classes name kinds.Managed = IsSome (class_named classes name)
IsDeclaredAs classes name kind = IsSome (producer_of classes name kind)

abbrev pub IsDeclared : List Class → Bean → Type 0
IsDeclared classes b = IsDeclaredAs classes b.class b.kind
