-- What numbered plans and observers tell: what the machine is told of them, with each point resolved.
use Rattle.std.specs.Prelude.{◌≡◌, true, false, List, [], map, Option, Some, None, option_map}
use Rattle.std.specs.List.{All}
use Rattle.cdi_deployment.specs.declared.deployment.InjectedField.{InjectedField}
use Rattle.cdi_event_tables.specs.declared.observers.PlannedObserver.{PlannedObserver}
use Rattle.cdi_machine.specs.Resolved.{IsResolvedObserver, IsResolvedProduct, IsResolvedStep}
use Rattle.cdi_machine.specs.Told.{lifecycle_told, observer_told, product_told, step_told}
use Rattle.cdi_machine.specs.declared.member.Observer.{Observer}
use Rattle.cdi_machine.specs.declared.member.Product.{Product}
use Rattle.cdi_machine.specs.declared.step.Lifecycle.{Lifecycle}
use Rattle.cdi_machine.specs.declared.step.Step.{Step}
use Rattle.cdi_machine.specs.Tables as machine
use Rattle.cdi_machine.specs.Words.{Asked}
use Rattle.cdi_numbered_plans.specs.Life.{ManagedLife, NumberedPlan}
use Rattle.cdi_numbered_plans.specs.Machine.{machine_injection, machine_kind, machine_observer, machine_resolution}
use Rattle.cdi_numbered_plans.specs.Numbered.{bodies_by, can_number, can_number_observers, has_few_beans, resolution_by}
use Rattle.cdi_numbered_plans.specs.declared.numbering.Numbering.{Numbering}
use Rattle.cdi_plans.specs.declared.plan.Plan.{Plan}
use Rattle.cdi_plans.specs.declared.plan.Plan.TheVariants as plans
use Rattle.cdi_plans.specs.declared.plan.ProductPlan.{ProductPlan}

-- the steps of a managed bean, and what runs where an instance is destroyed
pub record TellsManaged (c : machine.Managed) (life : ManagedLife) : Type 0 where
  pub plan : map step_told life.steps ≡ c.plan
  pub pre_destroy : lifecycle_told life.pre_destroy ≡ c.pre_destroy

abbrev pub Tells : machine.Kind → NumberedPlan → Type 0
Tells (machine.Kind.Class c) (NumberedPlan.Managed life) = TellsManaged c life
Tells (machine.Kind.Producer p) (NumberedPlan.Produced product) = product_told product ≡ p
Tells kind plan = ⊥

-- there is one where the machine has a bean, and it tells of that
abbrev pub TellsOf : Option machine.Kind → Option NumberedPlan → Type 0
TellsOf None None = Unit {0}
TellsOf (Some kind) (Some plan) = Tells kind plan
TellsOf kind plan = ⊥

-- what the machine is told of resolution
abbrev pub resolve_by : Numbering → Asked → machine.Resolution
resolve_by n asked = machine_resolution (resolution_by n asked.type asked.qualifiers)

module _ (resolve : Asked → machine.Resolution) where
  abbrev pub IsResolvedPlan : NumberedPlan → Type 0
  IsResolvedPlan (NumberedPlan.Managed life) = All (IsResolvedStep resolve) life.steps
  IsResolvedPlan (NumberedPlan.Produced product) = IsResolvedProduct resolve product

  abbrev pub IsResolvedIfAny : Option NumberedPlan → Type 0
  IsResolvedIfAny None = Unit {0}
  IsResolvedIfAny (Some plan) = IsResolvedPlan plan

-- what is made of a plan
pub record IsNumberedPlan (n : Numbering) (plan : Plan) (made : Option NumberedPlan)
    : Type 0 where
  pub tells :
      can_number n plan ≡ true
      → TellsOf (machine_kind (bodies_by n) n.resolver.now.beans plan) made
  pub none : can_number n plan ≡ false → made ≡ None
  pub resolved : IsResolvedIfAny (resolve_by n) made

-- what is made of the plan of a product
abbrev pub IsNumberedProduct : Numbering → ProductPlan → Option Product → Type 0
IsNumberedProduct n plan made =
    IsNumberedPlan n (plans.Product plan) (option_map NumberedPlan.Produced made)

-- what is made of the injected fields of an interceptor
pub record AreInjectionsBy (n : Numbering) (fields : List InjectedField) (made : List Step)
    : Type 0 where
  pub tells : has_few_beans n ≡ true → map step_told made ≡ map machine_injection fields
  pub resolved : All (IsResolvedStep (resolve_by n)) made

-- what is made of observers
pub record AreObserversBy (n : Numbering) (observers : List PlannedObserver) (made : List Observer)
    : Type 0 where
  pub tells :
      can_number_observers n observers ≡ true
      → map observer_told made ≡ map (machine_observer (bodies_by n)) observers
  pub resolved : All (IsResolvedObserver (resolve_by n)) made

-- ---- parts

abbrev pub steps_in : NumberedPlan → List Step
steps_in (NumberedPlan.Managed life) = life.steps
steps_in (NumberedPlan.Produced product) = []

abbrev pub pre_destroy_in : NumberedPlan → Option Lifecycle
pre_destroy_in (NumberedPlan.Managed life) = Some life.pre_destroy
pre_destroy_in (NumberedPlan.Produced product) = None

abbrev pub product_in : NumberedPlan → Option Product
product_in (NumberedPlan.Managed life) = None
product_in (NumberedPlan.Produced product) = Some product
