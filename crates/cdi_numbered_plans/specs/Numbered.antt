-- What is numbered, in the words of an instance's life: bodies by the numbers of a table, points with what they resolve to.
use Rattle.std.specs.Prelude.{ℕ, ◌≡◌, ◌&&◌, ◌<◌, ◌≤◌, ◌^◌, List, length, Bool, nat_le, map, filter, Option, Some, option_map}
use Rattle.cdi_base.specs.declared.uses.Use.{Use}
use Rattle.cdi_bean_check.specs.Qualifiers.{full_uses}
use Rattle.cdi_deployment.specs.declared.deployment.InjectedField.{InjectedField}
use Rattle.cdi_deployment.specs.declared.deployment.Point.{Point}
use Rattle.cdi_event_tables.specs.Ids.{id_in}
use Rattle.cdi_event_tables.specs.Observers.{managed_bean}
use Rattle.cdi_event_tables.specs.declared.observers.PlannedObserver.{PlannedObserver}
use Rattle.cdi_machine.specs.declared.member.Member.{Member}
use Rattle.cdi_machine.specs.declared.member.Observer.{Observer}
use Rattle.cdi_machine.specs.declared.member.Product.{Product}
use Rattle.cdi_machine.specs.declared.member.Source.{Source as LifeSource}
use Rattle.cdi_machine.specs.declared.member.Source.TheVariants as life_sources
use Rattle.cdi_machine.specs.declared.point.Point.{Point as LifePoint}
use Rattle.cdi_machine.specs.declared.point.Resolution.{Resolution as LifeResolution}
use Rattle.cdi_machine.specs.declared.point.Resolution.TheVariants as life_resolutions
use Rattle.cdi_machine.specs.declared.step.Lifecycle.{Lifecycle as LifeCycle}
use Rattle.cdi_machine.specs.declared.step.Step.{Step as LifeStep}
use Rattle.cdi_machine.specs.declared.step.Step.TheVariants as life_steps
use Rattle.cdi_numbered_plans.specs.Life.{ManagedLife, NumberedPlan}
use Rattle.cdi_numbered_plans.specs.Machine.{does_something, machine_code}
use Rattle.cdi_numbered_plans.specs.Numbers.{has_numbers, numbers_observers}
use Rattle.cdi_numbered_plans.specs.declared.numbering.Numbering.{Numbering}
use Rattle.cdi_plans.specs.declared.plan.InjectedMethod.{InjectedMethod}
use Rattle.cdi_plans.specs.declared.plan.Lifecycle.{Lifecycle}
use Rattle.cdi_plans.specs.declared.plan.ManagedPlan.{ManagedPlan}
use Rattle.cdi_plans.specs.declared.plan.Plan.{Plan}
use Rattle.cdi_plans.specs.declared.plan.Plan.TheVariants as plans
use Rattle.cdi_plans.specs.declared.plan.ProductPlan.{ProductPlan}
use Rattle.cdi_plans.specs.declared.plan.Source.{Source}
use Rattle.cdi_plans.specs.declared.plan.Source.TheVariants as sources
use Rattle.cdi_plans.specs.declared.plan.Step.{Step}
use Rattle.cdi_plans.specs.declared.plan.Step.TheVariants as steps
use Rattle.cdi_quals.specs.declared.types.QualifierType.{QualifierType}
use Rattle.cdi_resolve.specs.Filters.{Candidates, enabled_of}
use Rattle.cdi_resolve.specs.Resolution.{resolution}
use Rattle.cdi_resolve.specs.declared.resolution.Resolution.{Resolution}
use Rattle.cdi_resolve.specs.declared.resolution.Resolution.TheVariants as resolutions

-- ---- bodies

abbrev pub lifecycle_by : (ℕ → Option ℕ) → Lifecycle → LifeCycle
lifecycle_by ids l = record { chain = l.chain; callbacks = map (machine_code ids) l.callbacks }

-- ---- points

-- at most 4,294,967,296 beans
abbrev pub has_few_beans : Numbering → Bool
has_few_beans n = nat_le (length n.resolver.now.beans) (2 ^ 32)

-- what a plan names has numbers of 32 bits
abbrev pub can_number : Numbering → Plan → Bool
can_number n plan = has_few_beans n && has_numbers plan

abbrev pub can_number_observers : Numbering → List PlannedObserver → Bool
can_number_observers n observers = has_few_beans n && numbers_observers observers

-- resolution is asked for among the enabled beans of these
abbrev pub AsksOf : Numbering → Candidates → Type 0
AsksOf n c = enabled_of c ≡ enabled_of n.resolver.now

-- the same, and each bean has a number of 32 bits
pub record AsksNumbered (n : Numbering) (c : Candidates) : Type 0 where
  pub asks : AsksOf n c
  pub few : length n.resolver.now.beans ≤ 2 ^ 32

-- what a type and qualifiers, as they were written, resolve to
abbrev pub resolution_by : Numbering → ℕ → List Use → Resolution
resolution_by n type qualifiers =
    resolution type (full_uses n.qualifiers.now qualifiers) (enabled_of n.resolver.now)

-- what the injection point of an injected field resolves to, by the types of qualifiers and the beans
abbrev pub field_resolution : List QualifierType → Candidates → InjectedField → Resolution
field_resolution types c f = resolution f.ty (full_uses types f.quals) (enabled_of c)

abbrev pub numbered_resolution : Resolution → LifeResolution
numbered_resolution (resolutions.One bean) = life_resolutions.One bean
numbered_resolution resolutions.Nothing = life_resolutions.Nothing
numbered_resolution resolutions.Many = life_resolutions.Many

-- a bean that something resolves to has a number of 32 bits
abbrev pub HasNumber : Resolution → Type 0
HasNumber (resolutions.One bean) = bean < 2 ^ 32
HasNumber told = Unit {0}

module _ (n : Numbering) where
  abbrev pub bodies_by : ℕ → Option ℕ
  bodies_by name = id_in n.ids.now name

  abbrev pub point_by : Point → LifePoint
  point_by p =
      record {
        bean_type = p.ty;
        qualifiers = p.quals;
        resolution = numbered_resolution (resolution_by n p.ty p.quals);
      }

  -- ---- steps

  abbrev pub step_by : Step → LifeStep
  step_by (steps.Intercept i) = life_steps.Intercept i
  step_by (steps.Construct points l) =
      life_steps.Construct (map point_by points) (lifecycle_by bodies_by l)
  step_by (steps.Inject field point) = life_steps.Inject field (point_by point)
  step_by (steps.Initialize code points) =
      life_steps.Initialize (machine_code bodies_by code) (map point_by points)
  step_by (steps.Complete l) = life_steps.Complete (lifecycle_by bodies_by l)

  -- that of an interceptor's injected field
  abbrev pub injection_by : InjectedField → LifeStep
  injection_by f =
      life_steps.Inject f.name
      (record {
        bean_type = f.ty;
        qualifiers = f.quals;
        resolution = numbered_resolution (resolution_by n f.ty f.quals);
      })

  -- those at which something runs
  abbrev pub steps_by : List Step → List LifeStep
  steps_by all = map step_by (filter does_something all)

  -- ---- products

  abbrev pub member_by : InjectedMethod → Member
  member_by m =
      record {
        code = machine_code bodies_by m.code;
        points = map point_by m.points;
        chain = m.chain;
      }

  abbrev pub source_by : Source → LifeSource
  source_by (sources.ProducerMethod m) = life_sources.Method (member_by m)
  source_by (sources.ProducerField field) = life_sources.Field field

  abbrev pub product_by : ProductPlan → ℕ → Product
  product_by p declaring =
      record {
        declaring = declaring;
        source = source_by p.source;
        disposers = map member_by p.disposers;
      }

  -- ---- observers

  abbrev pub observer_by : PlannedObserver → Observer
  observer_by o =
      record { bean = o.bean; member = member_by o.member; conditional = o.conditional }

  -- ---- plans

  abbrev pub managed_by : ManagedPlan → ManagedLife
  managed_by p =
      record { steps = steps_by p.steps; pre_destroy = lifecycle_by bodies_by p.pre_destroy }

  -- a product is one of the managed bean of the class that declares its producer
  abbrev pub plan_by : Plan → Option NumberedPlan
  plan_by (plans.Managed p) = Some (NumberedPlan.Managed (managed_by p))
  plan_by (plans.Product p) =
      option_map (λ b. NumberedPlan.Produced (product_by p b))
      (managed_bean n.resolver.now.beans p.declaring)
