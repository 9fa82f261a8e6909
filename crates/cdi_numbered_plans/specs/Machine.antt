-- What the machine is told of a plan.
use Rattle.std.specs.Prelude.{ℕ, ◌&&◌, List, [], ◌∷◌, map, filter, fold, Bool, true, false, not, Option, Some, None, option_map, unwrap_or}
use Rattle.std.specs.List.{filter_map}
use Rattle.cdi_base.specs.Fields.{put}
use Rattle.cdi_base.specs.Maps.{at}
use Rattle.cdi_beans.specs.declared.bean.Bean.{Bean}
use Rattle.cdi_deployment.specs.declared.deployment.Field.{Field}
use Rattle.cdi_deployment.specs.declared.deployment.InjectedField.{InjectedField}
use Rattle.cdi_deployment.specs.declared.deployment.Point.{Point}
use Rattle.cdi_event_tables.specs.Observers.{managed_bean}
use Rattle.cdi_event_tables.specs.declared.observers.PlannedObserver.{PlannedObserver}
use Rattle.cdi_machine.specs.Words.{Name, Asked, Fields}
use Rattle.cdi_machine.specs.Tables as machine
use Rattle.cdi_plans.specs.declared.plan.BusinessMethod.{BusinessMethod}
use Rattle.cdi_plans.specs.declared.plan.Code.{Code}
use Rattle.cdi_plans.specs.declared.plan.InjectedMethod.{InjectedMethod}
use Rattle.cdi_plans.specs.declared.plan.Lifecycle.{Lifecycle}
use Rattle.cdi_plans.specs.declared.plan.ManagedPlan.{ManagedPlan}
use Rattle.cdi_plans.specs.declared.plan.Plan.{Plan}
use Rattle.cdi_plans.specs.declared.plan.Plan.TheVariants as plans
use Rattle.cdi_plans.specs.declared.plan.ProductPlan.{ProductPlan}
use Rattle.cdi_plans.specs.declared.plan.Source.{Source}
use Rattle.cdi_plans.specs.declared.plan.Source.TheVariants as sources
use Rattle.cdi_plans.specs.declared.plan.Step.{Step}
use Rattle.cdi_plans.specs.declared.plan.Step.TheVariants as steps
use Rattle.cdi_resolve.specs.declared.resolution.Resolution.{Resolution}
use Rattle.cdi_resolve.specs.declared.resolution.Resolution.TheVariants as resolutions

abbrev pub asked_by : Point → Asked
asked_by p = record { type = p.ty; qualifiers = p.quals }

-- A body is known by its number; ids tells the numbers of names. Where none is registered, this is the number of no body.
abbrev pub body_number : (ℕ → Option ℕ) → ℕ → ℕ
body_number ids name = unwrap_or (ids name) 4096

abbrev pub code_with : Code → ℕ → machine.Code
code_with c body = record { place = c.place; body = body }

abbrev pub machine_code : (ℕ → Option ℕ) → Code → machine.Code
machine_code ids c = code_with c (body_number ids c.body)

abbrev pub machine_lifecycle : (ℕ → Option ℕ) → Lifecycle → machine.Lifecycle
machine_lifecycle ids l = record { chain = l.chain; callbacks = map (machine_code ids) l.callbacks }

abbrev pub method_with : BusinessMethod → ℕ → Name × machine.Method
method_with m body =
    (m.name, record { code = code_with m.code body; count = m.count; chain = m.chain })

-- a business method by its name; one whose body isn't registered is left out
abbrev pub machine_method : (ℕ → Option ℕ) → BusinessMethod → Option (Name × machine.Method)
machine_method ids m = option_map (method_with m) (ids m.code.body)

abbrev pub machine_methods : (ℕ → Option ℕ) → List BusinessMethod → List (Name × machine.Method)
machine_methods ids methods = filter_map (machine_method ids) methods

-- the method of a name that a plan has
abbrev pub method_in : (ℕ → Option ℕ) → Plan → Name → Option machine.Method
method_in ids (plans.Managed p) name = at (machine_methods ids p.methods) name
method_in ids (plans.Product p) name = None

abbrev pub machine_member : (ℕ → Option ℕ) → InjectedMethod → machine.Member
machine_member ids m =
    record { code = machine_code ids m.code; points = map asked_by m.points; chain = m.chain }

abbrev pub machine_observer : (ℕ → Option ℕ) → PlannedObserver → machine.Observer
machine_observer ids o =
    record { bean = o.bean; member = machine_member ids o.member; conditional = o.conditional }

abbrev pub machine_step : (ℕ → Option ℕ) → Step → machine.Step
machine_step ids (steps.Intercept i) = machine.Step.Intercept i
machine_step ids (steps.Construct points l) =
    machine.Step.Construct (map asked_by points) (machine_lifecycle ids l)
machine_step ids (steps.Inject field point) = machine.Step.Inject field (asked_by point)
machine_step ids (steps.Initialize code points) =
    machine.Step.Initialize (machine_code ids code) (map asked_by points)
machine_step ids (steps.Complete l) = machine.Step.Complete (machine_lifecycle ids l)

abbrev pub has_none : {A : Type 0} → List A → Bool
has_none [] = true
has_none (x ∷ xs) = false

-- nothing runs at this point
abbrev pub is_idle : Lifecycle → Bool
is_idle l = has_none l.chain && has_none l.callbacks

-- A construction without a constructor and without interceptors round it makes nothing run, nor does such a completion.
abbrev pub does_something : Step → Bool
does_something (steps.Construct points l) = not (has_none points && is_idle l)
does_something (steps.Complete l) = not (is_idle l)
does_something step = true

-- the step of an interceptor's injected field
abbrev pub machine_injection : InjectedField → machine.Step
machine_injection f = machine.Step.Inject f.name (record { type = f.ty; qualifiers = f.quals })

abbrev pub machine_steps : (ℕ → Option ℕ) → List Step → List machine.Step
machine_steps ids all = map (machine_step ids) (filter does_something all)

-- each with its first value, in their order
abbrev pub first_values : List Field → Fields
first_values fields = fold (λ all f. put all f.name f.value) [] fields

abbrev pub machine_managed : (ℕ → Option ℕ) → ManagedPlan → machine.Managed
machine_managed ids p =
    record {
      fields = first_values p.fields;
      plan = machine_steps ids p.steps;
      methods = machine_methods ids p.methods;
      pre_destroy = machine_lifecycle ids p.pre_destroy;
    }

abbrev pub machine_source : (ℕ → Option ℕ) → Source → machine.Source
machine_source ids (sources.ProducerMethod m) =
    machine.Source.ProducerMethod (machine_member ids m)
machine_source ids (sources.ProducerField field) = machine.Source.ProducerField field

abbrev pub product_with : (ℕ → Option ℕ) → ProductPlan → ℕ → machine.Kind
product_with ids p declaring =
    machine.Kind.Producer
    (record {
      declaring = declaring;
      source = machine_source ids p.source;
      disposers = map (machine_member ids) p.disposers;
    })

-- a product is one of the managed bean of the class that declares its producer
abbrev pub machine_kind : (ℕ → Option ℕ) → List Bean → Plan → Option machine.Kind
machine_kind ids beans (plans.Managed p) = Some (machine.Kind.Class (machine_managed ids p))
machine_kind ids beans (plans.Product p) =
    option_map (product_with ids p) (managed_bean beans p.declaring)

abbrev pub machine_resolution : Resolution → machine.Resolution
machine_resolution (resolutions.One bean) = machine.Resolution.One bean
machine_resolution resolutions.Nothing = machine.Resolution.Nothing
machine_resolution resolutions.Many = machine.Resolution.Many
