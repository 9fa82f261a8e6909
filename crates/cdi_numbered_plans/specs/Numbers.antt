-- The steps of a plan, and the places of interceptors in it and round observers, have numbers of 32 bits.
use Rattle.std.specs.Prelude.{ℕ, ◌&&◌, ◌^◌, List, Bool, true, length, nat_lt}
use Rattle.std.specs.List.{list_all}
use Rattle.cdi_event_tables.specs.declared.observers.PlannedObserver.{PlannedObserver}
use Rattle.cdi_plans.specs.declared.plan.BusinessMethod.{BusinessMethod}
use Rattle.cdi_plans.specs.declared.plan.InjectedMethod.{InjectedMethod}
use Rattle.cdi_plans.specs.declared.plan.Lifecycle.{Lifecycle}
use Rattle.cdi_plans.specs.declared.plan.ManagedPlan.{ManagedPlan}
use Rattle.cdi_plans.specs.declared.plan.Plan.{Plan}
use Rattle.cdi_plans.specs.declared.plan.Plan.TheVariants as plans
use Rattle.cdi_plans.specs.declared.plan.ProductPlan.{ProductPlan}
use Rattle.cdi_plans.specs.declared.plan.Source.{Source}
use Rattle.cdi_plans.specs.declared.plan.Source.TheVariants as sources
use Rattle.cdi_plans.specs.declared.plan.Step.{Step}
use Rattle.cdi_plans.specs.declared.plan.Step.TheVariants as steps

abbrev pub is_number : ℕ → Bool
is_number n = nat_lt n (2 ^ 32)

abbrev pub are_numbers : List ℕ → Bool
are_numbers places = list_all is_number places

abbrev pub numbers_lifecycle : Lifecycle → Bool
numbers_lifecycle l = are_numbers l.chain

abbrev pub numbers_step : Step → Bool
numbers_step (steps.Intercept i) = is_number i
numbers_step (steps.Construct points l) = numbers_lifecycle l
numbers_step (steps.Complete l) = numbers_lifecycle l
numbers_step step = true

abbrev pub numbers_method : BusinessMethod → Bool
numbers_method m = are_numbers m.chain

abbrev pub numbers_methods : List BusinessMethod → Bool
numbers_methods methods = list_all numbers_method methods

abbrev pub numbers_member : InjectedMethod → Bool
numbers_member m = are_numbers m.chain

abbrev pub numbers_source : Source → Bool
numbers_source (sources.ProducerMethod m) = numbers_member m
numbers_source (sources.ProducerField field) = true

abbrev pub numbers_managed : ManagedPlan → Bool
numbers_managed p =
    is_number (length p.steps) && list_all numbers_step p.steps && numbers_lifecycle p.pre_destroy
    && numbers_methods p.methods

abbrev pub numbers_product : ProductPlan → Bool
numbers_product p = numbers_source p.source && list_all numbers_member p.disposers

-- all steps and places in what an instance is made by, what runs where it is destroyed, and its methods
abbrev pub has_numbers : Plan → Bool
has_numbers (plans.Managed p) = numbers_managed p
has_numbers (plans.Product p) = numbers_product p

-- ---- observers

-- the places of the interceptors round each
abbrev pub observers_have_numbers : List PlannedObserver → Bool
observers_have_numbers observers = list_all (λ (o : PlannedObserver). numbers_member o.member) observers

-- and its bean
abbrev pub numbers_observer : PlannedObserver → Bool
numbers_observer o = is_number o.bean && numbers_member o.member

abbrev pub numbers_observers : List PlannedObserver → Bool
numbers_observers observers = list_all numbers_observer observers
