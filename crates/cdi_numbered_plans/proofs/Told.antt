-- What is numbered tells what the machine is told, with each point resolved.
use Rattle.std.proofs.Common.{ℕ, ◌≡◌, ◌∙◌, List, [], ◌∷◌, map, filter, true, false, Option, Some, None, Result, Ok, Err, refl, sym, ap, subst}
use Rattle.std.specs.Prelude.{option_map, IfOk}
use Rattle.std.specs.declared.alloc.AllocError.{AllocError}
use Rattle.std.proofs.lemmas.Bool.{true≢false}
use Rattle.std.specs.List.{All}
use Rattle.std.proofs.lemmas.List.Elements.{All-cons, All-nil}
use Rattle.cdi_deployment.specs.declared.deployment.InjectedField.{InjectedField}
use Rattle.cdi_deployment.specs.declared.deployment.Point.{Point}
use Rattle.cdi_event_tables.specs.Observers.{managed_bean}
use Rattle.cdi_event_tables.specs.declared.observers.PlannedObserver.{PlannedObserver}
use Rattle.cdi_machine.specs.Resolved.{AreResolved, IsResolved, IsResolvedMember, IsResolvedObserver, IsResolvedSource, IsResolvedStep}
use Rattle.cdi_machine.specs.Told.{lifecycle_told, member_told, observer_told, point_told, product_told, resolution_told, source_told, step_told}
use Rattle.cdi_machine.specs.Tables as machine
use Rattle.cdi_machine.specs.Words.{Asked}
use Rattle.cdi_machine.specs.declared.member.Observer.{Observer}
use Rattle.cdi_machine.specs.declared.member.Product.{Product}
use Rattle.cdi_machine.specs.declared.step.Step.{Step as LifeStep}
use Rattle.cdi_numbered_plans.specs.Life.{NumberedPlan}
use Rattle.cdi_numbered_plans.specs.Machine.{asked_by, does_something, machine_code, machine_injection, machine_kind, machine_lifecycle, machine_member, machine_observer, machine_resolution, machine_source, machine_step, machine_steps, product_with}
use Rattle.cdi_numbered_plans.specs.Numbered.{bodies_by, can_number, can_number_observers, has_few_beans, injection_by, lifecycle_by, member_by, numbered_resolution, observer_by, plan_by, point_by, product_by, source_by, step_by, steps_by}
use Rattle.cdi_numbered_plans.specs.Plans.{AreInjectionsBy, AreObserversBy, IsNumberedPlan, IsNumberedProduct, IsResolvedIfAny, TellsOf, resolve_by}
use Rattle.cdi_numbered_plans.specs.declared.numbering.Numbering.{Numbering}
use Rattle.cdi_plans.specs.declared.plan.InjectedMethod.{InjectedMethod}
use Rattle.cdi_plans.specs.declared.plan.Lifecycle.{Lifecycle}
use Rattle.cdi_plans.specs.declared.plan.Plan.{Plan}
use Rattle.cdi_plans.specs.declared.plan.Plan.TheVariants as plans
use Rattle.cdi_plans.specs.declared.plan.ProductPlan.{ProductPlan}
use Rattle.cdi_plans.specs.declared.plan.Source.{Source}
use Rattle.cdi_plans.specs.declared.plan.Source.TheVariants as sources
use Rattle.cdi_plans.specs.declared.plan.Step.{Step}
use Rattle.cdi_plans.specs.declared.plan.Step.TheVariants as steps
use Rattle.cdi_resolve.specs.declared.resolution.Resolution.{Resolution}
use Rattle.cdi_resolve.specs.declared.resolution.Resolution.TheVariants as resolutions

-- two ways that agree at each item
each_alike : {X Y Z : Type 0} (f : X → Y) (g : Y → Z) (h : X → Z) → ((x : X) → g (f x) ≡ h x) → (xs : List X) → map g (map f xs) ≡ map h xs
each_alike f g h alike [] = refl
each_alike f g h alike (x ∷ xs) = λ i. alike x i ∷ each_alike f g h alike xs i

-- what is so of each
each_so : {X Y : Type 0} (f : X → Y) (P : Y → Type 0) → ((x : X) → P (f x)) → (xs : List X) → All P (map f xs)
each_so f P so [] = All-nil P
each_so f P so (x ∷ xs) = All-cons P (f x) (map f xs) (so x) (each_so f P so xs)

resolution_alike : (r : Resolution) → resolution_told (numbered_resolution r) ≡ machine_resolution r
resolution_alike (resolutions.One b) = refl
resolution_alike resolutions.Nothing = refl
resolution_alike resolutions.Many = refl

module _ (n : Numbering) where
  abbrev ids : ℕ → Option ℕ
  ids name = bodies_by n name

  points_alike : (points : List Point) → map point_told (map (point_by n) points) ≡ map asked_by points
  points_alike points = each_alike (point_by n) point_told asked_by (λ p. refl) points

  lifecycle_alike : (l : Lifecycle) → lifecycle_told (lifecycle_by ids l) ≡ machine_lifecycle ids l
  lifecycle_alike l = refl

  step_alike : (s : Step) → step_told (step_by n s) ≡ machine_step ids s
  step_alike (steps.Intercept i) = refl
  step_alike (steps.Construct points l) = λ i. machine.Step.Construct (points_alike points i) (lifecycle_alike l i)
  step_alike (steps.Inject field point) = refl
  step_alike (steps.Initialize code points) = λ i. machine.Step.Initialize (machine_code ids code) (points_alike points i)
  step_alike (steps.Complete l) = λ i. machine.Step.Complete (lifecycle_alike l i)

  steps_alike : (all : List Step) → map step_told (steps_by n all) ≡ machine_steps ids all
  steps_alike all = each_alike (step_by n) step_told (machine_step ids) step_alike (filter does_something all)

  member_alike : (m : InjectedMethod) → member_told (member_by n m) ≡ machine_member ids m
  member_alike m = λ i. record { code = machine_code ids m.code; points = points_alike m.points i; chain = m.chain }

  source_alike : (s : Source) → source_told (source_by n s) ≡ machine_source ids s
  source_alike (sources.ProducerMethod m) = λ i. machine.Source.ProducerMethod (member_alike m i)
  source_alike (sources.ProducerField field) = refl

  observer_alike : (o : PlannedObserver) → observer_told (observer_by n o) ≡ machine_observer ids o
  observer_alike o = λ i. record { bean = o.bean; member = member_alike o.member i; conditional = o.conditional }

  product_alike : (p : ProductPlan) (b : ℕ) → product_told (product_by n p b) ≡ record { declaring = b; source = machine_source ids p.source; disposers = map (machine_member ids) p.disposers }
  product_alike p b = λ i. record { declaring = b; source = source_alike p.source i; disposers = each_alike (member_by n) member_told (machine_member ids) member_alike p.disposers i }

  product_told_of : (p : ProductPlan) (b : Option ℕ) → TellsOf (option_map (product_with ids p) b) (option_map (λ k. NumberedPlan.Produced (product_by n p k)) b)
  product_told_of p None = tt
  product_told_of p (Some b) = product_alike p b

  pub tells : (plan : Plan) → TellsOf (machine_kind ids n.resolver.now.beans plan) (plan_by n plan)
  tells (plans.Managed p) = record { plan = steps_alike p.steps; pre_destroy = lifecycle_alike p.pre_destroy }
  tells (plans.Product p) = product_told_of p (managed_bean n.resolver.now.beans p.declaring)

  -- ---- points

  abbrev resolve : Asked → machine.Resolution
  resolve asked = resolve_by n asked

  one_resolved : (p : Point) → IsResolved resolve (point_by n p)
  one_resolved p = resolution_alike _

  all_resolved : (points : List Point) → AreResolved resolve (map (point_by n) points)
  all_resolved points = each_so (point_by n) (IsResolved resolve) one_resolved points

  step_resolved : (s : Step) → IsResolvedStep resolve (step_by n s)
  step_resolved (steps.Intercept i) = tt
  step_resolved (steps.Construct points l) = all_resolved points
  step_resolved (steps.Inject field point) = one_resolved point
  step_resolved (steps.Initialize code points) = all_resolved points
  step_resolved (steps.Complete l) = tt

  member_resolved : (m : InjectedMethod) → IsResolvedMember resolve (member_by n m)
  member_resolved m = all_resolved m.points

  source_resolved : (s : Source) → IsResolvedSource resolve (source_by n s)
  source_resolved (sources.ProducerMethod m) = member_resolved m
  source_resolved (sources.ProducerField field) = tt

  pub each_observer_told : (os : List PlannedObserver) → map observer_told (map (observer_by n) os) ≡ map (machine_observer ids) os
  each_observer_told os = each_alike (observer_by n) observer_told (machine_observer ids) observer_alike os

  pub each_observer_resolved : (os : List PlannedObserver) → All (IsResolvedObserver resolve) (map (observer_by n) os)
  each_observer_resolved os = each_so (observer_by n) (IsResolvedObserver resolve) (λ o. member_resolved o.member) os

  product_resolved : (p : ProductPlan) (b : Option ℕ) → IsResolvedIfAny resolve (option_map (λ k. NumberedPlan.Produced (product_by n p k)) b)
  product_resolved p None = tt
  product_resolved p (Some b) = record { source = source_resolved p.source; disposers = each_so (member_by n) (IsResolvedMember resolve) member_resolved p.disposers }

  pub resolved : (plan : Plan) → IsResolvedIfAny resolve (plan_by n plan)
  resolved (plans.Managed p) = each_so (step_by n) (IsResolvedStep resolve) step_resolved (filter does_something p.steps)
  resolved (plans.Product p) = product_resolved p (managed_bean n.resolver.now.beans p.declaring)

-- what is made of injected fields
pub injections_made : (n : Numbering) (fields : List InjectedField) (r : Result (List LifeStep) AllocError) → IfOk r (λ all. all ≡ map (injection_by n) fields) → IfOk r (AreInjectionsBy n fields)
injections_made n fields (Ok all) e =
    subst (AreInjectionsBy n fields) (sym e)
    (record {
      tells = λ few. each_alike (injection_by n) step_told machine_injection (λ f. refl) fields;
      resolved = each_so (injection_by n) (IsResolvedStep (resolve_by n)) (λ f. resolution_alike _) fields;
    })
injections_made n fields (Err x) e = tt

-- there are none where there are too many beans
pub no_injections : (n : Numbering) (fields : List InjectedField) → has_few_beans n ≡ false → AreInjectionsBy n fields []
no_injections n fields many = record { tells = λ few. absurd (true≢false (sym few ∙ many)); resolved = All-nil (IsResolvedStep (resolve_by n)) }

-- what is made of observers
pub observers_made : (n : Numbering) (os : List PlannedObserver) (r : Result (List Observer) AllocError) → IfOk r (λ all. all ≡ map (observer_by n) os) → IfOk r (AreObserversBy n os)
observers_made n os (Ok all) e = subst (AreObserversBy n os) (sym e) (record { tells = λ can. each_observer_told n os; resolved = each_observer_resolved n os })
observers_made n os (Err x) e = tt

-- there are none where they can't be numbered
pub no_observers : (n : Numbering) (os : List PlannedObserver) → can_number_observers n os ≡ false → AreObserversBy n os []
no_observers n os cant = record { tells = λ can. absurd (true≢false (sym can ∙ cant)); resolved = All-nil (IsResolvedObserver (resolve_by n)) }

-- what is made of a plan whose names can be numbered is as it should be
pub is_numbered_plan : (n : Numbering) (plan : Plan) → can_number n plan ≡ true → IsNumberedPlan n plan (plan_by n plan)
is_numbered_plan n plan can = record { tells = λ h. tells n plan; none = λ h. absurd (true≢false (sym can ∙ h)); resolved = resolved n plan }

-- so is what is made of a product's
pub product_made : (n : Numbering) (plan : ProductPlan) → can_number n (plans.Product plan) ≡ true → (r : Result (Option Product) AllocError)
    → IfOk r (λ m. m ≡ option_map (product_by n plan) (managed_bean n.resolver.now.beans plan.declaring)) → IfOk r (IsNumberedProduct n plan)
product_made n plan can (Ok m) e =
    subst (IsNumberedPlan n (plans.Product plan)) (sym (ap (option_map NumberedPlan.Produced) e ∙ by (managed_bean n.resolver.now.beans plan.declaring)))
    (is_numbered_plan n (plans.Product plan) can)
  where
    by : (b : Option ℕ) → option_map NumberedPlan.Produced (option_map (product_by n plan) b) ≡ option_map (λ k. NumberedPlan.Produced (product_by n plan k)) b
    by None = refl
    by (Some b) = refl
product_made n plan can (Err x) e = tt
