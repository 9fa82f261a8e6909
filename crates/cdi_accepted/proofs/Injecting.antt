-- The steps of a plan inject each field that the classes of its line declare.
use Rattle.std.proofs.Common.{ℕ, ◌≡◌, inl, inr, Bool, true, false, cond, List, [], ◌∷◌, ◌++◌, map, filter, Option, refl, sym, subst}
use Rattle.std.specs.List.{filter_map}
use Rattle.cdi_beans.specs.declared.bean.Bean.{Bean}
use Rattle.cdi_plans.specs.Chains.{ChainTables, interceptors_of}
use Rattle.cdi_deployment.specs.declared.deployment.Class.{Class}
use Rattle.cdi_deployment.specs.declared.deployment.Constructor.{Constructor}
use Rattle.cdi_deployment.specs.declared.deployment.InjectedField.{InjectedField}
use Rattle.cdi_deployment.specs.declared.deployment.Point.{Point}
use Rattle.cdi_machine.specs.Tables as machine
use Rattle.cdi_planner.specs.Codes.{completion}
use Rattle.cdi_planner.specs.Steps.{class_steps, construction, initialization, injection, injections, steps_of}
use Rattle.cdi_plans.specs.declared.plan.Step.{Step}
use Rattle.cdi_plans.specs.declared.plan.Step.TheVariants as steps
use Rattle.cdi_run_tables.specs.Machine.{asked_by, does_something, machine_step, machine_steps}
use Rattle.cdi_types.specs.Members.{comes_down, members_of, parts_of}
use Rattle.cdi_ledger.specs.Whose.{IsIn}
use Rattle.cdi_whole.specs.Fits.{injected_by}
use Rattle.cdi_accepted.proofs.Fields.{IsInjected}
use Rattle.cdi_accepted.proofs.Lists.{Among, among_left, among_right, among_map}

-- what a step of a plan injects, the machine's steps inject
pub injects : (ids : ℕ → Option ℕ) (all : List Step) (field : ℕ) (point : Point) → Among (steps.Inject field point) all → IsIn (field, asked_by point) (injected_by (machine_steps ids all))
injects ids [] field point a = absurd a
injects ids (s ∷ more) field point (inl same) =
    let P : Step → Type 0 = λ x. IsIn (field, asked_by point) (injected_by (machine_steps ids (x ∷ more))) in
    subst P same (inl refl)
injects ids (s ∷ more) field point (inr a) = by s (injects ids more field point a)
  where
    passed : (b : Bool) (x : Step) → ((all : List machine.Step) → injected_by (machine_step ids x ∷ all) ≡ injected_by all) → IsIn (field, asked_by point) (injected_by (machine_steps ids more))
        → IsIn (field, asked_by point) (injected_by (map (machine_step ids) (cond b (x ∷ filter does_something more) (filter does_something more))))
    passed true x e q = subst (λ l. IsIn (field, asked_by point) l) (sym (e (machine_steps ids more))) q
    passed false x e q = q

    by : (x : Step) → IsIn (field, asked_by point) (injected_by (machine_steps ids more)) → IsIn (field, asked_by point) (injected_by (machine_steps ids (x ∷ more)))
    by (steps.Intercept k) q = q
    by (steps.Construct points l) q = passed (does_something (steps.Construct points l)) (steps.Construct points l) (λ all. refl) q
    by (steps.Inject f p) q = inr q
    by (steps.Initialize code points) q = q
    by (steps.Complete l) q = passed (does_something (steps.Complete l)) (steps.Complete l) (λ all. refl) q

to_injections : (line : List Class) (f : InjectedField) → IsInjected line f → Among (injection f) (injections line)
to_injections [] f a = absurd a.stands
to_injections (c ∷ below) f a = by (to_injections below f) a.stands
  where
    by : (IsInjected below f → Among (injection f) (injections below)) → Among a.class (c ∷ below) → Among (injection f) (injections (c ∷ below))
    by more (inl s) =
        let P : Class → Type 0 = λ k. Among f k.inject in
        among_left (class_steps c below) (injections below) (injection f)
        (among_left (map injection c.inject) (filter_map initialization (parts_of c (filter (comes_down below) c.members))) (injection f)
        (among_map injection c.inject f (subst P s a.declared)))
    by more (inr s) = among_right (class_steps c below) (injections below) (injection f) (more (record { class = a.class; stands = s; declared = a.declared }))

pub to_steps : (t : ChainTables) (constructor : Option Constructor) (b : Bean) (line : List Class) (f : InjectedField) → IsInjected line f → Among (injection f) (steps_of t constructor b line)
to_steps t constructor b line f a =
    let before = map steps.Intercept (interceptors_of t b) ++ (construction t b.class constructor ∷ []) in
    among_left (before ++ injections line) (steps.Complete (completion t b.class (members_of line)) ∷ []) (injection f)
    (among_right before (injections line) (injection f) (to_injections line f a))
