-- A plan has at most as many injected fields as the classes of its line declare.
use Rattle.std.proofs.Common.{ℕ, suc, ◌≡◌, ◌∙◌, ◌+◌, ◌*◌, ◌≤◌, List, [], ◌∷◌, ◌++◌, filter, length, map, Option, Some, None, refl, ap, arith, length-append}
use Rattle.std.proofs.lemmas.List.Elements.{filter_map-append}
use Rattle.std.specs.List.{AllByRecursion, filter_map}
use Rattle.cdi_beans.specs.declared.bean.Bean.{Bean}
use Rattle.cdi_plans.specs.Chains.{ChainTables, interceptors_of}
use Rattle.cdi_deployment.specs.declared.deployment.Class.{Class}
use Rattle.cdi_deployment.specs.declared.deployment.Constructor.{Constructor}
use Rattle.cdi_deployment.specs.declared.deployment.InjectedField.{InjectedField}
use Rattle.cdi_deployment.specs.declared.deployment.Member.{Member}
use Rattle.cdi_deployment.specs.declared.deployment.Member.TheVariants as members
use Rattle.cdi_types.specs.Members.{comes_down, members_of, parts_of}
use Rattle.cdi_planner.specs.Codes.{completion}
use Rattle.cdi_planner.specs.Steps.{class_steps, construction, initialization, injection, injections, steps_of}
use Rattle.cdi_plans.specs.declared.plan.Step.{Step}
use Rattle.cdi_plans.specs.declared.plan.Step.TheVariants as steps
use Rattle.cdi_run_tables.specs.Managed.{injected}
use Rattle.cdi_report.proofs.Within.{HasFew}

-- how many of some steps inject a field
abbrev pub count : List Step → ℕ
count all = length (filter_map injected all)

count-append : (xs ys : List Step) → count (xs ++ ys) ≡ count xs + count ys
count-append xs ys =
    ap length (filter_map-append injected xs ys)
    ∙ length-append (filter_map injected xs) (filter_map injected ys)

-- each injected field is one
of_fields : (fields : List InjectedField) → count (map injection fields) ≡ length fields
of_fields [] = refl
of_fields (f ∷ fields) = ap (λ n. suc n) (of_fields fields)

-- initializers inject no field
of_initializers : (ms : List (Class × Member)) → count (filter_map initialization ms) ≡ 0
of_initializers [] = refl
of_initializers ((c, members.Initializer m) ∷ ms) = of_initializers ms
of_initializers ((c, members.Method m) ∷ ms) = of_initializers ms
of_initializers ((c, members.PostConstruct m) ∷ ms) = of_initializers ms
of_initializers ((c, members.PreDestroy m) ∷ ms) = of_initializers ms
of_initializers ((c, members.Producer m) ∷ ms) = of_initializers ms
of_initializers ((c, members.ProducerField m) ∷ ms) = of_initializers ms
of_initializers ((c, members.Disposer m) ∷ ms) = of_initializers ms
of_initializers ((c, members.Observer m) ∷ ms) = of_initializers ms

-- a class has the injected fields that it declares
of_class : (c : Class) (below : List Class) → count (class_steps c below) ≡ length c.inject
of_class c below =
    let initializers = parts_of c (filter (comes_down below) c.members) in
    omega (
      arith,
      count-append (map injection c.inject) (filter_map initialization initializers),
      of_fields c.inject,
      of_initializers initializers,
    )

-- a line of classes that declare few
of_line : (line : List Class) → AllByRecursion HasFew line
    → count (injections line) ≤ length line * 64
of_line [] few = omega arith
of_line (c ∷ below) few =
    omega (
      arith,
      count-append (class_steps c below) (injections below),
      of_class c below,
      few.0,
      of_line below few.1,
    )

-- instances of interceptors are no fields
of_interceptors : (places : List ℕ) → count (map steps.Intercept places) ≡ 0
of_interceptors [] = refl
of_interceptors (place ∷ places) = of_interceptors places

module _ (t : ChainTables) (b : Bean) (line : List Class) where
  of_construction : (constructor : Option Constructor)
      → count (construction t b.class constructor ∷ []) ≡ 0
  of_construction None = refl
  of_construction (Some c) = refl

  pub few_injections : (constructor : Option Constructor) → AllByRecursion HasFew line
      → count (steps_of t constructor b line) ≤ length line * 64
  few_injections constructor few =
      let first : List Step = map steps.Intercept (interceptors_of t b) in
      let made : List Step = construction t b.class constructor ∷ [] in
      let last : List Step = steps.Complete (completion t b.class (members_of line)) ∷ [] in
      let none : count last ≡ 0 = refl in
      omega (
        arith,
        count-append (first ++ made ++ injections line) last,
        count-append (first ++ made) (injections line),
        count-append first made,
        of_interceptors (interceptors_of t b),
        of_construction constructor,
        of_line line few,
        none,
      )
