-- The steps by which an instance of a managed bean is created (Jakarta CDI 4.0, Lifecycle of managed beans).
use Rattle.std.specs.Prelude.{ℕ, List, [], ◌∷◌, ◌++◌, map, filter, Option, Some, None}
use Rattle.std.specs.List.{filter_map}
use Rattle.cdi_base.specs.declared.place.InterceptorMethod.TheVariants as methods
use Rattle.cdi_beans.specs.declared.bean.Bean.{Bean}
use Rattle.cdi_plans.specs.Chains.{ChainTables, interceptors_of}
use Rattle.cdi_deployment.specs.declared.deployment.Class.{Class}
use Rattle.cdi_deployment.specs.declared.deployment.Constructor.{Constructor}
use Rattle.cdi_deployment.specs.declared.deployment.InjectedField.{InjectedField}
use Rattle.cdi_deployment.specs.declared.deployment.Member.{Member}
use Rattle.cdi_deployment.specs.declared.deployment.Member.TheVariants as members
use Rattle.cdi_types.specs.Members.{comes_down, members_of, parts_of}
use Rattle.cdi_planner.specs.Codes.{member_code, constructor_body, lifecycle, completion}
use Rattle.cdi_plans.specs.declared.plan.Step.{Step}
use Rattle.cdi_plans.specs.declared.plan.Step.TheVariants as steps

-- the construction of an instance; without a constructor there is nothing to inject, and no body
abbrev pub construction : ChainTables → ℕ → Option Constructor → Step
construction t bean None = steps.Construct [] (lifecycle t bean methods.AroundConstruct [])
construction t bean (Some c) =
    steps.Construct c.params
    (lifecycle t bean methods.AroundConstruct (constructor_body bean c.body))

abbrev pub injection : InjectedField → Step
injection f = steps.Inject f.name (record { ty = f.ty; quals = f.quals })

abbrev pub initialization : Class × Member → Option Step
initialization (c, members.Initializer m) =
    Some (steps.Initialize (member_code c m.name m.body) m.params)
initialization (c, m) = None

-- the injected fields of a class, and then those of its members that are initializers, if they come down to the bean past the classes below
abbrev pub class_steps : Class → List Class → List Step
class_steps c below =
    map injection c.inject
    ++ filter_map initialization (parts_of c (filter (comes_down below) c.members))

-- class by class, the topmost superclass first
abbrev pub injections : List Class → List Step
injections [] = []
injections (c ∷ below) = class_steps c below ++ injections below

-- instances of the interceptors in any chain of the bean, in the order of interceptors, and the constructor
abbrev pub first_steps : ChainTables → Option Constructor → Bean → List Step
first_steps t constructor b =
    map steps.Intercept (interceptors_of t b) ++ construction t b.class constructor ∷ []

-- Instances of the interceptors in any chain of the bean, in the order of interceptors; the constructor; class by class the injected
-- fields and the initializers; and the post-construct chain and callbacks.
abbrev pub steps_of : ChainTables → Option Constructor → Bean → List Class → List Step
steps_of t constructor b line =
    map steps.Intercept (interceptors_of t b) ++ construction t b.class constructor ∷ []
    ++ injections line
    ++ steps.Complete (completion t b.class (members_of line)) ∷ []
