-- The bodies of what a bean has, each with the member that it is of, and the interceptors round it (Jakarta Interceptors 2.1,
-- Interceptor Ordering). Where a bean is a number here, that is the name of its class.
use Rattle.std.specs.Prelude.{ℕ, List, [], ◌∷◌, Option, Some, None}
use Rattle.std.specs.List.{filter_map}
use Rattle.cdi_base.specs.declared.place.InterceptorMethod.{InterceptorMethod}
use Rattle.cdi_base.specs.declared.place.InterceptorMethod.TheVariants as methods
use Rattle.cdi_base.specs.declared.place.Place.TheVariants as places
use Rattle.cdi_plans.specs.Chains.{ChainTables, invoke_chain, life_chain}
use Rattle.cdi_deployment.specs.declared.deployment.Class.{Class}
use Rattle.cdi_deployment.specs.declared.deployment.Member.{Member}
use Rattle.cdi_deployment.specs.declared.deployment.Member.TheVariants as members
use Rattle.cdi_deployment.specs.declared.deployment.Point.{Point}
use Rattle.cdi_plans.specs.declared.plan.BusinessMethod.{BusinessMethod}
use Rattle.cdi_plans.specs.declared.plan.Code.{Code}
use Rattle.cdi_plans.specs.declared.plan.InjectedMethod.{InjectedMethod}
use Rattle.cdi_plans.specs.declared.plan.Lifecycle.{Lifecycle}

-- the body of a member of this name, which the class declares
abbrev pub member_code : Class → ℕ → ℕ → Code
member_code c name body = record { place = places.Member c.name name; body = body }

-- the chain of a member of this name, which the class declares
abbrev pub member_chain : ChainTables → ℕ → Class → ℕ → List ℕ
member_chain t bean c name = invoke_chain t bean (record { class = c.name; name = name })

abbrev pub post_construct : Class × Member → Option Code
post_construct (c, members.PostConstruct m) = Some (member_code c m.name m.body)
post_construct (c, m) = None

abbrev pub pre_destroy : Class × Member → Option Code
pre_destroy (c, members.PreDestroy m) = Some (member_code c m.name m.body)
pre_destroy (c, m) = None

-- the body of the constructor, if it has one
abbrev pub constructor_body : ℕ → Option ℕ → List Code
constructor_body bean None = []
constructor_body bean (Some body) = record { place = places.Constructor bean; body = body } ∷ []

-- the chain of a bean for this method of interceptors, and these callbacks at its end
abbrev pub lifecycle : ChainTables → ℕ → InterceptorMethod → List Code → Lifecycle
lifecycle t bean method callbacks =
    record { chain = life_chain t bean method; callbacks = callbacks }

-- the post-construct chain, and the callbacks among the members of a bean
abbrev pub completion : ChainTables → ℕ → List (Class × Member) → Lifecycle
completion t bean has = lifecycle t bean methods.PostConstruct (filter_map post_construct has)

-- the pre-destroy chain, and the callbacks among the members of a bean
abbrev pub destruction : ChainTables → ℕ → List (Class × Member) → Lifecycle
destruction t bean has = lifecycle t bean methods.PreDestroy (filter_map pre_destroy has)

-- a business method of a bean
abbrev pub business_method : ChainTables → ℕ → Class × Member → Option BusinessMethod
business_method t bean (c, members.Method m) =
    Some (record {
      name = m.name;
      code = member_code c m.name m.body;
      count = m.args;
      chain = member_chain t bean c m.name;
    })
business_method t bean (c, m) = None

-- a producer method, a disposer or an observer of a bean, which the class declares
abbrev pub injected_method : ChainTables → ℕ → Class → ℕ → ℕ → List Point → InjectedMethod
injected_method t bean c name body points =
    record { code = member_code c name body; points = points; chain = member_chain t bean c name }
