-- What is asked of the tables and of the world, as the definition has it.
use Rattle.std.specs.Prelude.{ℕ, ◌^◌, ◌<◌, List, [], ◌∷◌, ◌-◌, length, drop, is_some, map, Bool, true, false, Option, Some, None, nat_lt, option_map, option_and_then}
use Rattle.cdi_base.specs.declared.place.InterceptorMethod.{InterceptorMethod}
use Rattle.cdi_base.specs.declared.place.Place.TheVariants as places
use Rattle.cdi_base.specs.declared.scope.Scope.{Scope}
use Rattle.cdi_base.specs.declared.uses.Use.{Use}
use Rattle.cdi_base.specs.Fields.{has}
use Rattle.cdi_base.specs.Maps.{at}
use Rattle.cdi_store.specs.declared.instance.Component.{Component}
use Rattle.cdi_store.specs.declared.instance.Component.TheVariants as components
use Rattle.cdi_store.specs.declared.instance.Instance.{Instance}
use Rattle.cdi_store.specs.declared.references.Reference.{Reference}
use Rattle.cdi_store.specs.Owned.{dependents_in}
use Rattle.cdi_contexts.specs.declared.context.Held.{Held}
use Rattle.cdi_contexts.specs.declared.context.Status.{Status}
use Rattle.cdi_contexts.specs.Contexts.{active_context, entry_in}
use Rattle.cdi_machine.specs.Words.{Name, Fields, Asked}
use Rattle.cdi_machine.specs.Tables as machine
use Rattle.cdi_machine.specs.Tables.{Tables, Bean, Interceptor, Code, Lifecycle, Method, Kind, Product, Step}
use Rattle.cdi_machine.specs.Creation.{first_fields}
use Rattle.cdi_machine.specs.World.{World}
use Rattle.cdi_machine.specs.Bodies.{reference_at}
use Rattle.cdi_machine.specs.Destruction.{latest}
use Rattle.cdi_host.specs.declared.beans.BeanHead.{BeanHead}
use Rattle.cdi_machine.specs.Told.{resolution_told}
use Rattle.cdi_machine.specs.declared.point.Resolution.{Resolution}

-- ---- the deployment

-- a type with qualifiers as they are written
abbrev pub asked_for : Name → List Use → Asked
asked_for type qualifiers = record { type = type; qualifiers = qualifiers }

-- with the qualifier Default
abbrev pub of_type : Name → Asked
of_type type = asked_for type []

abbrev pub machine_resolution : Resolution → machine.Resolution
machine_resolution r = resolution_told r

abbrev pub head_of : Bean → BeanHead
head_of bean = record { place = bean.place; scope = bean.scope }

-- the fields of a new instance
abbrev pub fields_of : Option Bean → Fields
fields_of None = []
fields_of (Some bean) = first_fields bean.kind

-- the bean of a component
abbrev pub bean_in : Tables → Component → Option Bean
bean_in t (components.Bean b) = t.bean b
bean_in t (components.Interceptor i) = None

-- the steps by which an instance is created
abbrev pub plan_in : Kind → List Step
plan_in (Kind.Class c) = c.plan
plan_in (Kind.Producer p) = []

abbrev pub plan_of : Option Bean → List Step
plan_of None = []
plan_of (Some bean) = plan_in bean.kind

-- an interceptor's instance is created by the injection of its fields
abbrev pub injecting : Name × Asked → Step
injecting p = Step.Inject p.0 p.1

abbrev pub interceptor_plan : Option Interceptor → List Step
interceptor_plan None = []
interceptor_plan (Some j) = map injecting j.injected

abbrev pub interceptor_fields : Option Interceptor → Fields
interceptor_fields None = []
interceptor_fields (Some j) = j.fields

-- the method of this kind that an interceptor has
abbrev pub code_in : InterceptorMethod → Interceptor → Option Code
code_in role j =
    option_map (λ b. record { place = places.Interceptor j.name role; body = b }) (j.body role)

abbrev pub interceptor_code : Tables → ℕ → InterceptorMethod → Option Code
interceptor_code t i role = option_and_then (code_in role) (t.interceptor i)

-- the steps, and the fields, of a new instance of a component
abbrev pub plan_at : Tables → Component → List Step
plan_at t (components.Bean b) = plan_of (t.bean b)
plan_at t (components.Interceptor i) = interceptor_plan (t.interceptor i)

abbrev pub fields_at : Tables → Component → Fields
fields_at t (components.Bean b) = fields_of (t.bean b)
fields_at t (components.Interceptor i) = interceptor_fields (t.interceptor i)

-- a component is there
abbrev pub has_component : Tables → Component → Bool
has_component t (components.Bean b) = is_some (t.bean b)
has_component t (components.Interceptor i) = is_some (t.interceptor i)

-- what is called before an instance of a bean is destroyed
abbrev pub pre_destroy_in : Kind → Option Lifecycle
pre_destroy_in (Kind.Class c) = Some c.pre_destroy
pre_destroy_in (Kind.Producer p) = None

abbrev pub pre_destroy_of : Option Bean → Option Lifecycle
pre_destroy_of None = None
pre_destroy_of (Some bean) = pre_destroy_in bean.kind

-- what a bean comes from, if it is a product
abbrev pub product_in : Kind → Option Product
product_in (Kind.Class c) = None
product_in (Kind.Producer p) = Some p

abbrev pub product_of : Option Bean → Option Product
product_of None = None
product_of (Some bean) = product_in bean.kind

-- so many steps, the last ones
abbrev pub last_of : {X : Type 0} → ℕ → List X → List X
last_of left xs = drop (length xs - left) xs

abbrev pub method_in : Kind → Name → Option Method
method_in (Kind.Class c) name = at c.methods name
method_in (Kind.Producer p) name = None

-- the method of a bean
abbrev pub method_at : Tables → ℕ → Name → Option Method
method_at t b name = option_and_then (λ (bean : Bean). method_in bean.kind name) (t.bean b)

-- the method of an instance of a bean
abbrev pub method_of_component : Tables → Component → Name → Option Method
method_of_component t (components.Bean b) name = method_at t b name
method_of_component t (components.Interceptor i) name = None

abbrev pub method_of_instance : Tables → Option Instance → Name → Option Method
method_of_instance t None name = None
method_of_instance t (Some o) name = method_of_component t o.component name

-- ---- the world

abbrev pub has_field_in : Option Instance → Name → Bool
has_field_in None field = false
has_field_in (Some o) field = has o.fields field

abbrev pub reference_in : Option Instance → Name → Option Reference
reference_in None field = None
reference_in (Some o) field = Some (reference_at (at o.references field))

abbrev pub fields_in : Option Instance → Fields
fields_in None = []
fields_in (Some o) = o.fields

-- it has two dependents or more
abbrev pub HasSeveral : Option Instance → Type 0
HasSeveral o = 1 < length (dependents_in o)

abbrev pub status_in : World → Scope → Option Status
status_in w scope = option_map (λ a. a.status) (active_context w.contexts w.environment scope)

abbrev pub held_in : World → Scope → ℕ → Option Held
held_in w scope b = entry_in (active_context w.contexts w.environment scope) b

-- the next number, if there is one
abbrev pub number_left : World → Option ℕ
number_left w = elim (nat_lt w.next (2 ^ 32)) [ true ↦ Some w.next | false ↦ None ]

abbrev pub top_of : {X : Type 0} → List X → Option X
top_of [] = None
top_of (x ∷ xs) = Some x

abbrev pub latest_in : World → Option (Option ℕ)
latest_in w = option_map latest (top_of w.temporaries)
