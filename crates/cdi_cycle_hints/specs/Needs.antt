-- The graph of what dependent beans need: under the index of each bean the beans that its own points resolve to.
use Rattle.std.specs.Prelude.{ℕ, ◌≡◌, ◌==◌, List, [], ◌∷◌, ◌++◌, map, find, Option, Some, None, if◌then◌else◌}
use Rattle.std.specs.List.{flat_map}
use Rattle.std.specs.Option.{ForSome}
use Rattle.cdi_base.specs.declared.uses.Use.{Use}
use Rattle.cdi_bean_check.specs.ManagedBeans.{is_dependent}
use Rattle.cdi_bean_check.specs.Qualifiers.{full_uses}
use Rattle.cdi_beans.specs.declared.bean.Bean.{Bean}
use Rattle.cdi_beans.specs.declared.bean.BeanKind.{BeanKind}
use Rattle.cdi_beans.specs.declared.bean.BeanKind.TheVariants as kinds
use Rattle.cdi_deployment.specs.Member.{member_name, member_params}
use Rattle.cdi_deployment.specs.declared.deployment.Class.{Class}
use Rattle.cdi_deployment.specs.declared.deployment.Constructor.{Constructor}
use Rattle.cdi_deployment.specs.declared.deployment.Deployment.{Deployment}
use Rattle.cdi_deployment.specs.declared.deployment.InjectedField.{InjectedField}
use Rattle.cdi_deployment.specs.declared.deployment.Member.{Member}
use Rattle.cdi_deployment.specs.declared.deployment.Member.TheVariants as members
use Rattle.cdi_deployment.specs.declared.deployment.Point.{Point}
use Rattle.cdi_resolve.specs.Filters.{enabled_of}
use Rattle.cdi_resolve.specs.Resolution.{resolution}
use Rattle.cdi_resolve.specs.declared.bean_tables.BeanTables.{BeanTables}
use Rattle.cdi_resolve.specs.declared.resolution.Resolution.{Resolution}
use Rattle.cdi_resolve.specs.declared.resolution.Resolution.TheVariants as resolutions

-- ---- what points need, by the indices of beans

abbrev pub the_one : Resolution → List ℕ
the_one resolutions.Nothing = []
the_one (resolutions.One bean) = bean ∷ []
the_one resolutions.Many = []

-- what a type and qualifiers resolve to, if that is one bean
abbrev pub needs_for : BeanTables → ℕ → List Use → List ℕ
needs_for t ty quals =
    the_one (resolution ty (full_uses t.declared.qualifiers quals) (enabled_of t.resolver))

abbrev pub field_needs : BeanTables → InjectedField → List ℕ
field_needs t f = needs_for t f.ty f.quals

abbrev pub point_needs : BeanTables → Point → List ℕ
point_needs t p = needs_for t p.ty p.quals

abbrev pub fields_needs : BeanTables → List InjectedField → List ℕ
fields_needs t fields = flat_map (field_needs t) fields

abbrev pub points_needs : BeanTables → List Point → List ℕ
points_needs t points = flat_map (point_needs t) points

abbrev pub constructor_needs : BeanTables → Option Constructor → List ℕ
constructor_needs t None = []
constructor_needs t (Some k) = points_needs t k.params

-- ---- what the points of a class need

-- those of a member for each instance: the parameters of an initializer
abbrev pub initializer_needs : BeanTables → Member → List ℕ
initializer_needs t (members.Initializer i) = points_needs t i.params
initializer_needs t _ = []

-- those of a class for each instance of it, of its own, and not those that it inherits
abbrev pub class_needs : BeanTables → Class → List ℕ
class_needs t c =
    fields_needs t c.inject
    ++ (constructor_needs t c.constructor ++ flat_map (initializer_needs t) c.members)

-- those of a member with a name
abbrev pub named_needs : BeanTables → ℕ → Member → List ℕ
named_needs t name m = if member_name m == name then points_needs t (member_params m) else []

-- those of the producer with a name
abbrev pub producer_needs : BeanTables → ℕ → Class → List ℕ
producer_needs t name c = flat_map (named_needs t name) c.members

-- a producer field has no parameters
abbrev pub needs_in : BeanTables → BeanKind → Class → List ℕ
needs_in t kinds.Managed c = class_needs t c
needs_in t (kinds.ProducerMethod name) c = producer_needs t name c
needs_in t (kinds.ProducerField name) c = []

-- ---- what beans need

abbrev pub class_named : List Class → ℕ → Option Class
class_named classes name = find (λ c. c.name == name) classes

abbrev pub needs_in_some : BeanTables → BeanKind → Option Class → List ℕ
needs_in_some t kind None = []
needs_in_some t kind (Some c) = needs_in t kind c

-- the beans that the own points of a bean resolve to
abbrev pub own_needs : Deployment → BeanTables → Bean → List ℕ
own_needs d t b = needs_in_some t b.kind (class_named d.classes b.class)

-- an instance of a dependent bean needs them; one of another bean needs none of them
abbrev pub bean_needs : Deployment → BeanTables → Bean → List ℕ
bean_needs d t b = if is_dependent b.scope then own_needs d t b else []

-- those of all beans. A cycle is one of enabled dependent beans: others aren't resolved to, or need none.
abbrev pub needs_of : Deployment → BeanTables → List (List ℕ)
needs_of d t = map (bean_needs d t) t.resolver.beans

-- if there are tables and needs, the needs are those of the deployment by the tables
abbrev pub AreNeedsOf : Deployment → Option BeanTables → Option (List (List ℕ)) → Type 0
AreNeedsOf d tables needs = ForSome tables (λ t. ForSome needs (λ rows. rows ≡ needs_of d t))
