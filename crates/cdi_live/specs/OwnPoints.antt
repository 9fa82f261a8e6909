-- The injection points for which the creation of an instance, or its destruction by a disposer, needs other instances.
use Rattle.std.specs.Prelude.{ℕ, ◌≡◌, ◌==◌, ◌&&◌, Bool, List, [], ◌++◌, map, filter, Option, Some, None, slice_get, option_and_then}
use Rattle.std.specs.List.{find, flat_map, list_any}
use Rattle.cdi_beans.specs.declared.bean.Bean.{Bean}
use Rattle.cdi_beans.specs.declared.bean.BeanKind.{BeanKind}
use Rattle.cdi_beans.specs.declared.bean.BeanKind.TheVariants as kinds
use Rattle.cdi_beans.specs.declared.bean.DisposerMethod.{DisposerMethod}
use Rattle.cdi_plans.specs.Chains.{ChainTables}
use Rattle.cdi_deployment.specs.declared.deployment.Class.{Class}
use Rattle.cdi_deployment.specs.declared.deployment.Constructor.{Constructor}
use Rattle.cdi_deployment.specs.declared.deployment.InjectedField.{InjectedField}
use Rattle.cdi_deployment.specs.declared.deployment.Interceptor.{Interceptor}
use Rattle.cdi_deployment.specs.declared.deployment.Member.{Member}
use Rattle.cdi_deployment.specs.declared.deployment.Member.TheVariants as members
use Rattle.cdi_deployment.specs.declared.deployment.Point.{Point}
use Rattle.cdi_live.specs.Enabled.{Enabled}
use Rattle.cdi_types.specs.Line.{class_named, IsLineOf}
use Rattle.cdi_types.specs.Members.{members_of, injected_fields_of}
use Rattle.cdi_deployment.specs.Member.{member_name, member_params}
use Rattle.cdi_live.specs.Points.{field_point}
use Rattle.cdi_quals.specs.declared.types.QualifierType.{QualifierType}

-- what is looked at: the qualifier types and the interceptors of a deployment, what is enabled in it, its chains, and its disposers
pub record Inventory : Type 0 where
  pub qualifiers : List QualifierType
  pub interceptors : List Interceptor
  pub enabled : Enabled
  pub chains : ChainTables
  pub disposers : List DisposerMethod

abbrev pub params_of_constructor : Option Constructor → List Point
params_of_constructor None = []
params_of_constructor (Some k) = k.params

abbrev pub constructor_points : Option Class → List Point
constructor_points None = []
constructor_points (Some c) = params_of_constructor c.constructor

-- the parameters of a member, if it is an initializer
abbrev pub initializer_points : Class × Member → List Point
initializer_points (c, members.Initializer i) = i.params
initializer_points (c, m) = []

-- the points of a line of classes that a bean has: the injected fields, and the parameters of the initializers
abbrev pub line_points : List Class → List Point
line_points line =
    map (λ f. field_point f.1) (injected_fields_of line)
    ++ flat_map initializer_points (members_of line)

-- the points of a managed bean: the parameters of its constructor, its injected fields, and the parameters of its initializers, also
-- those that it inherits
pub record AreManagedPoints (s : Inventory) (b : Bean) (points : List Point) : Type 0 where
  pub line : List Class
  pub is_line : IsLineOf s.enabled.types s.enabled.classes b.class line
  pub are : points ≡ constructor_points (class_named s.enabled.classes b.class) ++ line_points line

abbrev pub member_in : ℕ → Class → Option Member
member_in name c = find (λ m. member_name m == name) c.members

abbrev pub points_of_some : Option Member → List Point
points_of_some None = []
points_of_some (Some m) = member_params m

-- the parameters of a member of a class
abbrev pub member_points : List Class → ℕ → ℕ → List Point
member_points classes class name =
    points_of_some (option_and_then (member_in name) (class_named classes class))

abbrev pub serves : ℕ → ℕ → DisposerMethod → Bool
serves class name m = (m.class == class) && list_any (λ n. n == name) m.serves

abbrev pub disposer_points : List Class → DisposerMethod → List Point
disposer_points classes m = member_points classes m.class m.name

-- the points of a product: the parameters of its producer, and those of its disposer
abbrev pub product_points : Inventory → Bean → ℕ → List Point
product_points s b name =
    member_points s.enabled.classes b.class name
    ++ flat_map (disposer_points s.enabled.classes) (filter (serves b.class name) s.disposers)

-- the name of a producer
abbrev pub product_name : BeanKind → Option ℕ
product_name kinds.Managed = None
product_name (kinds.ProducerMethod name) = Some name
product_name (kinds.ProducerField name) = Some name

abbrev pub fields_of_some : Option Interceptor → List InjectedField
fields_of_some None = []
fields_of_some (Some j) = j.inject

-- the injected fields of an enabled interceptor, by its place
abbrev pub interceptor_points : Inventory → ℕ → List Point
interceptor_points s k =
    map field_point (fields_of_some
    (option_and_then (λ j. slice_get s.interceptors j.index)
    (slice_get s.enabled.interceptors k)))
