-- What a value of the right form stands for, where all names in it stand in a table.
use Rattle.std.specs.Prelude.{ℕ, List, [], ◌∷◌, map, codes, Option, Some, option_map}
use Rattle.std.specs.Option.{unwrap_or}
use Rattle.cdi_base.specs.declared.uses.MemberValue.{MemberValue}
use Rattle.cdi_base.specs.declared.uses.Use.{Use}
use Rattle.cdi_base.specs.declared.uses.WrittenMember.{WrittenMember}
use Rattle.cdi_base.specs.declared.uses.WrittenUse.{WrittenUse}
use Rattle.cdi_base.specs.Name.{number_of}
use Rattle.cdi_form.specs.declared.form.Kind.{Kind}
use Rattle.cdi_form.specs.declared.form.Kind.TheVariants as kinds
use Rattle.cdi_form.specs.Words.{member_kind}
use Rattle.cdi_form.specs.ValueForms.{use_in}
use Rattle.serde_json.specs.Data.{Data, Items, no_items, item}
use Rattle.serde_json.specs.Find.{get}
use Rattle.cdi_deployment.specs.declared.deployment.AnnotationType.{AnnotationType}
use Rattle.cdi_deployment.specs.declared.deployment.Bean.{Bean}
use Rattle.cdi_deployment.specs.declared.deployment.Callback.{Callback}
use Rattle.cdi_deployment.specs.declared.deployment.Class.{Class}
use Rattle.cdi_deployment.specs.declared.deployment.Constructor.{Constructor}
use Rattle.cdi_deployment.specs.declared.deployment.Deployment.{Deployment}
use Rattle.cdi_deployment.specs.declared.deployment.Disposer.{Disposer}
use Rattle.cdi_deployment.specs.declared.deployment.Exception.{Exception}
use Rattle.cdi_deployment.specs.declared.deployment.Field.{Field}
use Rattle.cdi_deployment.specs.declared.deployment.Initializer.{Initializer}
use Rattle.cdi_deployment.specs.declared.deployment.InjectedField.{InjectedField}
use Rattle.cdi_deployment.specs.declared.deployment.Interceptor.{Interceptor}
use Rattle.cdi_deployment.specs.declared.deployment.Interface.{Interface}
use Rattle.cdi_deployment.specs.declared.deployment.Member.{Member}
use Rattle.cdi_deployment.specs.declared.deployment.Member.TheVariants as members
use Rattle.cdi_deployment.specs.declared.deployment.Method.{Method}
use Rattle.cdi_deployment.specs.declared.deployment.Observer.{Observer}
use Rattle.cdi_deployment.specs.declared.deployment.Point.{Point}
use Rattle.cdi_deployment.specs.declared.deployment.ProducerField.{ProducerField}
use Rattle.cdi_deployment.specs.declared.deployment.ProducerMethod.{ProducerMethod}
use Rattle.cdi_deployment.specs.declared.deployment.Script.{Script}
use Rattle.cdi_deploy.specs.Parts.{text_of, list_of, value_of, count_of, mark_of, whole_number_of, scope_of, data_of}

-- the items of an array
abbrev pub each : {X : Type 0} → (Data → X) → Items → List X
each form no_items = []
each form (item d ds) = form d ∷ each form ds

-- the items of the array at a key
abbrev pub each_at : {X : Type 0} → (Data → X) → List ℕ → Data → List X
each_at form key d = each form (list_of (get key d))

-- what stands at a key that may be missing
abbrev pub maybe_at : {X : Type 0} → (Data → X) → List ℕ → Data → Option X
maybe_at form key d = option_map form (get key d)

-- the number of the name that a value is
abbrev pub name_in : List (List ℕ) → Data → ℕ
name_in names d = number_of names (text_of (Some d))

abbrev pub name_at : List (List ℕ) → List ℕ → Data → ℕ
name_at names key d = number_of names (text_of (get key d))

abbrev pub names_in : List (List ℕ) → Data → List ℕ
names_in names d = each (name_in names) (list_of (Some d))

abbrev pub member_value : List (List ℕ) → WrittenMember → MemberValue
member_value names m = record { name = number_of names m.name; value = m.value }

-- a use with the numbers of its names
abbrev pub numbered : List (List ℕ) → WrittenUse → Use
numbered names written =
    record {
      name = number_of names written.name;
      members = map (member_value names) written.members;
    }

abbrev pub nameless : WrittenUse
nameless = record { name = []; members = [] }

abbrev pub use_in_table : List (List ℕ) → Data → Use
use_in_table names d = numbered names (unwrap_or (use_in d) nameless)

-- ---- the objects

unfoldable pub interface_in : List (List ℕ) → Data → Interface
interface_in names d =
    record {
      name = name_at names (codes "name") d;
      extends = each_at (name_in names) (codes "extends") d;
    }

unfoldable pub annotation_type_in : List (List ℕ) → Data → AnnotationType
annotation_type_in names d = record {
  name = name_at names (codes "name") d;
  members = each_at (name_in names) (codes "members") d;
  nonbinding = each_at (name_in names) (codes "nonbinding") d;
}

unfoldable pub exception_in : List (List ℕ) → Data → Exception
exception_in names d =
    record { name = name_at names (codes "name") d; checked = mark_of (get (codes "checked") d) }

unfoldable pub bean_in : List (List ℕ) → Data → Bean
bean_in names d = record {
  scope = scope_of (get (codes "scope") d);
  quals = each_at (use_in_table names) (codes "quals") d;
  typed = maybe_at (names_in names) (codes "typed") d;
  alternative = mark_of (get (codes "alternative") d);
  priority = whole_number_of (get (codes "priority") d);
  specializes = mark_of (get (codes "specializes") d);
}

unfoldable pub field_in : List (List ℕ) → Data → Field
field_in names d =
    record { name = name_at names (codes "name") d; value = value_of (get (codes "value") d) }

unfoldable pub injected_field_in : List (List ℕ) → Data → InjectedField
injected_field_in names d = record {
  name = name_at names (codes "name") d;
  ty = name_at names (codes "type") d;
  quals = each_at (use_in_table names) (codes "quals") d;
}

unfoldable pub point_in : List (List ℕ) → Data → Point
point_in names d =
    record {
      ty = name_at names (codes "type") d;
      quals = each_at (use_in_table names) (codes "quals") d;
    }

unfoldable pub constructor_in : List (List ℕ) → Data → Constructor
constructor_in names d =
    record {
      params = each_at (point_in names) (codes "params") d;
      body = maybe_at (name_in names) (codes "body") d;
    }

unfoldable pub interceptor_in : List (List ℕ) → Data → Interceptor
interceptor_in names d = record {
  name = name_at names (codes "name") d;
  bindings = each_at (use_in_table names) (codes "bindings") d;
  priority = whole_number_of (get (codes "priority") d);
  fields = each_at (field_in names) (codes "fields") d;
  inject = each_at (injected_field_in names) (codes "inject") d;
  invoke = maybe_at (name_in names) (codes "invoke") d;
  construct = maybe_at (name_in names) (codes "construct") d;
  post = maybe_at (name_in names) (codes "post") d;
  pre = maybe_at (name_in names) (codes "pre") d;
}

-- ---- the members of a class

unfoldable pub method_in : List (List ℕ) → Data → Method
method_in names d = record {
  name = name_at names (codes "name") d;
  body = name_at names (codes "body") d;
  args = count_of (get (codes "args") d);
  bindings = each_at (use_in_table names) (codes "bindings") d;
}

unfoldable pub initializer_in : List (List ℕ) → Data → Initializer
initializer_in names d = record {
  name = name_at names (codes "name") d;
  body = name_at names (codes "body") d;
  params = each_at (point_in names) (codes "params") d;
}

unfoldable pub callback_in : List (List ℕ) → Data → Callback
callback_in names d =
    record { name = name_at names (codes "name") d; body = name_at names (codes "body") d }

unfoldable pub producer_in : List (List ℕ) → Data → ProducerMethod
producer_in names d = record {
  name = name_at names (codes "name") d;
  body = name_at names (codes "body") d;
  ty = name_at names (codes "type") d;
  quals = each_at (use_in_table names) (codes "quals") d;
  typed = maybe_at (names_in names) (codes "typed") d;
  scope = scope_of (get (codes "scope") d);
  params = each_at (point_in names) (codes "params") d;
  bindings = each_at (use_in_table names) (codes "bindings") d;
}

unfoldable pub producer_field_in : List (List ℕ) → Data → ProducerField
producer_field_in names d = record {
  name = name_at names (codes "name") d;
  field = name_at names (codes "field") d;
  ty = name_at names (codes "type") d;
  quals = each_at (use_in_table names) (codes "quals") d;
  typed = maybe_at (names_in names) (codes "typed") d;
  scope = scope_of (get (codes "scope") d);
}

unfoldable pub disposer_in : List (List ℕ) → Data → Disposer
disposer_in names d = record {
  name = name_at names (codes "name") d;
  body = name_at names (codes "body") d;
  ty = name_at names (codes "type") d;
  quals = each_at (use_in_table names) (codes "quals") d;
  params = each_at (point_in names) (codes "params") d;
  bindings = each_at (use_in_table names) (codes "bindings") d;
}

unfoldable pub observer_in : List (List ℕ) → Data → Observer
observer_in names d = record {
  name = name_at names (codes "name") d;
  body = name_at names (codes "body") d;
  ty = name_at names (codes "type") d;
  quals = each_at (use_in_table names) (codes "quals") d;
  params = each_at (point_in names) (codes "params") d;
  priority = whole_number_of (get (codes "priority") d);
  if_exists = mark_of (get (codes "if_exists") d);
  bindings = each_at (use_in_table names) (codes "bindings") d;
}

-- a member of the kind that it names
unfoldable pub member_of : Option Kind → List (List ℕ) → Data → Member
member_of (Some kinds.Initializer) names d = members.Initializer (initializer_in names d)
member_of (Some kinds.PostConstruct) names d = members.PostConstruct (callback_in names d)
member_of (Some kinds.PreDestroy) names d = members.PreDestroy (callback_in names d)
member_of (Some kinds.Producer) names d = members.Producer (producer_in names d)
member_of (Some kinds.ProducerField) names d = members.ProducerField (producer_field_in names d)
member_of (Some kinds.Disposer) names d = members.Disposer (disposer_in names d)
member_of (Some kinds.Observer) names d = members.Observer (observer_in names d)
member_of _ names d = members.Method (method_in names d)

abbrev pub member_in : List (List ℕ) → Data → Member
member_in names d = member_of (member_kind (text_of (get (codes "kind") d))) names d

-- ---- classes, scripts and the whole

unfoldable pub class_in : List (List ℕ) → Data → Class
class_in names d = record {
  name = name_at names (codes "name") d;
  extends = maybe_at (name_in names) (codes "extends") d;
  implements = each_at (name_in names) (codes "implements") d;
  is_abstract = mark_of (get (codes "abstract") d);
  is_final = mark_of (get (codes "final") d);
  bindings = each_at (use_in_table names) (codes "bindings") d;
  bean = maybe_at (bean_in names) (codes "bean") d;
  fields = each_at (field_in names) (codes "fields") d;
  inject = each_at (injected_field_in names) (codes "inject") d;
  constructor = maybe_at (constructor_in names) (codes "constructor") d;
  members = each_at (member_in names) (codes "members") d;
}

unfoldable pub script_in : List (List ℕ) → Data → Script
script_in names d =
    record { name = name_at names (codes "name") d; steps = data_of (get (codes "steps") d) }

-- the lists of a deployment
unfoldable pub lists_in : List (List ℕ) → Data → Deployment
lists_in names d = record {
  names = names;
  interfaces = each_at (interface_in names) (codes "interfaces") d;
  qualifiers = each_at (annotation_type_in names) (codes "qualifiers") d;
  bindings = each_at (annotation_type_in names) (codes "bindings") d;
  exceptions = each_at (exception_in names) (codes "exceptions") d;
  classes = each_at (class_in names) (codes "classes") d;
  interceptors = each_at (interceptor_in names) (codes "interceptors") d;
  selected = each_at (name_in names) (codes "selected") d;
  order = each_at (name_in names) (codes "order") d;
  scripts = each_at (script_in names) (codes "scripts") d;
}
