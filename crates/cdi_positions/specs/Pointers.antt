-- Where in the text of a deployment the places of problems stand, by JSON Pointers (RFC 6901).
use Rattle.std.specs.Prelude.{ℕ, ◌==◌, List, [], ◌++◌, codes, decimal, Option, Some, None, option_map, option_and_then, slice_get}
use Rattle.std.specs.List.{position_from}
use Rattle.std.specs.Option.{option_or}
use Rattle.cdi_base.specs.declared.place.InterceptorMethod.{InterceptorMethod}
use Rattle.cdi_base.specs.declared.place.InterceptorMethod.TheVariants as methods
use Rattle.cdi_base.specs.declared.place.Place.{Place}
use Rattle.cdi_base.specs.declared.place.Place.TheVariants as places
use Rattle.cdi_deployment.specs.Member.{member_name}
use Rattle.cdi_deployment.specs.declared.deployment.AnnotationType.{AnnotationType}
use Rattle.cdi_deployment.specs.declared.deployment.Class.{Class}
use Rattle.cdi_deployment.specs.declared.deployment.Deployment.{Deployment}
use Rattle.cdi_deployment.specs.declared.deployment.Exception.{Exception}
use Rattle.cdi_deployment.specs.declared.deployment.Field.{Field}
use Rattle.cdi_deployment.specs.declared.deployment.InjectedField.{InjectedField}
use Rattle.cdi_deployment.specs.declared.deployment.Interceptor.{Interceptor}
use Rattle.cdi_deployment.specs.declared.deployment.Interface.{Interface}
use Rattle.cdi_deployment.specs.declared.deployment.Member.{Member}
use Rattle.cdi_deployment.specs.declared.deployment.Script.{Script}

-- ---- the first item of a list with a name, by its index

abbrev pub interface_named : List Interface → ℕ → Option ℕ
interface_named interfaces name = position_from (λ i. i.name == name) 0 interfaces

abbrev pub annotation_named : List AnnotationType → ℕ → Option ℕ
annotation_named annotations name = position_from (λ a. a.name == name) 0 annotations

abbrev pub exception_named : List Exception → ℕ → Option ℕ
exception_named exceptions name = position_from (λ e. e.name == name) 0 exceptions

abbrev pub class_named : List Class → ℕ → Option ℕ
class_named classes name = position_from (λ c. c.name == name) 0 classes

abbrev pub interceptor_named : List Interceptor → ℕ → Option ℕ
interceptor_named interceptors name = position_from (λ j. j.name == name) 0 interceptors

abbrev pub listed_name : List ℕ → ℕ → Option ℕ
listed_name names name = position_from (λ listed. listed == name) 0 names

abbrev pub script_named : List Script → ℕ → Option ℕ
script_named scripts name = position_from (λ s. s.name == name) 0 scripts

abbrev pub field_named : List Field → ℕ → Option ℕ
field_named fields name = position_from (λ f. f.name == name) 0 fields

abbrev pub injected_field_named : List InjectedField → ℕ → Option ℕ
injected_field_named fields name = position_from (λ f. f.name == name) 0 fields

abbrev pub member_named : List Member → ℕ → Option ℕ
member_named members name = position_from (λ m. member_name m == name) 0 members

-- ---- pointers

-- to an item of a list below another pointer
abbrev pub item_pointer : List ℕ → List ℕ → ℕ → List ℕ
item_pointer front list index = front ++ (codes "/" ++ (list ++ (codes "/" ++ decimal index)))

-- to a part below another pointer
abbrev pub part_pointer : List ℕ → List ℕ → List ℕ
part_pointer front key = front ++ (codes "/" ++ key)

-- to an item that is there
abbrev pub item_if_any : List ℕ → List ℕ → Option ℕ → Option (List ℕ)
item_if_any front list index = option_map (item_pointer front list) index

-- to what declares a type, a qualifier, a binding or an exception
abbrev pub declaration_pointer : Deployment → ℕ → Option (List ℕ)
declaration_pointer d name =
    option_or (item_if_any [] (codes "interfaces") (interface_named d.interfaces name))
    (option_or (item_if_any [] (codes "qualifiers") (annotation_named d.qualifiers name))
    (option_or (item_if_any [] (codes "bindings") (annotation_named d.bindings name))
    (option_or (item_if_any [] (codes "exceptions") (exception_named d.exceptions name))
    (item_if_any [] (codes "classes") (class_named d.classes name)))))

-- to an interceptor, to a name in a list, or to a script
abbrev pub listing_pointer : Deployment → ℕ → Option (List ℕ)
listing_pointer d name =
    option_or (item_if_any [] (codes "interceptors") (interceptor_named d.interceptors name))
    (option_or (item_if_any [] (codes "selected") (listed_name d.selected name))
    (option_or (item_if_any [] (codes "order") (listed_name d.order name))
    (item_if_any [] (codes "scripts") (script_named d.scripts name))))

-- to the first thing of the deployment itself with a name
abbrev pub name_pointer : Deployment → ℕ → Option (List ℕ)
name_pointer d name = option_or (declaration_pointer d name) (listing_pointer d name)

-- to a field or a member in a class at a pointer
abbrev pub pointer_in_class : List ℕ → Class → ℕ → Option (List ℕ)
pointer_in_class front c name =
    option_or (item_if_any front (codes "fields") (field_named c.fields name))
    (option_or (item_if_any front (codes "inject") (injected_field_named c.inject name))
    (item_if_any front (codes "members") (member_named c.members name)))

-- to a field in an interceptor at a pointer
abbrev pub pointer_in_interceptor : List ℕ → Interceptor → ℕ → Option (List ℕ)
pointer_in_interceptor front j name =
    option_or (item_if_any front (codes "fields") (field_named j.fields name))
    (item_if_any front (codes "inject") (injected_field_named j.inject name))

-- to a field or a member of the class at an index
abbrev pub pointer_in_class_at : Deployment → ℕ → ℕ → Option (List ℕ)
pointer_in_class_at d name index =
    option_and_then (λ c. pointer_in_class (item_pointer [] (codes "classes") index) c name)
    (slice_get d.classes index)

-- to a field of the interceptor at an index
abbrev pub pointer_in_interceptor_at : Deployment → ℕ → ℕ → Option (List ℕ)
pointer_in_interceptor_at d name index =
    option_and_then
    (λ j. pointer_in_interceptor (item_pointer [] (codes "interceptors") index) j name)
    (slice_get d.interceptors index)

-- to a field or a member of the first class with a name, or to a field of the first such interceptor
abbrev pub member_pointer : Deployment → ℕ → ℕ → Option (List ℕ)
member_pointer d owner name = by_class (class_named d.classes owner)
  where
    by_interceptor : Option ℕ → Option (List ℕ)
    by_interceptor index = option_and_then (pointer_in_interceptor_at d name) index

    by_class : Option ℕ → Option (List ℕ)
    by_class None = by_interceptor (interceptor_named d.interceptors owner)
    by_class (Some index) = pointer_in_class_at d name index

abbrev pub method_key : InterceptorMethod → List ℕ
method_key methods.AroundInvoke = codes "invoke"
method_key methods.AroundConstruct = codes "construct"
method_key methods.PostConstruct = codes "post"
method_key methods.PreDestroy = codes "pre"

-- to a part of the first class with a name
abbrev pub class_part_pointer : Deployment → ℕ → List ℕ → Option (List ℕ)
class_part_pointer d class key =
    option_map (λ index. part_pointer (item_pointer [] (codes "classes") index) key)
    (class_named d.classes class)

-- to a part of the first interceptor with a name
abbrev pub interceptor_part_pointer : Deployment → ℕ → List ℕ → Option (List ℕ)
interceptor_part_pointer d interceptor key =
    option_map (λ index. part_pointer (item_pointer [] (codes "interceptors") index) key)
    (interceptor_named d.interceptors interceptor)

-- to what a deployment has at a place, the first in the order of places
abbrev pub pointer_at : Deployment → Place → Option (List ℕ)
pointer_at d (places.Class name) = name_pointer d name
pointer_at d (places.Member class member) = member_pointer d class member
pointer_at d (places.Constructor class) = class_part_pointer d class (codes "constructor")
pointer_at d (places.Interceptor interceptor method) =
    interceptor_part_pointer d interceptor (method_key method)
