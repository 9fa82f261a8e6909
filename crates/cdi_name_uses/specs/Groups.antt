-- The names that the groups of a deployment have.
use Rattle.std.specs.Prelude.{ℕ, ◌==◌, List, [], ◌∷◌, ◌++◌, map, filter, not, is_some, if◌then◌else◌}
use Rattle.std.specs.List.{flat_map}
use Rattle.cdi_base.specs.BuiltIn.{number_of}
use Rattle.cdi_base.specs.declared.built_in.BuiltIn.TheVariants as built_in
use Rattle.cdi_deployment.specs.declared.deployment.AnnotationType.{AnnotationType}
use Rattle.cdi_deployment.specs.declared.deployment.Class.{Class}
use Rattle.cdi_deployment.specs.declared.deployment.Deployment.{Deployment}
use Rattle.cdi_deployment.specs.declared.deployment.Field.{Field}
use Rattle.cdi_deployment.specs.declared.deployment.Interceptor.{Interceptor}
use Rattle.cdi_deployment.specs.declared.deployment.Interface.{Interface}
use Rattle.cdi_deployment.specs.declared.deployment.Script.{Script}
use Rattle.cdi_name_check.specs.UnknownName.{is_valued_qualifier}
use Rattle.cdi_problems.specs.Elements.{Element}
use Rattle.cdi_name_uses.specs.declared.group.Annotation.{Annotation}
use Rattle.cdi_name_uses.specs.declared.group.Annotation.TheVariants as annotations
use Rattle.cdi_name_uses.specs.declared.group.Group.{Group}
use Rattle.cdi_name_uses.specs.declared.group.Group.TheVariants as groups

abbrev pub names_of_interfaces : List Interface → List ℕ
names_of_interfaces interfaces = map (λ i. i.name) interfaces

abbrev pub names_of_classes : List Class → List ℕ
names_of_classes classes = map (λ c. c.name) classes

-- of those that aren't final
abbrev pub names_of_open_classes : List Class → List ℕ
names_of_open_classes classes = map (λ c. c.name) (filter (λ c. not c.is_final) classes)

-- of those that are beans
abbrev pub names_of_bean_classes : List Class → List ℕ
names_of_bean_classes classes = map (λ c. c.name) (filter (λ c. is_some c.bean) classes)

abbrev pub names_of_interceptors : List Interceptor → List ℕ
names_of_interceptors interceptors = map (λ j. j.name) interceptors

abbrev pub names_of_annotations : List AnnotationType → List ℕ
names_of_annotations types = map (λ t. t.name) types

-- of those other than Default
abbrev pub names_of_event_qualifiers : List AnnotationType → List ℕ
names_of_event_qualifiers types =
    map (λ t. t.name) (filter (λ t. not (t.name == number_of built_in.Default)) types)

abbrev pub names_of_fields : List Field → List ℕ
names_of_fields fields = map (λ f. f.name) fields

abbrev pub names_of_scripts : List Script → List ℕ
names_of_scripts scripts = map (λ s. s.name) scripts

-- the members of the declarations of a name
abbrev pub members_of : List AnnotationType → ℕ → List ℕ
members_of types name = flat_map (λ t. t.members) (filter (λ t. t.name == name) types)

-- classes, declared or built in, and interfaces
abbrev pub type_names : Deployment → List ℕ
type_names d =
    number_of built_in.Object ∷ number_of built_in.Startup ∷ number_of built_in.Shutdown
    ∷ (names_of_classes d.classes ++ names_of_interfaces d.interfaces)

-- the built-in qualifiers other than Default
abbrev pub built_in_qualifiers : List ℕ
built_in_qualifiers =
    number_of built_in.Any ∷ number_of built_in.Named ∷ number_of built_in.Initialized
    ∷ number_of built_in.BeforeDestroyed ∷ number_of built_in.Destroyed ∷ []

-- an event has no qualifier Default
abbrev pub annotation_names : Deployment → Annotation → List ℕ
annotation_names d annotations.Qualifier =
    number_of built_in.Default ∷ (built_in_qualifiers ++ names_of_annotations d.qualifiers)
annotation_names d annotations.EventQualifier =
    built_in_qualifiers ++ names_of_event_qualifiers d.qualifiers
annotation_names d annotations.Binding = names_of_annotations d.bindings

-- those with a value have the one member `value`
abbrev pub qualifier_members : Deployment → ℕ → List ℕ
qualifier_members d name =
    (if is_valued_qualifier name then number_of built_in.Value ∷ [] else [])
    ++ members_of d.qualifiers name

abbrev pub member_names : Deployment → Annotation → ℕ → List ℕ
member_names d annotations.Qualifier name = qualifier_members d name
member_names d annotations.EventQualifier name = qualifier_members d name
member_names d annotations.Binding name = members_of d.bindings name

-- the members of the qualifier or the binding that an element is
abbrev pub own_members : Element → List ℕ
own_members (Element.AQualifier q) = q.members
own_members (Element.ABinding b) = b.members
own_members _ = []

-- the fields of the class that an element is a member of
abbrev pub own_fields : Element → List ℕ
own_fields (Element.AMember i c m) = names_of_fields c.fields
own_fields _ = []

-- the names that a group has for an element
abbrev pub group_names : Deployment → Element → Group → List ℕ
group_names d e groups.Superclass = number_of built_in.Object ∷ names_of_open_classes d.classes
group_names d e groups.Interface = names_of_interfaces d.interfaces
group_names d e groups.Type = type_names d
group_names d e (groups.Annotation annotation) = annotation_names d annotation
group_names d e (groups.MemberOf annotation name) = member_names d annotation name
group_names d e groups.OwnMember = own_members e
group_names d e groups.OwnField = own_fields e
group_names d e groups.BeanClass = names_of_bean_classes d.classes
group_names d e groups.Interceptor = names_of_interceptors d.interceptors
group_names d e groups.Script = names_of_scripts d.scripts
