-- Names that aren't declared, or are of the wrong kind.
use Rattle.std.specs.Prelude.{ℕ, Bool, true, not, ◌==◌, ◌&&◌, ◌||◌, List, Option, Some, None, is_some, IsTrue}
use Rattle.std.specs.List.{list_any, list_all}
use Rattle.cdi_base.specs.BuiltIn.{number_of}
use Rattle.cdi_base.specs.declared.built_in.BuiltIn.{BuiltIn}
use Rattle.cdi_base.specs.declared.built_in.BuiltIn.TheVariants as names
use Rattle.cdi_base.specs.declared.uses.Use.{Use}
use Rattle.cdi_deployment.specs.declared.deployment.AnnotationType.{AnnotationType}
use Rattle.cdi_deployment.specs.declared.deployment.Bean.{Bean}
use Rattle.cdi_deployment.specs.declared.deployment.Class.{Class}
use Rattle.cdi_deployment.specs.declared.deployment.Deployment.{Deployment}
use Rattle.cdi_deployment.specs.declared.deployment.Field.{Field}
use Rattle.cdi_deployment.specs.declared.deployment.Member.{Member}
use Rattle.cdi_deployment.specs.declared.deployment.Member.TheVariants as members
use Rattle.cdi_deployment.specs.declared.deployment.Point.{Point}
use Rattle.cdi_deployment.specs.Lists.{stands_in, is_declared_class}
use Rattle.cdi_problems.specs.Elements.{Element}

abbrev pub is_built_in : BuiltIn → ℕ → Bool
is_built_in n name = number_of n == name

-- a class of the deployment that isn't final
abbrev pub is_open_class : Deployment → ℕ → Bool
is_open_class d name = list_any (λ c. (c.name == name) && not c.is_final) d.classes

-- what a class may extend: Object, or a class that isn't final
abbrev pub is_extensible : Deployment → ℕ → Bool
is_extensible d name = is_built_in names.Object name || is_open_class d name

abbrev pub is_interface : Deployment → ℕ → Bool
is_interface d name = list_any (λ i. i.name == name) d.interfaces

abbrev pub is_class : Deployment → ℕ → Bool
is_class d name =
    is_built_in names.Object name || is_built_in names.Startup name
    || is_built_in names.Shutdown name || is_declared_class d.classes name

abbrev pub is_type : Deployment → ℕ → Bool
is_type d name = is_class d name || is_interface d name

-- a class of the deployment that is a bean
abbrev pub is_bean_class : Deployment → ℕ → Bool
is_bean_class d name = list_any (λ c. (c.name == name) && is_some c.bean) d.classes

abbrev pub is_interceptor : Deployment → ℕ → Bool
is_interceptor d name = list_any (λ j. j.name == name) d.interceptors

abbrev pub is_plain_qualifier : ℕ → Bool
is_plain_qualifier name = is_built_in names.Any name || is_built_in names.Default name

-- the built-in qualifiers with the one member `value`
abbrev pub is_valued_qualifier : ℕ → Bool
is_valued_qualifier name =
    is_built_in names.Named name || is_built_in names.Initialized name
    || is_built_in names.BeforeDestroyed name
    || is_built_in names.Destroyed name

abbrev pub is_declared : List AnnotationType → ℕ → Bool
is_declared types name = list_any (λ t. t.name == name) types

-- a member that a declaration of the name has
abbrev pub has_member : List AnnotationType → ℕ → ℕ → Bool
has_member types name member = list_any (λ t. (t.name == name) && stands_in t.members member) types

abbrev pub is_qualifier_member : Deployment → ℕ → ℕ → Bool
is_qualifier_member d name member =
    has_member d.qualifiers name member
    || (is_valued_qualifier name && is_built_in names.Value member)

abbrev pub is_qualifier : Deployment → ℕ → Bool
is_qualifier d name =
    is_plain_qualifier name || is_valued_qualifier name || is_declared d.qualifiers name

-- a use of a qualifier: its type is known, and each member is one of the type's
abbrev pub is_qualifier_use : Deployment → Use → Bool
is_qualifier_use d u =
    is_qualifier d u.name && list_all (λ m. is_qualifier_member d u.name m.name) u.members

abbrev pub is_binding_use : Deployment → Use → Bool
is_binding_use d u =
    is_declared d.bindings u.name && list_all (λ m. has_member d.bindings u.name m.name) u.members

-- an event has no qualifier Default
abbrev pub is_event_qualifier_use : Deployment → Use → Bool
is_event_qualifier_use d u = not (is_built_in names.Default u.name) && is_qualifier_use d u

abbrev pub are_qualifiers : Deployment → List Use → Bool
are_qualifiers d uses = list_all (is_qualifier_use d) uses

abbrev pub are_bindings : Deployment → List Use → Bool
are_bindings d uses = list_all (is_binding_use d) uses

-- an injection point that is a parameter
abbrev pub knows_point : Deployment → Point → Bool
knows_point d p = is_type d p.ty && are_qualifiers d p.quals

abbrev pub know_points : Deployment → List Point → Bool
know_points d params = list_all (knows_point d) params

abbrev pub knows_typed : Deployment → Option (List ℕ) → Bool
knows_typed d None = true
knows_typed d (Some typed) = list_all (is_type d) typed

abbrev pub knows_bean : Deployment → Option Bean → Bool
knows_bean d None = true
knows_bean d (Some b) = are_qualifiers d b.quals && knows_typed d b.typed

abbrev pub knows_superclass : Deployment → Option ℕ → Bool
knows_superclass d None = true
knows_superclass d (Some name) = is_extensible d name

abbrev pub knows_class : Deployment → Class → Bool
knows_class d c =
    knows_superclass d c.extends && list_all (is_interface d) c.implements
    && are_bindings d c.bindings && knows_bean d c.bean

abbrev pub has_field : List Field → ℕ → Bool
has_field fields name = list_any (λ f. f.name == name) fields

abbrev pub knows_member : Deployment → Class → Member → Bool
knows_member d c (members.Method m) = are_bindings d m.bindings
knows_member d c (members.Initializer i) = know_points d i.params
knows_member d c (members.PostConstruct m) = true
knows_member d c (members.PreDestroy m) = true
knows_member d c (members.Producer p) =
    is_type d p.ty && are_qualifiers d p.quals && knows_typed d p.typed && know_points d p.params
    && are_bindings d p.bindings
knows_member d c (members.ProducerField p) =
    has_field c.fields p.field && is_type d p.ty && are_qualifiers d p.quals
    && knows_typed d p.typed
knows_member d c (members.Disposer m) =
    is_type d m.ty && are_qualifiers d m.quals && know_points d m.params
    && are_bindings d m.bindings
knows_member d c (members.Observer o) =
    is_type d o.ty && list_all (is_event_qualifier_use d) o.quals && know_points d o.params
    && are_bindings d o.bindings

-- each name that an element has is declared, and of the right kind
abbrev pub knows_names : Deployment → Element → Bool
knows_names d (Element.AnInterface i) = list_all (is_interface d) i.extends
knows_names d (Element.AQualifier q) = list_all (stands_in q.members) q.nonbinding
knows_names d (Element.ABinding b) = list_all (stands_in b.members) b.nonbinding
knows_names d (Element.AClass i c) = knows_class d c
knows_names d (Element.AnInjectedField i c f) = is_type d f.ty && are_qualifiers d f.quals
knows_names d (Element.AConstructor i c k) = know_points d k.params
knows_names d (Element.AMember i c m) = knows_member d c m
knows_names d (Element.AnInterceptor i j) = are_bindings d j.bindings
knows_names d (Element.AnInterceptorInjectedField i j f) =
    is_type d f.ty && are_qualifiers d f.quals
knows_names d (Element.ASelectedName name) = is_bean_class d name
knows_names d (Element.AnOrderedName name) = is_interceptor d name
knows_names d _ = true

-- P2 UnknownName: a name isn't declared, or is of the wrong kind
abbrev pub HasUnknownName : Deployment → Element → Type 0
HasUnknownName d e = IsTrue (not (knows_names d e))
