-- No list of a deployment is longer than its limit. Entries count as they were written, repeated ones too.
use Rattle.std.specs.Prelude.{ℕ, ◌+◌, Bool, true, ◌&&◌, List, length, nat_le, Option, Some, None}
use Rattle.std.specs.List.{list_all}
use Rattle.cdi_base.specs.declared.uses.Use.{Use}
use Rattle.cdi_deployment.specs.declared.deployment.AnnotationType.{AnnotationType}
use Rattle.cdi_deployment.specs.declared.deployment.Bean.{Bean}
use Rattle.cdi_deployment.specs.declared.deployment.Class.{Class}
use Rattle.cdi_deployment.specs.declared.deployment.Constructor.{Constructor}
use Rattle.cdi_deployment.specs.declared.deployment.Deployment.{Deployment}
use Rattle.cdi_deployment.specs.declared.deployment.InjectedField.{InjectedField}
use Rattle.cdi_deployment.specs.declared.deployment.Interceptor.{Interceptor}
use Rattle.cdi_deployment.specs.declared.deployment.Interface.{Interface}
use Rattle.cdi_deployment.specs.declared.deployment.Member.{Member}
use Rattle.cdi_deployment.specs.declared.deployment.Member.TheVariants as members
use Rattle.cdi_deployment.specs.declared.deployment.Point.{Point}

-- the items are at most so many
abbrev pub is_at_most : {X : Type 0} → ℕ → List X → Bool
is_at_most most xs = nat_le (length xs) most

-- a list of names that has no limit of its own
abbrev pub are_names_within : List ℕ → Bool
are_names_within names = is_at_most 64 names

abbrev pub are_uses_within : List Use → Bool
are_uses_within uses = is_at_most 16 uses

-- the names that restrict the types of a bean, where they do
abbrev pub is_typed_within : Option (List ℕ) → Bool
is_typed_within None = true
is_typed_within (Some names) = are_names_within names

abbrev pub is_interface_within : Interface → Bool
is_interface_within i = are_names_within i.extends

abbrev pub is_annotation_type_within : AnnotationType → Bool
is_annotation_type_within a = is_at_most 8 a.members && are_names_within a.nonbinding

abbrev pub is_bean_within : Option Bean → Bool
is_bean_within None = true
is_bean_within (Some b) = are_uses_within b.quals && is_typed_within b.typed

abbrev pub are_injected_within : List InjectedField → Bool
are_injected_within fields = list_all (λ f. are_uses_within f.quals) fields

-- 16 parameters
abbrev pub are_params_within : List Point → Bool
are_params_within params = is_at_most 16 params && list_all (λ p. are_uses_within p.quals) params

abbrev pub is_constructor_within : Option Constructor → Bool
is_constructor_within None = true
is_constructor_within (Some c) = are_params_within c.params

abbrev pub is_member_within : Member → Bool
is_member_within (members.Method m) = are_uses_within m.bindings
is_member_within (members.Initializer m) = are_params_within m.params
is_member_within (members.PostConstruct m) = true
is_member_within (members.PreDestroy m) = true
is_member_within (members.Producer m) =
    are_uses_within m.quals && is_typed_within m.typed && are_params_within m.params
    && are_uses_within m.bindings
is_member_within (members.ProducerField m) = are_uses_within m.quals && is_typed_within m.typed
is_member_within (members.Disposer m) =
    are_uses_within m.quals && are_params_within m.params && are_uses_within m.bindings
is_member_within (members.Observer m) =
    are_uses_within m.quals && are_params_within m.params && are_uses_within m.bindings

-- 64 fields that hold values and injected fields together
abbrev pub are_fields_within : ℕ → ℕ → Bool
are_fields_within fields inject = nat_le (fields + inject) 64

-- 64 members
abbrev pub is_class_within : Class → Bool
is_class_within c =
    are_fields_within (length c.fields) (length c.inject) && is_at_most 64 c.members
    && are_names_within c.implements && are_uses_within c.bindings
    && is_bean_within c.bean && are_injected_within c.inject && is_constructor_within c.constructor
    && list_all is_member_within c.members

abbrev pub is_interceptor_within : Interceptor → Bool
is_interceptor_within i =
    are_fields_within (length i.fields) (length i.inject) && are_uses_within i.bindings
    && are_injected_within i.inject

-- 1,024 interfaces, classes and interceptors together
abbrev pub are_types_within : Deployment → Bool
are_types_within d = nat_le (length d.interfaces + length d.classes + length d.interceptors) 1024

-- 1,024 items of each other list
abbrev pub is_length_within : Deployment → Bool
is_length_within d =
    are_types_within d && is_at_most 1024 d.scripts && is_at_most 1024 d.qualifiers
    && is_at_most 1024 d.bindings && is_at_most 1024 d.exceptions
    && is_at_most 1024 d.selected && is_at_most 1024 d.order

abbrev pub is_within : Deployment → Bool
is_within d =
    is_length_within d && list_all is_class_within d.classes
    && list_all is_interface_within d.interfaces
    && list_all is_annotation_type_within d.qualifiers
    && list_all is_annotation_type_within d.bindings
    && list_all is_interceptor_within d.interceptors
