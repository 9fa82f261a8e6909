-- The names that an element uses.
use Rattle.std.specs.Prelude.{ℕ, List, [], ◌∷◌, ◌++◌, map, Option, Some, None, option_to_list}
use Rattle.std.specs.List.{flat_map}
use Rattle.cdi_base.specs.declared.uses.MemberValue.{MemberValue}
use Rattle.cdi_base.specs.declared.uses.Use.{Use}
use Rattle.cdi_deployment.specs.declared.deployment.Bean.{Bean}
use Rattle.cdi_deployment.specs.declared.deployment.Class.{Class}
use Rattle.cdi_deployment.specs.declared.deployment.Disposer.{Disposer}
use Rattle.cdi_deployment.specs.declared.deployment.Member.{Member}
use Rattle.cdi_deployment.specs.declared.deployment.Member.TheVariants as members
use Rattle.cdi_deployment.specs.declared.deployment.Observer.{Observer}
use Rattle.cdi_deployment.specs.declared.deployment.Point.{Point}
use Rattle.cdi_deployment.specs.declared.deployment.ProducerField.{ProducerField}
use Rattle.cdi_deployment.specs.declared.deployment.ProducerMethod.{ProducerMethod}
use Rattle.cdi_name_uses.specs.declared.group.Annotation.{Annotation}
use Rattle.cdi_name_uses.specs.declared.group.Annotation.TheVariants as annotations
use Rattle.cdi_name_uses.specs.declared.group.Group.{Group}
use Rattle.cdi_name_uses.specs.declared.group.Group.TheVariants as groups
use Rattle.cdi_name_uses.specs.declared.name_use.NameUse.{NameUse}
use Rattle.cdi_problems.specs.Elements.{Element}

-- the name has to be one of the group
abbrev pub of_group : Group → ℕ → NameUse
of_group group name = record { group = group; name = name }

abbrev pub member_uses : Group → List MemberValue → List NameUse
member_uses group values = map (λ m. of_group group m.name) values

-- an annotation: its name, and the members that it gives a value
abbrev pub annotation_uses : Annotation → Use → List NameUse
annotation_uses a u =
    of_group (groups.Annotation a) u.name ∷ member_uses (groups.MemberOf a u.name) u.members

abbrev pub annotations_uses : Annotation → List Use → List NameUse
annotations_uses a uses = flat_map (annotation_uses a) uses

-- a type with qualifiers
abbrev pub typed_uses : ℕ → List Use → List NameUse
typed_uses ty quals = of_group groups.Type ty ∷ annotations_uses annotations.Qualifier quals

abbrev pub points_uses : List Point → List NameUse
points_uses points = flat_map (λ p. typed_uses p.ty p.quals) points

-- the types that a bean is restricted to
abbrev pub restriction_uses : Option (List ℕ) → List NameUse
restriction_uses None = []
restriction_uses (Some typed) = map (of_group groups.Type) typed

abbrev pub bean_uses : Option Bean → List NameUse
bean_uses None = []
bean_uses (Some b) = annotations_uses annotations.Qualifier b.quals ++ restriction_uses b.typed

abbrev pub superclass_uses : Option ℕ → List NameUse
superclass_uses extends = map (of_group groups.Superclass) (option_to_list extends)

abbrev pub class_uses : Class → List NameUse
class_uses c =
    superclass_uses c.extends ++ map (of_group groups.Interface) c.implements
    ++ annotations_uses annotations.Binding c.bindings ++ bean_uses c.bean

abbrev pub producer_uses : ProducerMethod → List NameUse
producer_uses p =
    typed_uses p.ty p.quals ++ restriction_uses p.typed ++ points_uses p.params
    ++ annotations_uses annotations.Binding p.bindings

abbrev pub producer_field_uses : ProducerField → List NameUse
producer_field_uses p =
    of_group groups.OwnField p.field ∷ (typed_uses p.ty p.quals ++ restriction_uses p.typed)

abbrev pub disposer_uses : Disposer → List NameUse
disposer_uses d =
    typed_uses d.ty d.quals ++ points_uses d.params
    ++ annotations_uses annotations.Binding d.bindings

abbrev pub observer_uses : Observer → List NameUse
observer_uses o =
    of_group groups.Type o.ty
    ∷ (annotations_uses annotations.EventQualifier o.quals ++ points_uses o.params
    ++ annotations_uses annotations.Binding o.bindings)

abbrev pub uses_of_member : Member → List NameUse
uses_of_member (members.Method m) = annotations_uses annotations.Binding m.bindings
uses_of_member (members.Initializer i) = points_uses i.params
uses_of_member (members.PostConstruct m) = []
uses_of_member (members.PreDestroy m) = []
uses_of_member (members.Producer p) = producer_uses p
uses_of_member (members.ProducerField p) = producer_field_uses p
uses_of_member (members.Disposer d) = disposer_uses d
uses_of_member (members.Observer o) = observer_uses o

-- the names that an element uses, but for those of bodies
abbrev pub uses_of : Element → List NameUse
uses_of (Element.AnInterface i) = map (of_group groups.Interface) i.extends
uses_of (Element.AQualifier q) = map (of_group groups.OwnMember) q.nonbinding
uses_of (Element.ABinding b) = map (of_group groups.OwnMember) b.nonbinding
uses_of (Element.AClass i c) = class_uses c
uses_of (Element.AnInjectedField i c f) = typed_uses f.ty f.quals
uses_of (Element.AConstructor i c k) = points_uses k.params
uses_of (Element.AMember i c m) = uses_of_member m
uses_of (Element.AnInterceptor i j) = annotations_uses annotations.Binding j.bindings
uses_of (Element.AnInterceptorInjectedField i j f) = typed_uses f.ty f.quals
uses_of (Element.ASelectedName name) = of_group groups.BeanClass name ∷ []
uses_of (Element.AnOrderedName name) = of_group groups.Interceptor name ∷ []
uses_of _ = []
