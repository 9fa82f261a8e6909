-- No long list is found exactly where a deployment is within the limits.
use Rattle.std.proofs.Common.{◌≡◌, ◌∙◌, ℕ, ◌+◌, Bool, true, false, nat_le, ◌&&◌, List, [], ◌∷◌, codes, length, Option, Some, None, if◌then◌else◌, refl}
use Rattle.std.proofs.Math.Bool.{and_assoc}
use Rattle.std.specs.List.{list_all}
use Rattle.std.specs.Option.{is_none}
use Rattle.cdi_base.specs.declared.uses.Use.{Use}
use Rattle.cdi_deployment.specs.declared.deployment.AnnotationType.{AnnotationType}
use Rattle.cdi_deployment.specs.declared.deployment.Bean.{Bean}
use Rattle.cdi_deployment.specs.declared.deployment.Class.{Class}
use Rattle.cdi_deployment.specs.declared.deployment.Constructor.{Constructor}
use Rattle.cdi_deployment.specs.declared.deployment.Deployment.{Deployment}
use Rattle.cdi_deployment.specs.declared.deployment.InjectedField.{InjectedField}
use Rattle.cdi_deployment.specs.declared.deployment.Interceptor.{Interceptor}
use Rattle.cdi_deployment.specs.declared.deployment.Interface.{Interface}
use Rattle.cdi_deployment.specs.declared.deployment.Member.{Member}
use Rattle.cdi_deployment.specs.declared.deployment.Member.TheVariants as members
use Rattle.cdi_deployment.specs.declared.deployment.Point.{Point}
use Rattle.cdi_deployment.specs.Limits.{are_fields_within, are_injected_within, are_names_within, are_params_within, are_types_within, are_uses_within, is_annotation_type_within, is_at_most, is_bean_within, is_class_within, is_constructor_within, is_interceptor_within, is_interface_within, is_length_within, is_member_within, is_typed_within, is_within}
use Rattle.cdi_prepare.specs.ItemLists.{annotation_list, bean_list, class_list, constructor_list, first_in, first_of, injected_list, interceptor_list, interface_list, item_place, long_list, long_names, long_typed, long_uses, member_list, params_list, point_list}
use Rattle.cdi_prepare.specs.LongList.{first_long_list, list_of_deployment, list_of_items}
use Rattle.cdi_prepare.specs.declared.hint.Mistake.{Mistake}
use Rattle.cdi_prepare.proofs.Options.{both_none}

-- ---- tests one after the other, as `&&` groups them, and from the last on

end : {X : Type 0} (b : Bool) (o : Option X) → b ≡ is_none o → b ≡ is_none (first_of (o ∷ []))
end b None is = is
end b (Some x) is = is

two : {X : Type 0} (a b : Bool) (o p : Option X) → a ≡ is_none o → b ≡ is_none p → (a && b) ≡ is_none (first_of (o ∷ p ∷ []))
two a b o p first second = both_none a b o _ first (end b p second)

three : {X : Type 0} (a b c : Bool) (o p q : Option X) → a ≡ is_none o → b ≡ is_none p → c ≡ is_none q
    → (a && b && c) ≡ is_none (first_of (o ∷ p ∷ q ∷ []))
three a b c o p q first second third = and_assoc a b c ∙ both_none a (b && c) o _ first (two b c p q second third)

four : {X : Type 0} (a b c d : Bool) (o p q r : Option X) → a ≡ is_none o → b ≡ is_none p → c ≡ is_none q → d ≡ is_none r
    → (a && b && c && d) ≡ is_none (first_of (o ∷ p ∷ q ∷ r ∷ []))
four a b c d o p q r first second third fourth =
    and_assoc (a && b) c d ∙ and_assoc a b (c && d)
    ∙ both_none a (b && (c && d)) o _ first (both_none b (c && d) p _ second (two c d q r third fourth))

-- ---- a list

list-none : (place key : List ℕ) (length limit : ℕ) → nat_le length limit ≡ is_none (long_list place key length limit)
list-none place key length limit = by (nat_le length limit) _
  where
    by : {X : Type 0} (b : Bool) (x : X) → b ≡ is_none (if b then None else Some x)
    by true x = refl
    by false x = refl

names-none : (place key names : List ℕ) → are_names_within names ≡ is_none (long_names place key names)
names-none place key names = list-none place key (length names) 64

uses-none : (place key : List ℕ) (uses : List Use) → are_uses_within uses ≡ is_none (long_uses place key uses)
uses-none place key uses = list-none place key (length uses) 16

typed-none : (place key : List ℕ) (typed : Option (List ℕ)) → is_typed_within typed ≡ is_none (long_typed place key typed)
typed-none place key None = refl
typed-none place key (Some names) = names-none place key names

items-none : {X : Type 0} (p : X → Bool) (long : List ℕ → X → Option Mistake) (place key : List ℕ) (index : ℕ) (xs : List X)
    → ((at : List ℕ) (x : X) → p x ≡ is_none (long at x)) → list_all p xs ≡ is_none (first_in long place key index xs)
items-none p long place key index [] each = refl
items-none p long place key index (x ∷ xs) each =
    both_none (p x) (list_all p xs) (long (item_place place key index) x) _ (each _ x) (items-none p long place key (index + 1) xs each)

-- ---- the items of a deployment

interface-none : (place : List ℕ) (i : Interface) → is_interface_within i ≡ is_none (interface_list place i)
interface-none place i = names-none place (codes "extends") i.extends

annotation-none : (place : List ℕ) (a : AnnotationType) → is_annotation_type_within a ≡ is_none (annotation_list place a)
annotation-none place a =
    two _ _ _ _ (list-none place (codes "members") (length a.members) 8) (names-none place (codes "nonbinding") a.nonbinding)

bean-none : (place : List ℕ) (bean : Option Bean) → is_bean_within bean ≡ is_none (bean_list place bean)
bean-none place None = refl
bean-none place (Some b) = two _ _ _ _ (uses-none place (codes "bean/quals") b.quals) (typed-none place (codes "bean/typed") b.typed)

injected-none : (place : List ℕ) (f : InjectedField) → are_uses_within f.quals ≡ is_none (injected_list place f)
injected-none place f = uses-none place (codes "quals") f.quals

point-none : (place : List ℕ) (p : Point) → are_uses_within p.quals ≡ is_none (point_list place p)
point-none place p = uses-none place (codes "quals") p.quals

all-injected-none : (place : List ℕ) (fields : List InjectedField) → are_injected_within fields ≡ is_none (first_in injected_list place (codes "inject") 0 fields)
all-injected-none place fields =
    items-none (λ (f : InjectedField). are_uses_within f.quals) injected_list place (codes "inject") 0 fields injected-none

params-none : (place key : List ℕ) (params : List Point) → are_params_within params ≡ is_none (params_list place key params)
params-none place key params =
    two _ _ _ _ (list-none place key (length params) 16)
    (items-none (λ (p : Point). are_uses_within p.quals) point_list place key 0 params point-none)

constructor-none : (place : List ℕ) (constructor : Option Constructor) → is_constructor_within constructor ≡ is_none (constructor_list place constructor)
constructor-none place None = refl
constructor-none place (Some c) = params-none place (codes "constructor/params") c.params

member-none : (place : List ℕ) (m : Member) → is_member_within m ≡ is_none (member_list place m)
member-none place (members.Method m) = uses-none place (codes "bindings") m.bindings
member-none place (members.Initializer m) = params-none place (codes "params") m.params
member-none place (members.PostConstruct m) = refl
member-none place (members.PreDestroy m) = refl
member-none place (members.Producer m) =
    four _ _ _ _ _ _ _ _ (uses-none place (codes "quals") m.quals) (typed-none place (codes "typed") m.typed)
    (params-none place (codes "params") m.params) (uses-none place (codes "bindings") m.bindings)
member-none place (members.ProducerField m) =
    two _ _ _ _ (uses-none place (codes "quals") m.quals) (typed-none place (codes "typed") m.typed)
member-none place (members.Disposer m) =
    three _ _ _ _ _ _ (uses-none place (codes "quals") m.quals) (params-none place (codes "params") m.params)
    (uses-none place (codes "bindings") m.bindings)
member-none place (members.Observer m) =
    three _ _ _ _ _ _ (uses-none place (codes "quals") m.quals) (params-none place (codes "params") m.params)
    (uses-none place (codes "bindings") m.bindings)

-- eight tests one after the other, the last five of them together
group-eight : (a b c d e f g h : Bool) → (a && b && c && d && e && f && g && h) ≡ (a && (b && (c && (d && (e && f && g && h)))))
group-eight true true true true e f g h = refl
group-eight true true true false e f g h = refl
group-eight true true false d e f g h = refl
group-eight true false c d e f g h = refl
group-eight false b c d e f g h = refl

class-none : (place : List ℕ) (c : Class) → is_class_within c ≡ is_none (class_list place c)
class-none place c =
    group-eight (are_fields_within (length c.fields) (length c.inject)) (is_at_most 64 c.members) (are_names_within c.implements)
    (are_uses_within c.bindings) (is_bean_within c.bean) (are_injected_within c.inject) (is_constructor_within c.constructor)
    (list_all is_member_within c.members)
    ∙ both_none _ _ _ _ (list-none place (codes "fields") (length c.fields + length c.inject) 64)
    (both_none _ _ _ _ (list-none place (codes "members") (length c.members) 64)
    (both_none _ _ _ _ (names-none place (codes "implements") c.implements)
    (both_none _ _ _ _ (uses-none place (codes "bindings") c.bindings)
    (four _ _ _ _ _ _ _ _ (bean-none place c.bean) (all-injected-none place c.inject) (constructor-none place c.constructor)
    (items-none is_member_within member_list place (codes "members") 0 c.members member-none)))))

interceptor-none : (place : List ℕ) (i : Interceptor) → is_interceptor_within i ≡ is_none (interceptor_list place i)
interceptor-none place i =
    three _ _ _ _ _ _ (list-none place (codes "fields") (length i.fields + length i.inject) 64)
    (uses-none place (codes "bindings") i.bindings) (all-injected-none place i.inject)

-- ---- the deployment

-- seven tests one after the other, the last four of them together
group-seven : (a b c d e f g : Bool) → (a && b && c && d && e && f && g) ≡ (a && (b && (c && (d && e && f && g))))
group-seven true true true d e f g = refl
group-seven true true false d e f g = refl
group-seven true false c d e f g = refl
group-seven false b c d e f g = refl

length-none : (d : Deployment) → is_length_within d ≡ is_none (list_of_deployment d)
length-none d =
    group-seven (are_types_within d) (is_at_most 1024 d.scripts) (is_at_most 1024 d.qualifiers) (is_at_most 1024 d.bindings)
    (is_at_most 1024 d.exceptions) (is_at_most 1024 d.selected) (is_at_most 1024 d.order)
    ∙ both_none _ _ _ _ (list-none [] (codes "classes") (length d.interfaces + length d.classes + length d.interceptors) 1024)
    (both_none _ _ _ _ (list-none [] (codes "scripts") (length d.scripts) 1024)
    (both_none _ _ _ _ (list-none [] (codes "qualifiers") (length d.qualifiers) 1024)
    (four _ _ _ _ _ _ _ _ (list-none [] (codes "bindings") (length d.bindings) 1024)
    (list-none [] (codes "exceptions") (length d.exceptions) 1024)
    (list-none [] (codes "selected") (length d.selected) 1024)
    (list-none [] (codes "order") (length d.order) 1024))))

-- six tests one after the other, the last five of them together
group-six : (a b c d e f : Bool) → (a && b && c && d && e && f) ≡ (a && (b && (c && d && e && f)))
group-six true true c d e f = refl
group-six true false c d e f = refl
group-six false b c d e f = refl

pub deployment-none : (d : Deployment) → is_within d ≡ is_none (first_long_list d)
deployment-none d =
    group-six (is_length_within d) (list_all is_class_within d.classes) (list_all is_interface_within d.interfaces)
    (list_all is_annotation_type_within d.qualifiers) (list_all is_annotation_type_within d.bindings)
    (list_all is_interceptor_within d.interceptors)
    ∙ two _ _ (list_of_deployment d) (list_of_items d) (length-none d)
    (both_none _ _ _ _ (items-none is_class_within class_list [] (codes "classes") 0 d.classes class-none)
    (four _ _ _ _ _ _ _ _ (items-none is_interface_within interface_list [] (codes "interfaces") 0 d.interfaces interface-none)
    (items-none is_annotation_type_within annotation_list [] (codes "qualifiers") 0 d.qualifiers annotation-none)
    (items-none is_annotation_type_within annotation_list [] (codes "bindings") 0 d.bindings annotation-none)
    (items-none is_interceptor_within interceptor_list [] (codes "interceptors") 0 d.interceptors interceptor-none)))
