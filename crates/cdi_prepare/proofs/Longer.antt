-- A list that is told is longer than its limit.
use Rattle.std.proofs.Common.{◌≡◌, ℕ, ◌+◌, Bool, true, false, nat_le, List, [], ◌∷◌, ◌++◌, codes, length, Option, Some, None, IfSome, if◌then◌else◌, refl, arith}
use Rattle.std.specs.Option.{option_or}
use Rattle.cdi_base.specs.declared.uses.Use.{Use}
use Rattle.cdi_deployment.specs.declared.deployment.AnnotationType.{AnnotationType}
use Rattle.cdi_deployment.specs.declared.deployment.Bean.{Bean}
use Rattle.cdi_deployment.specs.declared.deployment.Class.{Class}
use Rattle.cdi_deployment.specs.declared.deployment.Constructor.{Constructor}
use Rattle.cdi_deployment.specs.declared.deployment.Deployment.{Deployment}
use Rattle.cdi_deployment.specs.declared.deployment.InjectedField.{InjectedField}
use Rattle.cdi_deployment.specs.declared.deployment.Interceptor.{Interceptor}
use Rattle.cdi_deployment.specs.declared.deployment.Interface.{Interface}
use Rattle.cdi_deployment.specs.declared.deployment.Member.{Member}
use Rattle.cdi_deployment.specs.declared.deployment.Member.TheVariants as members
use Rattle.cdi_deployment.specs.declared.deployment.Point.{Point}
use Rattle.cdi_prepare.specs.ItemLists.{annotation_list, bean_list, class_list, constructor_list, first_in, first_of, injected_list, interceptor_list, interface_list, item_place, long_list, long_names, long_typed, long_uses, member_list, params_list, point_list}
use Rattle.cdi_prepare.specs.Kinds.{IsList}
use Rattle.cdi_prepare.specs.LongList.{first_long_list, list_of_deployment, list_of_items}
use Rattle.cdi_prepare.specs.declared.hint.Mistake.{Mistake}
use Rattle.cdi_prepare.specs.declared.hint.Mistake.TheVariants as mistakes

-- the list, if there is one, is longer than its limit
abbrev Longer : Option Mistake → Type 0
Longer o = IfSome o IsList

abbrev AllLonger : List (Option Mistake) → Type 0
AllLonger [] = Unit {0}
AllLonger (o ∷ os) = Longer o × AllLonger os

either : (o p : Option Mistake) → Longer o → Longer p → Longer (option_or o p)
either None p first second = second
either (Some mistake) p first second = first

first : (os : List (Option Mistake)) → AllLonger os → Longer (first_of os)
first [] all = tt
first (o ∷ os) all = either o (first_of os) all.0 (first os all.1)

-- ---- a list

list-longer : (place key : List ℕ) (length limit : ℕ) → Longer (long_list place key length limit)
list-longer place key length limit = by (nat_le length limit) refl
  where
    by : (b : Bool) → nat_le length limit ≡ b → Longer (if b then None else Some (mistakes.List (place ++ (codes "/" ++ key)) length limit))
    by true is = tt
    by false is = grind (arith, is)

names-longer : (place key names : List ℕ) → Longer (long_names place key names)
names-longer place key names = list-longer place key (length names) 64

uses-longer : (place key : List ℕ) (uses : List Use) → Longer (long_uses place key uses)
uses-longer place key uses = list-longer place key (length uses) 16

typed-longer : (place key : List ℕ) (typed : Option (List ℕ)) → Longer (long_typed place key typed)
typed-longer place key None = tt
typed-longer place key (Some names) = names-longer place key names

items-longer : {X : Type 0} (long : List ℕ → X → Option Mistake) (place key : List ℕ) (index : ℕ) (xs : List X)
    → ((at : List ℕ) (x : X) → Longer (long at x)) → Longer (first_in long place key index xs)
items-longer long place key index [] each = tt
items-longer long place key index (x ∷ xs) each =
    either (long (item_place place key index) x) _ (each _ x) (items-longer long place key (index + 1) xs each)

-- ---- the items of a deployment

interface-longer : (place : List ℕ) (i : Interface) → Longer (interface_list place i)
interface-longer place i = names-longer place (codes "extends") i.extends

annotation-longer : (place : List ℕ) (a : AnnotationType) → Longer (annotation_list place a)
annotation-longer place a =
    first (long_list place (codes "members") (length a.members) 8 ∷ long_names place (codes "nonbinding") a.nonbinding ∷ [])
    (list-longer place (codes "members") (length a.members) 8, (names-longer place (codes "nonbinding") a.nonbinding, tt))

bean-longer : (place : List ℕ) (bean : Option Bean) → Longer (bean_list place bean)
bean-longer place None = tt
bean-longer place (Some b) =
    first (long_uses place (codes "bean/quals") b.quals ∷ long_typed place (codes "bean/typed") b.typed ∷ [])
    (uses-longer place (codes "bean/quals") b.quals, (typed-longer place (codes "bean/typed") b.typed, tt))

injected-longer : (place : List ℕ) (f : InjectedField) → Longer (injected_list place f)
injected-longer place f = uses-longer place (codes "quals") f.quals

point-longer : (place : List ℕ) (p : Point) → Longer (point_list place p)
point-longer place p = uses-longer place (codes "quals") p.quals

params-longer : (place key : List ℕ) (params : List Point) → Longer (params_list place key params)
params-longer place key params =
    first (long_list place key (length params) 16 ∷ first_in point_list place key 0 params ∷ [])
    (list-longer place key (length params) 16, (items-longer point_list place key 0 params point-longer, tt))

constructor-longer : (place : List ℕ) (constructor : Option Constructor) → Longer (constructor_list place constructor)
constructor-longer place None = tt
constructor-longer place (Some c) = params-longer place (codes "constructor/params") c.params

member-longer : (place : List ℕ) (m : Member) → Longer (member_list place m)
member-longer place (members.Method m) = uses-longer place (codes "bindings") m.bindings
member-longer place (members.Initializer m) = params-longer place (codes "params") m.params
member-longer place (members.PostConstruct m) = tt
member-longer place (members.PreDestroy m) = tt
member-longer place (members.Producer m) =
    first (long_uses place (codes "quals") m.quals ∷ long_typed place (codes "typed") m.typed
    ∷ params_list place (codes "params") m.params ∷ long_uses place (codes "bindings") m.bindings ∷ []) (
      uses-longer place (codes "quals") m.quals,
      (
        typed-longer place (codes "typed") m.typed,
        (params-longer place (codes "params") m.params, (uses-longer place (codes "bindings") m.bindings, tt)),
      ),
    )
member-longer place (members.ProducerField m) =
    first (long_uses place (codes "quals") m.quals ∷ long_typed place (codes "typed") m.typed ∷ [])
    (uses-longer place (codes "quals") m.quals, (typed-longer place (codes "typed") m.typed, tt))
member-longer place (members.Disposer m) =
    first (long_uses place (codes "quals") m.quals ∷ params_list place (codes "params") m.params
    ∷ long_uses place (codes "bindings") m.bindings ∷ []) (
      uses-longer place (codes "quals") m.quals,
      (
        params-longer place (codes "params") m.params,
        (uses-longer place (codes "bindings") m.bindings, tt),
      ),
    )
member-longer place (members.Observer m) =
    first (long_uses place (codes "quals") m.quals ∷ params_list place (codes "params") m.params
    ∷ long_uses place (codes "bindings") m.bindings ∷ []) (
      uses-longer place (codes "quals") m.quals,
      (
        params-longer place (codes "params") m.params,
        (uses-longer place (codes "bindings") m.bindings, tt),
      ),
    )

class-longer : (place : List ℕ) (c : Class) → Longer (class_list place c)
class-longer place c =
    first (long_list place (codes "fields") (length c.fields + length c.inject) 64
    ∷ long_list place (codes "members") (length c.members) 64 ∷ long_names place (codes "implements") c.implements
    ∷ long_uses place (codes "bindings") c.bindings ∷ bean_list place c.bean
    ∷ first_in injected_list place (codes "inject") 0 c.inject ∷ constructor_list place c.constructor
    ∷ first_in member_list place (codes "members") 0 c.members ∷ []) (
      list-longer place (codes "fields") (length c.fields + length c.inject) 64,
      (
        list-longer place (codes "members") (length c.members) 64,
        (
          names-longer place (codes "implements") c.implements,
          (
            uses-longer place (codes "bindings") c.bindings,
            (
              bean-longer place c.bean,
              (
                items-longer injected_list place (codes "inject") 0 c.inject injected-longer,
                (
                  constructor-longer place c.constructor,
                  (items-longer member_list place (codes "members") 0 c.members member-longer, tt),
                ),
              ),
            ),
          ),
        ),
      ),
    )

interceptor-longer : (place : List ℕ) (i : Interceptor) → Longer (interceptor_list place i)
interceptor-longer place i =
    first (long_list place (codes "fields") (length i.fields + length i.inject) 64 ∷ long_uses place (codes "bindings") i.bindings
    ∷ first_in injected_list place (codes "inject") 0 i.inject ∷ []) (
      list-longer place (codes "fields") (length i.fields + length i.inject) 64,
      (
        uses-longer place (codes "bindings") i.bindings,
        (items-longer injected_list place (codes "inject") 0 i.inject injected-longer, tt),
      ),
    )

-- ---- the deployment

deployment-longer : (d : Deployment) → Longer (list_of_deployment d)
deployment-longer d =
    first (long_list [] (codes "classes") (length d.interfaces + length d.classes + length d.interceptors) 1024
    ∷ long_list [] (codes "scripts") (length d.scripts) 1024 ∷ long_list [] (codes "qualifiers") (length d.qualifiers) 1024
    ∷ long_list [] (codes "bindings") (length d.bindings) 1024 ∷ long_list [] (codes "exceptions") (length d.exceptions) 1024
    ∷ long_list [] (codes "selected") (length d.selected) 1024 ∷ long_list [] (codes "order") (length d.order) 1024 ∷ []) (
      list-longer [] (codes "classes") (length d.interfaces + length d.classes + length d.interceptors) 1024,
      (
        list-longer [] (codes "scripts") (length d.scripts) 1024,
        (
          list-longer [] (codes "qualifiers") (length d.qualifiers) 1024,
          (
            list-longer [] (codes "bindings") (length d.bindings) 1024,
            (
              list-longer [] (codes "exceptions") (length d.exceptions) 1024,
              (list-longer [] (codes "selected") (length d.selected) 1024, (list-longer [] (codes "order") (length d.order) 1024, tt)),
            ),
          ),
        ),
      ),
    )

items-of-longer : (d : Deployment) → Longer (list_of_items d)
items-of-longer d =
    first (first_in class_list [] (codes "classes") 0 d.classes ∷ first_in interface_list [] (codes "interfaces") 0 d.interfaces
    ∷ first_in annotation_list [] (codes "qualifiers") 0 d.qualifiers ∷ first_in annotation_list [] (codes "bindings") 0 d.bindings
    ∷ first_in interceptor_list [] (codes "interceptors") 0 d.interceptors ∷ []) (
      items-longer class_list [] (codes "classes") 0 d.classes class-longer,
      (
        items-longer interface_list [] (codes "interfaces") 0 d.interfaces interface-longer,
        (
          items-longer annotation_list [] (codes "qualifiers") 0 d.qualifiers annotation-longer,
          (
            items-longer annotation_list [] (codes "bindings") 0 d.bindings annotation-longer,
            (items-longer interceptor_list [] (codes "interceptors") 0 d.interceptors interceptor-longer, tt),
          ),
        ),
      ),
    )

pub first-longer : (d : Deployment) → IfSome (first_long_list d) IsList
first-longer d =
    first (list_of_deployment d ∷ list_of_items d ∷ []) (deployment-longer d, (items-of-longer d, tt))
