-- The first list of an item of a deployment that is longer than its limit. The place of an item is the JSON Pointer to it.
use Rattle.std.specs.Prelude.{ℕ, ◌+◌, List, [], ◌∷◌, ◌++◌, codes, decimal, length, nat_le, Option, Some, None, if◌then◌else◌}
use Rattle.std.specs.Option.{option_or}
use Rattle.cdi_base.specs.declared.uses.Use.{Use}
use Rattle.cdi_deployment.specs.declared.deployment.AnnotationType.{AnnotationType}
use Rattle.cdi_deployment.specs.declared.deployment.Bean.{Bean}
use Rattle.cdi_deployment.specs.declared.deployment.Class.{Class}
use Rattle.cdi_deployment.specs.declared.deployment.Constructor.{Constructor}
use Rattle.cdi_deployment.specs.declared.deployment.Disposer.{Disposer}
use Rattle.cdi_deployment.specs.declared.deployment.InjectedField.{InjectedField}
use Rattle.cdi_deployment.specs.declared.deployment.Interceptor.{Interceptor}
use Rattle.cdi_deployment.specs.declared.deployment.Interface.{Interface}
use Rattle.cdi_deployment.specs.declared.deployment.Member.{Member}
use Rattle.cdi_deployment.specs.declared.deployment.Member.TheVariants as members
use Rattle.cdi_deployment.specs.declared.deployment.Observer.{Observer}
use Rattle.cdi_deployment.specs.declared.deployment.Point.{Point}
use Rattle.cdi_deployment.specs.declared.deployment.ProducerField.{ProducerField}
use Rattle.cdi_deployment.specs.declared.deployment.ProducerMethod.{ProducerMethod}
use Rattle.cdi_prepare.specs.declared.hint.Mistake.{Mistake}
use Rattle.cdi_prepare.specs.declared.hint.Mistake.TheVariants as mistakes

-- the first that there is
abbrev pub first_of : {X : Type 0} → List (Option X) → Option X
first_of [] = None
first_of (o ∷ os) = option_or o (first_of os)

-- the list at a key of a place, if it has more items than its limit
abbrev pub long_list : List ℕ → List ℕ → ℕ → ℕ → Option Mistake
long_list place key length limit =
    if nat_le length limit then None
    else Some (mistakes.List (place ++ (codes "/" ++ key)) length limit)

-- a list of names: at most 64, the common limit
abbrev pub long_names : List ℕ → List ℕ → List ℕ → Option Mistake
long_names place key names = long_list place key (length names) 64

abbrev pub long_uses : List ℕ → List ℕ → List Use → Option Mistake
long_uses place key uses = long_list place key (length uses) 16

-- the names that restrict the types of a bean, where they do
abbrev pub long_typed : List ℕ → List ℕ → Option (List ℕ) → Option Mistake
long_typed place key None = None
long_typed place key (Some names) = long_names place key names

abbrev pub item_place : List ℕ → List ℕ → ℕ → List ℕ
item_place place key index = place ++ (codes "/" ++ (key ++ (codes "/" ++ decimal index)))

-- the first list of the items at a key of a place, of which the first has this index
abbrev pub first_in : {X : Type 0} → (List ℕ → X → Option Mistake) → List ℕ → List ℕ → ℕ → List X
    → Option Mistake
first_in long place key index [] = None
first_in long place key index (x ∷ xs) =
    option_or (long (item_place place key index) x) (first_in long place key (index + 1) xs)

abbrev pub interface_list : List ℕ → Interface → Option Mistake
interface_list place i = long_names place (codes "extends") i.extends

abbrev pub annotation_list : List ℕ → AnnotationType → Option Mistake
annotation_list place a =
    first_of (long_list place (codes "members") (length a.members) 8
    ∷ long_names place (codes "nonbinding") a.nonbinding ∷ [])

abbrev pub bean_list : List ℕ → Option Bean → Option Mistake
bean_list place None = None
bean_list place (Some b) =
    first_of (long_uses place (codes "bean/quals") b.quals
    ∷ long_typed place (codes "bean/typed") b.typed ∷ [])

abbrev pub injected_list : List ℕ → InjectedField → Option Mistake
injected_list place f = long_uses place (codes "quals") f.quals

abbrev pub point_list : List ℕ → Point → Option Mistake
point_list place p = long_uses place (codes "quals") p.quals

-- 16 parameters
abbrev pub params_list : List ℕ → List ℕ → List Point → Option Mistake
params_list place key params =
    first_of (long_list place key (length params) 16 ∷ first_in point_list place key 0 params ∷ [])

abbrev pub constructor_list : List ℕ → Option Constructor → Option Mistake
constructor_list place None = None
constructor_list place (Some c) = params_list place (codes "constructor/params") c.params

abbrev pub producer_list : List ℕ → ProducerMethod → Option Mistake
producer_list place m =
    first_of (long_uses place (codes "quals") m.quals ∷ long_typed place (codes "typed") m.typed
    ∷ params_list place (codes "params") m.params
    ∷ long_uses place (codes "bindings") m.bindings ∷ [])

abbrev pub producer_field_list : List ℕ → ProducerField → Option Mistake
producer_field_list place m =
    first_of (long_uses place (codes "quals") m.quals
    ∷ long_typed place (codes "typed") m.typed ∷ [])

abbrev pub disposer_list : List ℕ → Disposer → Option Mistake
disposer_list place m =
    first_of (long_uses place (codes "quals") m.quals
    ∷ params_list place (codes "params") m.params
    ∷ long_uses place (codes "bindings") m.bindings ∷ [])

abbrev pub observer_list : List ℕ → Observer → Option Mistake
observer_list place m =
    first_of (long_uses place (codes "quals") m.quals
    ∷ params_list place (codes "params") m.params
    ∷ long_uses place (codes "bindings") m.bindings ∷ [])

abbrev pub member_list : List ℕ → Member → Option Mistake
member_list place (members.Method m) = long_uses place (codes "bindings") m.bindings
member_list place (members.Initializer m) = params_list place (codes "params") m.params
member_list place (members.PostConstruct m) = None
member_list place (members.PreDestroy m) = None
member_list place (members.Producer m) = producer_list place m
member_list place (members.ProducerField m) = producer_field_list place m
member_list place (members.Disposer m) = disposer_list place m
member_list place (members.Observer m) = observer_list place m

-- 64 fields, with which the injected ones count, and 64 members
abbrev pub class_list : List ℕ → Class → Option Mistake
class_list place c =
    first_of (long_list place (codes "fields") (length c.fields + length c.inject) 64
    ∷ long_list place (codes "members") (length c.members) 64
    ∷ long_names place (codes "implements") c.implements
    ∷ long_uses place (codes "bindings") c.bindings
    ∷ bean_list place c.bean
    ∷ first_in injected_list place (codes "inject") 0 c.inject
    ∷ constructor_list place c.constructor
    ∷ first_in member_list place (codes "members") 0 c.members ∷ [])

abbrev pub interceptor_list : List ℕ → Interceptor → Option Mistake
interceptor_list place i =
    first_of (long_list place (codes "fields") (length i.fields + length i.inject) 64
    ∷ long_uses place (codes "bindings") i.bindings
    ∷ first_in injected_list place (codes "inject") 0 i.inject ∷ [])
