-- The keys of places, and sets of these.
use Rattle.std.specs.Prelude.{ℕ, ◌≡◌, Bool, List}
use Rattle.std.specs.HashSet.{HashSet, contains}
use Rattle.std.specs.List.{list_any}
use Rattle.cdi_base.specs.declared.place.InterceptorMethod.{InterceptorMethod}
use Rattle.cdi_base.specs.declared.place.InterceptorMethod.TheVariants as methods
use Rattle.cdi_base.specs.declared.place.Place.{Place}
use Rattle.cdi_base.specs.declared.place.Place.TheVariants as places
use Rattle.cdi_problems.specs.contracts.place_key.PlaceKeyPartialEq.TheImpl as key_eq
use Rattle.cdi_problems.specs.declared.place_key.PlaceKey.{PlaceKey}
use Rattle.cdi_problems.specs.declared.place_key.PlaceKey.TheVariants as keys
use Rattle.cdi_problems.specs.Places.{same_place}

abbrev pub method_key : ℕ → InterceptorMethod → PlaceKey
method_key interceptor methods.AroundInvoke = keys.AroundInvoke interceptor
method_key interceptor methods.AroundConstruct = keys.AroundConstruct interceptor
method_key interceptor methods.PostConstruct = keys.PostConstruct interceptor
method_key interceptor methods.PreDestroy = keys.PreDestroy interceptor

-- what a set or a map has for a place
abbrev pub key_of : Place → PlaceKey
key_of (places.Class name) = keys.Class name
key_of (places.Member class member) = keys.Member class member
key_of (places.Constructor class) = keys.Constructor class
key_of (places.Interceptor interceptor method) = method_key interceptor method

-- the `==` of keys
abbrev pub same_key : PlaceKey → PlaceKey → Bool
same_key = (key_eq.ghosts).eq

-- a set has the places of a list, and no others
abbrev pub HasPlaces : {S : Type 0} → List Place → HashSet PlaceKey S → Type 0
HasPlaces listed set =
    (place : Place)
    → contains same_key set (key_of place) ≡ list_any (λ other. same_place other place) listed
