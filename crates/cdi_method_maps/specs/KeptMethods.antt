-- Methods that are kept, and the changes that put them into maps.
use Rattle.std.specs.Prelude.{ℕ, ◌≡◌, ◌<◌, ◌++◌, List, Option, Some, None, nat_eq, length, position, slice_get, option_map, option_and_then}
use Rattle.std.specs.List.{position_or_len, filter_map}
use Rattle.std.specs.Option.{option_or}
use Rattle.cdi_machine.specs.declared.member.Method.{Method}
use Rattle.cdi_shared_maps.specs.Maps.{changed}
use Rattle.cdi_shared_maps.specs.declared.change.Change.{Change}
use Rattle.cdi_method_maps.specs.NamedMethods.{method_named}
use Rattle.cdi_method_maps.specs.declared.named_method.NamedMethod.{NamedMethod}
use Rattle.cdi_method_maps.specs.declared.kept_methods.KeptMethods.{KeptMethods}

-- the key of a name: its place among the names, or the place that it would get
abbrev pub key_of : KeptMethods → ℕ → ℕ
key_of kept name = position_or_len (nat_eq name) kept.keys.keys

-- the method of a name, by the places of methods at keys
abbrev pub method_by : KeptMethods → (ℕ → Option ℕ) → ℕ → Option Method
method_by kept places name = option_and_then (slice_get kept.methods) (places (key_of kept name))

-- at the keys of names are places of methods, and at other keys is nothing
abbrev pub ArePlaces : KeptMethods → (ℕ → Option ℕ) → Type 0
ArePlaces kept places = (key place : ℕ) → places key ≡ Some place
    → (key < length kept.keys.keys) × (place < length kept.methods)

-- a list that may have got more items at its end
pub record Extends {X : Type 0} (old new : List X) : Type 0 where
  pub more : List X
  pub is : new ≡ old ++ more

-- names and methods may have come, and those that were there keep their keys and places
pub record Grows (old new : KeptMethods) : Type 0 where
  pub keys : Extends old.keys.keys new.keys.keys
  pub methods : Extends old.methods new.methods

-- a change that puts a method into a map
pub record IsChangeFor (kept : KeptMethods) (named : NamedMethod) (change : Change) : Type 0 where
  pub key : change.key ≡ key_of kept named.name
  pub known : change.key < length kept.keys.keys
  pub value : option_and_then (slice_get kept.methods) change.value ≡ Some named.method

-- changes that put methods into a map, of those of one name the first
pub record Puts (kept : KeptMethods) (methods : List NamedMethod) (changes : List Change) : Type 0 where
  pub found : (places : ℕ → Option ℕ) (name : ℕ) → method_by kept (changed changes places) name
      ≡ option_or (method_named name methods) (method_by kept places name)
  pub placed : (places : ℕ → Option ℕ) → ArePlaces kept places
      → ArePlaces kept (changed changes places)

-- the change that takes the method of a name out of a map, if the name has a key
abbrev pub hidden_change : KeptMethods → ℕ → Option Change
hidden_change kept name =
    option_map (λ key. record { key = key; value = None }) (position (nat_eq name) kept.keys.keys)

-- those of several names
abbrev pub hidden_changes : KeptMethods → List ℕ → List Change
hidden_changes kept names = filter_map (hidden_change kept) names
