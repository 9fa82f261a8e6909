-- Where fields and members are declared: the name of a class, and their own in it.
use Rattle.std.specs.Prelude.{ℕ, Bool, ◌&&◌, ◌↔◌, ◌⊎◌, nat_eq, List, Contains, IsTrue}
use Rattle.std.specs.HashSet.{HashSet, contains}
use Rattle.std.specs.List.{list_any}

abbrev pub MemberPlace : Type 0
MemberPlace = ℕ × ℕ

abbrev pub same_place : MemberPlace → MemberPlace → Bool
same_place a b = nat_eq a.0 b.0 && nat_eq a.1 b.1

abbrev pub stands_at : List MemberPlace → MemberPlace → Bool
stands_at places place = list_any (λ other. same_place other place) places

-- a set of places has one
abbrev pub has_place : {S : Type 0} → HashSet MemberPlace S → MemberPlace → Bool
has_place set place = contains same_place set place

-- one of some items has something at a place
pub record IsOfSome {X : Type 0} (Has : X → MemberPlace → Type 0) (items : List X)
    (place : MemberPlace) : Type 0 where
  pub item : X
  pub listed : Contains items item
  pub has : Has item place

-- a set has those places for which this holds
abbrev pub HasPlaces : {S : Type 0} → (MemberPlace → Type 0) → HashSet MemberPlace S → Type 0
HasPlaces Has set = (place : MemberPlace) → IsTrue (has_place set place) ↔ Has place

-- these places are added to a set
abbrev pub AddsPlaces : {S : Type 0} → (MemberPlace → Type 0) → HashSet MemberPlace S
    → HashSet MemberPlace S → Type 0
AddsPlaces Has old new =
    (place : MemberPlace)
    → IsTrue (has_place new place) ↔ (Has place ⊎ IsTrue (has_place old place))
