-- Where a problem holds.
use Rattle.std.specs.Prelude.{◌≡◌, List, [], ◌∷◌, ◌++◌, map}
use Rattle.cdi_base.specs.declared.place.Place.{Place}
use Rattle.cdi_types.specs.ListsThose.{ListsThose}
use Rattle.cdi_deployment.specs.declared.deployment.Deployment.{Deployment}
use Rattle.cdi_problems.specs.Elements.{Element, elements_of, place_of}
use Rattle.cdi_problems.specs.Places.{once}

-- The places of those items for which P holds, in their order, each place once. P is a sentence, and need be no test.
pub record ArePlacesWhere {X : Type 0} (P : X → Type 0) (place : X → Place) (items : List X)
    (found : List Place) : Type 0 where
  pub those : List X
  pub listed : ListsThose P items those
  pub are : found ≡ once (map place those)

abbrev pub ArePlacesOf : (Element → Type 0) → List Element → List Place → Type 0
ArePlacesOf P elements found = ArePlacesWhere P place_of elements found

-- the places of those elements of a deployment of which P holds
abbrev pub PlacesIn : Deployment → (Element → Type 0) → List Place → Type 0
PlacesIn d P found = ArePlacesOf P (elements_of d) found

-- the same places before each is kept once
pub record ListPlacesWhere (P : Element → Type 0) (elements : List Element) (found : List Place)
    : Type 0 where
  pub those : List Element
  pub listed : ListsThose P elements those
  pub are : found ≡ map place_of those

-- an element with those before it
pub record Placed : Type 0 where
  pub before : List Element
  pub element : Element

abbrev pub placed_after : List Element → List Element → List Placed
placed_after before [] = []
placed_after before (e ∷ es) =
    (record { before = before; element = e }) ∷ placed_after (before ++ e ∷ []) es

-- each element with all those before it
abbrev pub placed : List Element → List Placed
placed elements = placed_after [] elements

-- the same for a sentence that speaks of what stands before, too
abbrev pub ArePlacesAfter : (Placed → Type 0) → List Element → List Place → Type 0
ArePlacesAfter P elements found = ArePlacesWhere P (λ p. place_of p.element) (placed elements) found
