-- The places of sites of bodies at which a sentence holds.
use Rattle.std.specs.Prelude.{◌≡◌, ◌++◌, List, map}
use Rattle.cdi_base.specs.declared.place.Place.{Place}
use Rattle.cdi_problems.specs.Findings.{ArePlacesWhere}
use Rattle.cdi_types.specs.ListsThose.{ListsThose}
use Rattle.cdi_body_check.specs.Sites.{Site, place_of}

-- the places of those sites for which P holds, in their order, each place once
abbrev pub ArePlacesOf : (Site → Type 0) → List Site → List Place → Type 0
ArePlacesOf P sites found = ArePlacesWhere P place_of sites found

-- behind those that were there, the places of those sites for which P holds, before each is kept once
pub record AddsPlacesOf (P : Site → Type 0) (sites : List Site) (old new : List Place)
    : Type 0 where
  pub those : List Site
  pub listed : ListsThose P sites those
  pub are : new ≡ old ++ map place_of those
