-- The elements and the body sites of a deployment by their places.
use Rattle.std.specs.Prelude.{◌≡◌, List, filter}
use Rattle.cdi_base.specs.declared.place.Place.{Place}
use Rattle.cdi_body_check.specs.Sites as sites
use Rattle.cdi_body_check.specs.Sites.{Site}
use Rattle.cdi_body_check.specs.declared.site.BodySite.{BodySite}
use Rattle.cdi_deployment.specs.declared.deployment.Deployment.{Deployment}
use Rattle.cdi_place_index.specs.PlaceRows.{row_at}
use Rattle.cdi_place_index.specs.declared.rows.PlaceRows.{PlaceRows}
use Rattle.cdi_problems.specs.Elements as elements
use Rattle.cdi_problems.specs.Elements.{Element}
use Rattle.cdi_problems.specs.Places.{same_place}
use Rattle.cdi_problems.specs.declared.element.Element.{Element as Lent}

-- those of some elements that stand at a place
abbrev pub elements_in : List Element → Place → List Element
elements_in listed place = filter (λ e. same_place (elements.place_of e) place) listed

-- those of some body sites that stand at a place
abbrev pub sites_in : List Site → Place → List Site
sites_in listed place = filter (λ s. same_place (sites.place_of s) place) listed

abbrev pub elements_at : Deployment → Place → List Element
elements_at d place = elements_in (elements.elements_of d) place

abbrev pub sites_at : Deployment → Place → List Site
sites_at d place = sites_in (sites.sites_of d) place

-- at each place stand those of these elements that are there
abbrev pub AreElementRows : List Element → PlaceRows Lent → Type 0
AreElementRows listed rows =
    (p : Place) → elements.shown (row_at rows p) ≡ elements_in listed p

abbrev pub AreSiteRows : List Site → PlaceRows BodySite → Type 0
AreSiteRows listed rows = (p : Place) → sites.shown (row_at rows p) ≡ sites_in listed p

abbrev pub AreElementsOf : Deployment → PlaceRows Lent → Type 0
AreElementsOf d rows = AreElementRows (elements.elements_of d) rows

abbrev pub AreSitesOf : Deployment → PlaceRows BodySite → Type 0
AreSitesOf d rows = AreSiteRows (sites.sites_of d) rows
