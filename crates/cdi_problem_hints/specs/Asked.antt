-- What the injection points of an element ask for.
use Rattle.std.specs.Prelude.{ℕ, Bool, false, List, [], ◌∷◌, Option, Some, None}
use Rattle.cdi_base.specs.declared.place.Place.{Place}
use Rattle.cdi_base.specs.declared.uses.Use.{Use}
use Rattle.cdi_deployment.specs.Member.{member_params}
use Rattle.cdi_deployment.specs.declared.deployment.Point.{Point}
use Rattle.cdi_problems.specs.Elements.{Element, place_of}
use Rattle.cdi_problems.specs.Places.{same_place}

-- the element stands at the place
abbrev pub is_at : Option Place → Element → Bool
is_at None e = false
is_at (Some place) e = same_place (place_of e) place

abbrev pub only : ℕ → List Use → List Point
only type quals = record { ty = type; quals = quals } ∷ []

-- an injected field is a point, and so is each injected parameter
abbrev pub points_of : Element → List Point
points_of (Element.AnInjectedField i c f) = only f.ty f.quals
points_of (Element.AnInterceptorInjectedField i j f) = only f.ty f.quals
points_of (Element.AConstructor i c k) = k.params
points_of (Element.AMember i c m) = member_params m
points_of _ = []
