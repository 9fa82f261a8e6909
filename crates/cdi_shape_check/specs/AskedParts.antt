-- What bodies ask for of the instance that they run on.
use Rattle.std.specs.Prelude.{ℕ, ◌≡◌, Bool, true, false, cond, ◌&&◌, ◌||◌, List, [], ◌∷◌, Option, Some, None}
use Rattle.std.specs.List.{list_any}
use Rattle.cdi_base.specs.declared.act.Via.{Via}
use Rattle.cdi_base.specs.declared.act.Via.TheVariants as vias
use Rattle.cdi_bodies.specs.declared.shape.Shape.{Shape}
use Rattle.cdi_body_check.specs.Sites.{Site, is_live, body_of}
use Rattle.cdi_deployment.specs.declared.deployment.Class.{Class}
use Rattle.cdi_deployment.specs.declared.deployment.Deployment.{Deployment}
use Rattle.cdi_live.specs.Enabled.{Enabled}
use Rattle.cdi_shape_check.specs.OwnParts.{OwnParts, AreClassParts}
use Rattle.cdi_shape_check.specs.declared.asked.AskedParts.{AskedParts}
use Rattle.cdi_shape_check.specs.declared.asked.OwnPart.{OwnPart}
use Rattle.cdi_shape_check.specs.declared.asked.OwnPart.TheVariants as own

abbrev pub has_item : {X : Type 0} → List X → Bool
has_item [] = false
has_item (x ∷ xs) = true

-- a reference is an injected field
abbrev pub is_field : Via → Bool
is_field (vias.Field name) = true
is_field (vias.Param k) = false
is_field (vias.Local k) = false

-- a shape asks for the fields if it sets one, for the injected fields if a call or a value is behind one, and for the methods if it
-- calls one of the own instance
abbrev pub asks : OwnPart → Shape → Bool
asks own.Fields shape = has_item shape.sets
asks own.Injected shape =
    list_any (λ call. is_field call.via) shape.calls || list_any is_field shape.cells
asks own.Methods shape = has_item shape.owns

-- the shape of a live site's body, if the body is registered
abbrev pub live_shape : Enabled → (ℕ → Option Shape) → Site → Option Shape
live_shape e shape_of s = cond (is_live e s) (shape_of (body_of s)) None

abbrev pub shape_asks : OwnPart → Option Shape → Bool
shape_asks part None = false
shape_asks part (Some shape) = asks part shape

abbrev pub site_asks : OwnPart → Enabled → (ℕ → Option Shape) → Site → Bool
site_asks part e shape_of s = shape_asks part (live_shape e shape_of s)

-- what the bodies of the live ones among some sites ask for
abbrev pub asked_by : Enabled → (ℕ → Option Shape) → List Site → AskedParts
asked_by e shape_of sites = record {
  fields = list_any (site_asks own.Fields e shape_of) sites;
  injected = list_any (site_asks own.Injected e shape_of) sites;
  methods = list_any (site_asks own.Methods e shape_of) sites;
}

-- of the parts of an instance those that are asked for
abbrev pub asked_parts : AskedParts → OwnParts → OwnParts
asked_parts asked parts = record {
  has_field = λ name. asked.fields && parts.has_field name;
  injected = λ name. cond asked.injected (parts.injected name) None;
  has_method = λ name count. asked.methods && parts.has_method name count;
}

-- what is asked for of what a class and its superclasses declare
pub record AreAskedParts (d : Deployment) (c : Class) (asked : AskedParts) (few : OwnParts) : Type 0
  where
    pub parts : OwnParts
    pub are_parts : AreClassParts d c parts
    pub are : few ≡ asked_parts asked parts
