-- Shapes that name something that isn't there.
use Rattle.std.specs.Prelude.{ℕ, Bool, false, not, ◌&&◌, ◌||◌, List, length, nat_lt, Option, Some, None, IsTrue}
use Rattle.std.specs.List.{list_any}
use Rattle.cdi_bodies.specs.declared.shape.Shape.{Shape}
use Rattle.cdi_body_check.specs.Sites.{Site, is_live, body_of, params_of}
use Rattle.cdi_deployment.specs.declared.deployment.Deployment.{Deployment}
use Rattle.cdi_deployment.specs.declared.deployment.Point.{Point}
use Rattle.cdi_live.specs.Enabled.{Enabled}
use Rattle.cdi_shape_check.specs.Application.{Application}
use Rattle.cdi_shape_check.specs.OwnParts.{OwnParts, ArePartsOf}
use Rattle.cdi_shape_check.specs.References.{point_at, is_call_missing, is_cell_missing}
use Rattle.cdi_body_check.specs.WrittenNames.{is_event, is_lookup, is_exception}

-- a field to set that the own instance lacks
abbrev pub lacks_field : OwnParts → Shape → Bool
lacks_field parts shape = list_any (λ name. not (parts.has_field name)) shape.sets

-- a method to call on the own instance that it lacks, or that has another number of values
abbrev pub lacks_method : OwnParts → Shape → Bool
lacks_method parts shape = list_any (λ own. not (parts.has_method own.method own.count)) shape.owns

-- a business method to call through a reference that isn't there, or that leads to one bean without that method
abbrev pub lacks_call : Application → OwnParts → List Point → Shape → Bool
lacks_call app parts params shape =
    list_any (λ call. is_call_missing app call (point_at parts params shape.lookups call.via))
    shape.calls

-- a value to read or write through a reference that isn't there, or that leads to one managed bean
abbrev pub lacks_cell : Application → OwnParts → List Point → Shape → Bool
lacks_cell app parts params shape =
    list_any (λ via. is_cell_missing app (point_at parts params shape.lookups via)) shape.cells

-- an event to fire, a lookup or an exception with an unknown name
abbrev pub names_unknown : Deployment → Shape → Bool
names_unknown d shape =
    list_any (λ e. not (is_event d e)) shape.fires
    || list_any (λ l. not (is_lookup d l)) shape.lookups
    || list_any (λ x. not (is_exception d x)) shape.throws

-- a local to destroy that no lookup gives
abbrev pub lacks_local : Shape → Bool
lacks_local shape = list_any (λ local. not (nat_lt local (length shape.lookups))) shape.destroys

-- something that isn't there
abbrev pub names_missing : Application → OwnParts → List Point → Shape → Bool
names_missing app parts params shape =
    lacks_field parts shape || lacks_method parts shape || lacks_call app parts params shape
    || lacks_cell app parts params shape
    || names_unknown app.deployment shape
    || lacks_local shape

-- a body is registered, and its shape names something that isn't there
abbrev pub is_outside : Application → OwnParts → List Point → Option Shape → Bool
is_outside app parts params None = false
is_outside app parts params (Some shape) = names_missing app parts params shape

-- P13 BodyOutsideShape: the shape of a live site's body names something that isn't there
pub record HasBodyOutsideShape (app : Application) (e : Enabled) (shape_of : ℕ → Option Shape)
    (s : Site) : Type 0 where
  pub live : IsTrue (is_live e s)
  pub parts : OwnParts
  pub are_parts : ArePartsOf app.deployment s parts
  pub outside : IsTrue (is_outside app parts (params_of s) (shape_of (body_of s)))

-- the same with the parts of the own instance given
abbrev pub is_outside_with : Application → Enabled → (ℕ → Option Shape) → OwnParts → Site → Bool
is_outside_with app e shape_of parts s =
    is_live e s && is_outside app parts (params_of s) (shape_of (body_of s))
