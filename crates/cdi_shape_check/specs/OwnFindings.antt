-- What is missing to a body, in two parts: what doesn't go through parameters, which all members of a class with this body have in
-- common, and what does.
use Rattle.std.specs.Prelude.{ℕ, ◌≡◌, Bool, true, false, not, nat_eq, ◌&&◌, ◌||◌, List, [], Option, Some, None, slice_get}
use Rattle.std.specs.HashMap.{HashMap, get}
use Rattle.std.specs.List.{list_any}
use Rattle.cdi_base.specs.declared.act.Via.{Via}
use Rattle.cdi_base.specs.declared.act.Via.TheVariants as vias
use Rattle.cdi_bodies.specs.declared.shape.Lookup.{Lookup}
use Rattle.cdi_bodies.specs.declared.shape.MethodCall.{MethodCall}
use Rattle.cdi_bodies.specs.declared.shape.Shape.{Shape}
use Rattle.cdi_deployment.specs.declared.deployment.Point.{Point}
use Rattle.cdi_shape_check.specs.Application.{Application}
use Rattle.cdi_shape_check.specs.BodyOutsideShape.{lacks_field, lacks_method, names_unknown, lacks_local}
use Rattle.cdi_shape_check.specs.OwnParts.{OwnParts}
use Rattle.cdi_shape_check.specs.References.{point_at, is_call_missing, is_cell_missing}

-- a reference is a parameter
abbrev pub is_param : Via → Bool
is_param (vias.Field name) = false
is_param (vias.Param k) = true
is_param (vias.Local k) = false

-- a call that goes through no parameter is missing
abbrev pub is_own_call_missing : Application → OwnParts → List Lookup → MethodCall → Bool
is_own_call_missing app parts lookups call =
    not (is_param call.via) && is_call_missing app call (point_at parts [] lookups call.via)

abbrev pub is_own_cell_missing : Application → OwnParts → List Lookup → Via → Bool
is_own_cell_missing app parts lookups via =
    not (is_param via) && is_cell_missing app (point_at parts [] lookups via)

-- a call goes through a parameter, and is missing
abbrev pub is_call_missing_via : Application → List Point → MethodCall → Via → Bool
is_call_missing_via app params call (vias.Field name) = false
is_call_missing_via app params call (vias.Param k) = is_call_missing app call (slice_get params k)
is_call_missing_via app params call (vias.Local k) = false

abbrev pub is_param_call_missing : Application → List Point → MethodCall → Bool
is_param_call_missing app params call = is_call_missing_via app params call call.via

abbrev pub is_param_cell_missing : Application → List Point → Via → Bool
is_param_cell_missing app params (vias.Field name) = false
is_param_cell_missing app params (vias.Param k) = is_cell_missing app (slice_get params k)
is_param_cell_missing app params (vias.Local k) = false

abbrev pub lacks_own_call : Application → OwnParts → Shape → Bool
lacks_own_call app parts shape = list_any (is_own_call_missing app parts shape.lookups) shape.calls

abbrev pub lacks_own_cell : Application → OwnParts → Shape → Bool
lacks_own_cell app parts shape = list_any (is_own_cell_missing app parts shape.lookups) shape.cells

abbrev pub lacks_param_call : Application → List Point → Shape → Bool
lacks_param_call app params shape = list_any (is_param_call_missing app params) shape.calls

abbrev pub lacks_param_cell : Application → List Point → Shape → Bool
lacks_param_cell app params shape = list_any (is_param_cell_missing app params) shape.cells

-- something that isn't there, and that doesn't go through parameters
abbrev pub names_own_missing : Application → OwnParts → Shape → Bool
names_own_missing app parts shape =
    lacks_field parts shape || lacks_method parts shape || lacks_own_call app parts shape
    || lacks_own_cell app parts shape
    || names_unknown app.deployment shape
    || lacks_local shape

abbrev pub is_own_outside : Application → OwnParts → Option Shape → Bool
is_own_outside app parts None = false
is_own_outside app parts (Some shape) = names_own_missing app parts shape

-- something that isn't there, and that goes through a parameter
abbrev pub is_param_outside : Application → List Point → Option Shape → Bool
is_param_outside app params None = false
is_param_outside app params (Some shape) =
    lacks_param_call app params shape || lacks_param_cell app params shape

-- what is told of a body is whether something is missing to it that doesn't go through parameters
abbrev pub AreFindings : {S : Type 0} → Application → OwnParts → (ℕ → Option Shape)
    → HashMap ℕ Bool S → Type 0
AreFindings app parts shape_of findings =
    (body : ℕ) (told : Bool) → get nat_eq findings body ≡ Some told
    → told ≡ is_own_outside app parts (shape_of body)

-- what was right is right after a change
abbrev pub KeepsFindings : {S : Type 0} → Application → OwnParts → (ℕ → Option Shape)
    → HashMap ℕ Bool S → HashMap ℕ Bool S → Type 0
KeepsFindings app parts shape_of old new =
    AreFindings app parts shape_of old → AreFindings app parts shape_of new
