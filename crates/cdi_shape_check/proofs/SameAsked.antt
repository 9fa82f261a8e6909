-- Parts of an own instance that agree on what shapes ask for give the same problems.
use Rattle.std.proofs.Common.{◌≡◌, ◌∙◌, ◌||◌, ◌&&◌, not, ℕ, Bool, true, false, cond, List, [], ◌∷◌, Option, Some, None, option_map, refl, sym, ap}
use Rattle.std.proofs.Math.Path.{fun_ext}
use Rattle.std.specs.List.{list_any}
use Rattle.std.specs.Prelude.{◌↔◌, IsTrue}
use Rattle.cdi_base.specs.declared.act.Via.{Via}
use Rattle.cdi_base.specs.declared.act.Via.TheVariants as vias
use Rattle.cdi_base.specs.declared.place.Place.{Place}
use Rattle.cdi_bodies.specs.declared.shape.Lookup.{Lookup}
use Rattle.cdi_bodies.specs.declared.shape.MethodCall.{MethodCall}
use Rattle.cdi_bodies.specs.declared.shape.OwnCall.{OwnCall}
use Rattle.cdi_bodies.specs.declared.shape.Shape.{Shape}
use Rattle.cdi_body_check.specs.Findings.{AddsPlacesOf}
use Rattle.cdi_body_check.specs.Sites.{Site, is_live, params_of, body_of}
use Rattle.cdi_body_check.specs.WrittenPoints.{point_of_field}
use Rattle.cdi_deployment.specs.declared.deployment.Point.{Point}
use Rattle.cdi_live.specs.Enabled.{Enabled}
use Rattle.cdi_shape_check.proofs.SameParts.{Each, adds_same}
use Rattle.cdi_shape_check.specs.Application.{Application}
use Rattle.cdi_shape_check.specs.AskedParts.{has_item, is_field, asks, shape_asks, site_asks, asked_by, asked_parts}
use Rattle.cdi_shape_check.specs.BodyOutsideShape.{lacks_field, lacks_method, lacks_call, lacks_cell, names_unknown, lacks_local, names_missing, is_outside, is_outside_with}
use Rattle.cdi_shape_check.specs.OwnParts.{OwnParts}
use Rattle.cdi_shape_check.specs.References.{point_at, is_call_missing, is_cell_missing}
use Rattle.cdi_shape_check.specs.declared.asked.AskedParts.{AskedParts}
use Rattle.cdi_shape_check.specs.declared.asked.OwnPart.{OwnPart}
use Rattle.cdi_shape_check.specs.declared.asked.OwnPart.TheVariants as own

-- the first of two, or the second
first_of : (a b : Bool) → a ≡ true → (a || b) ≡ true
first_of true b e = refl
first_of false b e = absurd cc

second_of : (a b : Bool) → b ≡ true → (a || b) ≡ true
second_of true b e = refl
second_of false b e = e

-- two tests that agree wherever one of a list asks
module _ {X : Type 0} (f g asks : X → Bool) (Q : Type 0) (each : (x : X) → (asks x ≡ true → Q) → f x ≡ g x) where
  any_same : (xs : List X) → (list_any asks xs ≡ true → Q) → list_any f xs ≡ list_any g xs
  any_same [] known = refl
  any_same (x ∷ xs) known =
      ap (λ b. b || list_any f xs) (each x (λ e. known (first_of (asks x) (list_any asks xs) e)))
      ∙ ap (λ b. g x || b) (any_same xs (λ e. known (second_of (asks x) (list_any asks xs) e)))

-- two tests that agree if a list has an item
items_same : {X : Type 0} (f g : X → Bool) (xs : List X) → (has_item xs ≡ true → (x : X) → f x ≡ g x) → list_any f xs ≡ list_any g xs
items_same f g [] known = refl
items_same f g (x ∷ xs) known = ap (λ test. list_any test (x ∷ xs)) (fun_ext (known refl))

module _ (app : Application) (few all : OwnParts) (params : List Point) where
  SameInjected : Type 0
  SameInjected = (name : ℕ) → few.injected name ≡ all.injected name

  call_same : (lookups : List Lookup) (call : MethodCall) → (is_field call.via ≡ true → SameInjected)
      → is_call_missing app call (point_at few params lookups call.via) ≡ is_call_missing app call (point_at all params lookups call.via)
  unfolding SameInjected
  call_same lookups call = by call.via
    where
      by : (via : Via) → (is_field via ≡ true → (name : ℕ) → few.injected name ≡ all.injected name) → is_call_missing app call (point_at few params lookups via) ≡ is_call_missing app call (point_at all params lookups via)
      by (vias.Field name) same = ap (λ field. is_call_missing app call (option_map point_of_field field)) (same refl name)
      by (vias.Param k) same = refl
      by (vias.Local k) same = refl

  cell_same : (lookups : List Lookup) (via : Via) → (is_field via ≡ true → SameInjected)
      → is_cell_missing app (point_at few params lookups via) ≡ is_cell_missing app (point_at all params lookups via)
  unfolding SameInjected
  cell_same lookups (vias.Field name) same = ap (λ field. is_cell_missing app (option_map point_of_field field)) (same refl name)
  cell_same lookups (vias.Param k) same = refl
  cell_same lookups (vias.Local k) same = refl

  -- a shape is told the same by both
  shape_same : (shape : Shape) → (asks own.Fields shape ≡ true → (name : ℕ) → few.has_field name ≡ all.has_field name) → (asks own.Injected shape ≡ true → (name : ℕ) → few.injected name ≡ all.injected name)
      → (asks own.Methods shape ≡ true → (name count : ℕ) → few.has_method name count ≡ all.has_method name count) → names_missing app few params shape ≡ names_missing app all params shape
  unfolding SameInjected
  shape_same shape fields injected methods =
      let u = names_unknown app.deployment shape in
      let l = lacks_local shape in
      let called = list_any (λ (call : MethodCall). is_field call.via) shape.calls in
      let held = list_any is_field shape.cells in
      let f : lacks_field few shape ≡ lacks_field all shape = items_same (λ name. not (few.has_field name)) (λ name. not (all.has_field name)) shape.sets (λ e name. ap not (fields e name)) in
      let m : lacks_method few shape ≡ lacks_method all shape = items_same (λ (call : OwnCall). not (few.has_method call.method call.count)) (λ (call : OwnCall). not (all.has_method call.method call.count)) shape.owns (λ e call. ap not (methods e call.method call.count)) in
      let c : lacks_call app few params shape ≡ lacks_call app all params shape =
      any_same (λ (call : MethodCall). is_call_missing app call (point_at few params shape.lookups call.via)) (λ (call : MethodCall). is_call_missing app call (point_at all params shape.lookups call.via)) (λ (call : MethodCall). is_field call.via) SameInjected
      (call_same shape.lookups) shape.calls (λ e. injected (first_of called held e)) in
      let v : lacks_cell app few params shape ≡ lacks_cell app all params shape =
      any_same (λ (via : Via). is_cell_missing app (point_at few params shape.lookups via)) (λ (via : Via). is_cell_missing app (point_at all params shape.lookups via)) is_field SameInjected
      (cell_same shape.lookups) shape.cells (λ e. injected (second_of called held e)) in
      ap (λ x. ((((x || lacks_method few shape) || lacks_call app few params shape) || lacks_cell app few params shape) || u) || l) f
      ∙ ap (λ x. ((((lacks_field all shape || x) || lacks_call app few params shape) || lacks_cell app few params shape) || u) || l) m
      ∙ ap (λ x. ((((lacks_field all shape || lacks_method all shape) || x) || lacks_cell app few params shape) || u) || l) c
      ∙ ap (λ x. ((((lacks_field all shape || lacks_method all shape) || lacks_call app all params shape) || x) || u) || l) v

module _ (app : Application) (e : Enabled) (shape_of : ℕ → Option Shape) (asked : AskedParts) (all : OwnParts) where
  site_same : (s : Site) → (site_asks own.Fields e shape_of s ≡ true → asked.fields ≡ true) → (site_asks own.Injected e shape_of s ≡ true → asked.injected ≡ true)
      → (site_asks own.Methods e shape_of s ≡ true → asked.methods ≡ true) → is_outside_with app e shape_of (asked_parts asked all) s ≡ is_outside_with app e shape_of all s
  site_same s = by (is_live e s) (shape_of (body_of s))
    where
      by : (live : Bool) (o : Option Shape) → (shape_asks own.Fields (cond live o None) ≡ true → asked.fields ≡ true) → (shape_asks own.Injected (cond live o None) ≡ true → asked.injected ≡ true)
          → (shape_asks own.Methods (cond live o None) ≡ true → asked.methods ≡ true) → (live && is_outside app (asked_parts asked all) (params_of s) o) ≡ (live && is_outside app all (params_of s) o)
      by false o fields injected methods = refl
      by true None fields injected methods = refl
      by true (Some shape) fields injected methods =
          shape_same app (asked_parts asked all) all (params_of s) shape (λ a name. ap (λ b. b && all.has_field name) (fields a)) (λ a name. ap (λ b. cond b (all.injected name) None) (injected a))
          (λ a name count. ap (λ b. b && all.has_method name count) (methods a))

  -- with what the sites ask for, each is told the same as with all parts
  sites_same : (ss : List Site) → (list_any (site_asks own.Fields e shape_of) ss ≡ true → asked.fields ≡ true) → (list_any (site_asks own.Injected e shape_of) ss ≡ true → asked.injected ≡ true)
      → (list_any (site_asks own.Methods e shape_of) ss ≡ true → asked.methods ≡ true) → Each (λ s. IsTrue (is_outside_with app e shape_of (asked_parts asked all) s) ↔ IsTrue (is_outside_with app e shape_of all s)) ss
  unfolding Each
  sites_same [] fields injected methods = tt
  sites_same (s ∷ ss) fields injected methods =
      let first : (part : OwnPart) → site_asks part e shape_of s ≡ true → list_any (site_asks part e shape_of) (s ∷ ss) ≡ true = λ part. first_of (site_asks part e shape_of s) (list_any (site_asks part e shape_of) ss) in
      let later : (part : OwnPart) → list_any (site_asks part e shape_of) ss ≡ true → list_any (site_asks part e shape_of) (s ∷ ss) ≡ true = λ part. second_of (site_asks part e shape_of s) (list_any (site_asks part e shape_of) ss) in
      let same = site_same s (λ a. fields (first own.Fields a)) (λ a. injected (first own.Injected a)) (λ a. methods (first own.Methods a)) in
      ((λ t. sym same ∙ t, λ t. same ∙ t), sites_same ss (λ a. fields (later own.Fields a)) (λ a. injected (later own.Injected a)) (λ a. methods (later own.Methods a)))

-- places that are told by what the sites ask for
module _ (app : Application) (e : Enabled) (shape_of : ℕ → Option Shape) (all : OwnParts) (ss : List Site) where
  pub asked_places : (old new : List Place) → AddsPlacesOf (λ s. IsTrue (is_outside_with app e shape_of (asked_parts (asked_by e shape_of ss) all) s)) ss old new → AddsPlacesOf (λ s. IsTrue (is_outside_with app e shape_of all s)) ss old new
  asked_places old new =
      adds_same (λ s. IsTrue (is_outside_with app e shape_of (asked_parts (asked_by e shape_of ss) all) s)) (λ s. IsTrue (is_outside_with app e shape_of all s)) ss old new
      (sites_same app e shape_of (asked_by e shape_of ss) all ss (λ a. a) (λ a. a) (λ a. a))
