-- What is missing to a body is missing apart from its parameters, or through one of them.
use Rattle.std.proofs.Common.{◌≡◌, ◌∙◌, ◌||◌, ◌&&◌, not, Bool, true, false, List, [], ◌∷◌, Option, Some, None, refl, sym, ap}
use Rattle.std.specs.List.{list_any}
use Rattle.cdi_base.specs.declared.act.Via.{Via}
use Rattle.cdi_base.specs.declared.act.Via.TheVariants as vias
use Rattle.cdi_bodies.specs.declared.shape.Lookup.{Lookup}
use Rattle.cdi_bodies.specs.declared.shape.MethodCall.{MethodCall}
use Rattle.cdi_bodies.specs.declared.shape.Shape.{Shape}
use Rattle.cdi_deployment.specs.declared.deployment.Point.{Point}
use Rattle.cdi_shape_check.specs.Application.{Application}
use Rattle.cdi_shape_check.specs.BodyOutsideShape.{lacks_field, lacks_method, lacks_call, lacks_cell, names_unknown, lacks_local, names_missing, is_outside}
use Rattle.cdi_shape_check.specs.OwnFindings.{is_param, is_own_call_missing, is_own_cell_missing, is_call_missing_via, is_param_call_missing, is_param_cell_missing, lacks_own_call, lacks_own_cell, lacks_param_call, lacks_param_cell, names_own_missing, is_own_outside, is_param_outside}
use Rattle.cdi_shape_check.specs.OwnParts.{OwnParts}
use Rattle.cdi_shape_check.specs.References.{point_at, is_call_missing, is_cell_missing}

or_true : (a : Bool) → (a || true) ≡ true
or_true true = refl
or_true false = refl

or_false : (a : Bool) → (a || false) ≡ a
or_false true = refl
or_false false = refl

exchange : (a b c d : Bool) → ((a || b) || (c || d)) ≡ ((a || c) || (b || d))
exchange true b c d = refl
exchange false true true d = refl
exchange false true false d = refl
exchange false false true d = refl
exchange false false false d = refl

any_of_two : {X : Type 0} (f g h : X → Bool) → ((x : X) → f x ≡ (g x || h x)) → (xs : List X) → list_any f xs ≡ (list_any g xs || list_any h xs)
any_of_two f g h each [] = refl
any_of_two f g h each (x ∷ xs) =
    ap (λ b. b || list_any f xs) (each x) ∙ ap (λ b. (g x || h x) || b) (any_of_two f g h each xs)
    ∙ exchange (g x) (h x) (list_any g xs) (list_any h xs)

regroup : (f m c d e g u l : Bool) → (((((f || m) || (c || d)) || (e || g)) || u) || l) ≡ ((((((f || m) || c) || e) || u) || l) || (d || g))
regroup true m c d e g u l = refl
regroup false true c d e g u l = refl
regroup false false true d e g u l = refl
regroup false false false true e g u l = sym (or_true (((e || u) || l)))
regroup false false false false true g u l = refl
regroup false false false false false true u l = sym (or_true (u || l))
regroup false false false false false false u l = sym (or_false (u || l))

module _ (app : Application) (parts : OwnParts) (params : List Point) where
  of_call : (lookups : List Lookup) (call : MethodCall) → is_call_missing app call (point_at parts params lookups call.via) ≡ (is_own_call_missing app parts lookups call || is_param_call_missing app params call)
  of_call lookups call = by call.via
    where
      by : (via : Via) → is_call_missing app call (point_at parts params lookups via) ≡ ((not (is_param via) && is_call_missing app call (point_at parts [] lookups via)) || is_call_missing_via app params call via)
      by (vias.Field name) = sym (or_false (is_call_missing app call (point_at parts [] lookups (vias.Field name))))
      by (vias.Param k) = refl
      by (vias.Local k) = sym (or_false (is_call_missing app call (point_at parts [] lookups (vias.Local k))))

  of_cell : (lookups : List Lookup) (via : Via) → is_cell_missing app (point_at parts params lookups via) ≡ (is_own_cell_missing app parts lookups via || is_param_cell_missing app params via)
  of_cell lookups (vias.Field name) = sym (or_false (is_cell_missing app (point_at parts [] lookups (vias.Field name))))
  of_cell lookups (vias.Param k) = refl
  of_cell lookups (vias.Local k) = sym (or_false (is_cell_missing app (point_at parts [] lookups (vias.Local k))))

  of_calls : (shape : Shape) → lacks_call app parts params shape ≡ (lacks_own_call app parts shape || lacks_param_call app params shape)
  of_calls shape =
      any_of_two (λ (call : MethodCall). is_call_missing app call (point_at parts params shape.lookups call.via)) (is_own_call_missing app parts shape.lookups) (is_param_call_missing app params)
      (of_call shape.lookups) shape.calls

  of_cells : (shape : Shape) → lacks_cell app parts params shape ≡ (lacks_own_cell app parts shape || lacks_param_cell app params shape)
  of_cells shape =
      any_of_two (λ (via : Via). is_cell_missing app (point_at parts params shape.lookups via)) (is_own_cell_missing app parts shape.lookups) (is_param_cell_missing app params)
      (of_cell shape.lookups) shape.cells

  of_shape : (shape : Shape) → names_missing app parts params shape ≡ (names_own_missing app parts shape || (lacks_param_call app params shape || lacks_param_cell app params shape))
  of_shape shape =
      let f = lacks_field parts shape in
      let m = lacks_method parts shape in
      let u = names_unknown app.deployment shape in
      let l = lacks_local shape in
      ap (λ x. ((((f || m) || x) || lacks_cell app parts params shape) || u) || l) (of_calls shape)
      ∙ ap (λ x. ((((f || m) || (lacks_own_call app parts shape || lacks_param_call app params shape)) || x) || u) || l) (of_cells shape)
      ∙ regroup f m (lacks_own_call app parts shape) (lacks_param_call app params shape) (lacks_own_cell app parts shape) (lacks_param_cell app params shape) u l

  pub outside_in_two : (o : Option Shape) → is_outside app parts params o ≡ (is_own_outside app parts o || is_param_outside app params o)
  outside_in_two None = refl
  outside_in_two (Some shape) = of_shape shape
