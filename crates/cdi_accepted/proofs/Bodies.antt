-- The body of each live site of the check is registered, and lies in a shape that names what is there, and goes on with a chain only in
-- an interceptor's method.
use Rattle.std.proofs.Common.{ℕ, ◌≡◌, ◌∙◌, ◌&&◌, Bool, true, false, not, nat_eq, List, Option, Some, None, IsTrue, IsSome, refl, ap, if◌then◌else◌}
use Rattle.std.specs.Prelude.{option_and_then, option_map, slice_get, MatchOption}
use Rattle.std.proofs.lemmas.Option.{same_Some}
use Rattle.cdi_base.specs.declared.act.Act.{Act}
use Rattle.cdi_bodies.specs.Gives.{Promises, gives, place_of, shape_at, shape_or_none, LieInShape}
use Rattle.cdi_bodies.specs.Shape.{in_shape}
use Rattle.cdi_bodies.specs.declared.entry.Entry.{Entry}
use Rattle.cdi_bodies.specs.declared.shape.Shape.{Shape}
use Rattle.cdi_bodies.specs.declared.view.View.{View}
use Rattle.cdi_body_check.specs.ProceedNotAllowed.{HasProceedNotAllowed, may_proceed}
use Rattle.cdi_body_check.specs.Shapes.{shape_of}
use Rattle.cdi_body_check.specs.Sites.{Site, body_of, is_interceptor_method, is_live, params_of, sites_of}
use Rattle.cdi_check.specs.Accepted.{AreBodiesSound, IsRegistered}
use Rattle.cdi_check.specs.Tables.{setting_by}
use Rattle.cdi_deployment.specs.declared.deployment.Deployment.{Deployment}
use Rattle.cdi_machine.specs.Words.{Fields}
use Rattle.cdi_planner.proofs.Names.{same}
use Rattle.cdi_event_tables.specs.Ids.{is_named}
use Rattle.cdi_run_tables.specs.Machine.{AreIdsOf, body_number, id_of}
use Rattle.cdi_run_tables.specs.declared.tables.RunTables.{RunTables}
use Rattle.cdi_shape_check.specs.BodyOutsideShape.{HasBodyOutsideShape, is_outside, names_missing}
use Rattle.cdi_shape_check.specs.OwnParts.{ArePartsOf, OwnParts}
use Rattle.cdi_accepted.proofs.Lists.{Among, any_passes, holds_among}
use Rattle.cdi_accepted.proofs.Registered.{HasBody, app_of, has_shape}

-- what a body gives lies in its shape
pub record Lies {X : Type 0} {F : X → Type 0} {g : _} (entries : List (Entry X F g)) (id : ℕ) (view : View) (a : Act) : Type 0 where
  pub shape : Shape
  pub has : shape_at entries id ≡ Some shape
  pub lies : in_shape shape view a ≡ true

pub lie_at : {X : Type 0} {F : X → Type 0} {g : _} (entries : List (Entry X F g)) → LieInShape entries → (id : ℕ) (fields : Fields) (view : View) (a : Act) → gives entries id fields view a → Lies entries id view a
lie_at {X} {F} {g} entries lies id fields view a h = by (slice_get entries id) refl (lies id fields view a h) h
  where
    by : (c : Option (Entry X F g)) → slice_get entries id ≡ c → in_shape (shape_or_none (option_map (λ e. e.shape) c)) view a ≡ true → MatchOption c ⊥ (λ e. Promises e fields view a) → Lies entries id view a
    by None is l p = absurd p
    by (Some e) is l p = record { shape = e.shape; has = ap (option_map (λ k. k.shape)) is; lies = l }

module _ {X : Type 0} {F : X → Type 0} {g : _} (entries : List (Entry X F g)) where
  has_body : (name : ℕ) → IsSome (shape_of entries name) → HasBody entries name
  has_body name some = by (place_of entries name) refl some
    where
      at_place : (id : ℕ) → place_of entries name ≡ Some id → (o : Option Shape) → shape_at entries id ≡ o → IsSome o → HasBody entries name
      at_place id is None e s = absurd cc
      at_place id is (Some shape) e s = record { id = id; place = is; shape = shape; has = e }

      by : (o : Option ℕ) → place_of entries name ≡ o → IsSome (option_and_then (shape_at entries) o) → HasBody entries name
      by None e s = absurd cc
      by (Some id) e s = at_place id e (shape_at entries id) refl s

  module _ (t : RunTables) (ids : AreIdsOf entries t) (sound : AreBodiesSound t.deployment (shape_of entries) (setting_by t.deployment t.tables)) where
    abbrev d : Deployment
    d = t.deployment

    module _ (s : Site) (stands : Among s (sites_of d)) (live : is_live (setting_by d t.tables).enabled s ≡ true) where
      -- its body is registered
      pub registered : HasBody entries (body_of s)
      registered = has_body (body_of s) (holds_among (IsRegistered (setting_by d t.tables).enabled (shape_of entries)) (sites_of d) s sound.registered stands live)

      -- under the number that the tables have
      pub numbered : id_of t (body_of s) ≡ Some registered.id
      numbered =
          let named : is_named (sites_of d) (body_of s) ≡ true = any_passes (λ k. nat_eq (body_of k) (body_of s)) (sites_of d) s stands (same (body_of s)) in
          ap (option_and_then (λ (id : Option ℕ). id))
          (ids.told (body_of s) ∙ ap (λ (k : Bool). if k then Some (place_of entries (body_of s)) else None) named)
          ∙ registered.place

      pub number : body_number (id_of t) (body_of s) ≡ registered.id
      number = by (id_of t (body_of s)) numbered
        where
          by : (o : Option ℕ) → o ≡ Some registered.id → body_number (λ n. o) (body_of s) ≡ registered.id
          by None e = absurd cc
          by (Some n) e = same_Some n registered.id e

      -- its shape names what is there
      pub inside : (parts : OwnParts) → ArePartsOf d s parts → names_missing (app_of t) parts (params_of s) registered.shape ≡ false
      inside parts are = by (names_missing (app_of t) parts (params_of s) registered.shape) refl
        where
          by_shape : (o : Option Shape) → o ≡ Some registered.shape → names_missing (app_of t) parts (params_of s) registered.shape ≡ true
              → IsTrue (is_outside (app_of t) parts (params_of s) o)
          by_shape None h n = absurd cc
          by_shape (Some z) h n =
              let one : z ≡ registered.shape = same_Some z registered.shape h in
              ap (names_missing (app_of t) parts (params_of s)) one ∙ n

          by : (k : Bool) → names_missing (app_of t) parts (params_of s) registered.shape ≡ k → k ≡ false
          by false e = refl
          by true e =
              absurd (holds_among (λ k. HasBodyOutsideShape (app_of t) (setting_by d t.tables).enabled (shape_of entries) k → ⊥) (sites_of d) s sound.in_shape stands
              (record { live = live; parts = parts; are_parts = are; outside = by_shape (shape_of entries (body_of s)) (has_shape entries (body_of s) registered) e }))

      -- only an interceptor's method goes on with a chain
      pub proceeds : registered.shape.chain ≡ true → is_interceptor_method s ≡ true
      proceeds chain = by (is_interceptor_method s) refl
        where
          of_parts : (l i : Bool) (o : Option Shape) → l ≡ true → i ≡ false → o ≡ Some registered.shape → IsTrue (l && not i && may_proceed o)
          of_parts true false (Some z) e f h = ap (λ (k : Shape). k.chain) (same_Some z registered.shape h) ∙ chain
          of_parts true false None e f h = absurd cc
          of_parts true true o e f h = absurd cc
          of_parts false i o e f h = absurd cc

          by : (k : Bool) → is_interceptor_method s ≡ k → k ≡ true
          by true e = refl
          by false e =
              absurd (holds_among (λ k. HasProceedNotAllowed (setting_by d t.tables).enabled (shape_of entries) k → ⊥) (sites_of d) s sound.none_proceeds stands
              (of_parts (is_live (setting_by d t.tables).enabled s) (is_interceptor_method s) (shape_of entries (body_of s)) live e (has_shape entries (body_of s) registered)))
