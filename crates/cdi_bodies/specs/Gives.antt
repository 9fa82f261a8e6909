-- What the registered bodies may give.
use Rattle.std.specs.Prelude.{◌≡◌, ℕ, ◌==◌, List, Bool, Option, Some, None, is_some, Ok, true, map, slice_get, option_map, position, MatchOption}
use Rattle.std.specs.Borrow.{Bor}
use Rattle.cdi_base.specs.declared.act.Act.{Act}
use Rattle.cdi_base.specs.declared.fields.Fields.{Fields}
use Rattle.cdi_bodies.specs.declared.entry.Entry.{Entry}
use Rattle.cdi_bodies.specs.declared.shape.Lookup.{Lookup}
use Rattle.cdi_bodies.specs.declared.shape.Shape.{Shape}
use Rattle.cdi_bodies.specs.declared.view.View.{View}
use Rattle.cdi_bodies.specs.Shape.{in_shape, no_acts}

-- the entry's closure promises that it may answer this act where it is shown these fields and this view
pub record Promises {X : Type 0} {F : X → Type 0} {g : _} (e : Entry X F g) (fields : Fields)
    (view : View) (act : Act) : Type 0 where
  pub shown_fields : Bor Fields
  pub shown_view : Bor View
  pub is_fields : shown_fields.now ≡ fields
  pub is_view : shown_view.now ≡ view
  pub given : g.post (e.body.vtable, e.body.value) (shown_fields, (shown_view, tt)) (Ok act)

-- the body under this number may give this act at these fields and this view
abbrev pub gives : {X : Type 0} {F : X → Type 0} {g : _} → List (Entry X F g) → ℕ → Fields → View
    → Act → Type 0
gives entries id fields view act =
    MatchOption (slice_get entries id) ⊥ (λ e. Promises e fields view act)

abbrev pub shape_at : {X : Type 0} {F : X → Type 0} {g : _} → List (Entry X F g) → ℕ → Option Shape
shape_at entries id = option_map (λ e. e.shape) (slice_get entries id)

-- the lookups of each body, at its number
abbrev pub lookups_of : {X : Type 0} {F : X → Type 0} {g : _} → List (Entry X F g)
    → List (List Lookup)
lookups_of entries = map (λ e. e.shape.lookups) entries

abbrev pub name_at : {X : Type 0} {F : X → Type 0} {g : _} → List (Entry X F g) → ℕ → Option ℕ
name_at entries id = option_map (λ e. e.name) (slice_get entries id)

-- the number of the body of a name
abbrev pub place_of : {X : Type 0} {F : X → Type 0} {g : _} → List (Entry X F g) → ℕ → Option ℕ
place_of entries name = position (λ e. e.name == name) entries

abbrev pub is_named : {X : Type 0} {F : X → Type 0} {g : _} → List (Entry X F g) → ℕ → Bool
is_named entries name = is_some (place_of entries name)

-- where there is no body, nothing is listed
abbrev pub shape_or_none : Option Shape → Shape
shape_or_none None = no_acts
shape_or_none (Some shape) = shape

-- the act lies in the shape of the body under this number
abbrev pub LiesInShape : {X : Type 0} {F : X → Type 0} {g : _} → List (Entry X F g) → ℕ → View → Act
    → Type 0
LiesInShape entries id view act = in_shape (shape_or_none (shape_at entries id)) view act ≡ true

-- whatever a body may give lies in its shape
abbrev pub LieInShape : {X : Type 0} {F : X → Type 0} {g : _} → List (Entry X F g) → Type 0
LieInShape entries =
    (id : ℕ) (fields : Fields) (view : View) (act : Act) → gives entries id fields view act
    → LiesInShape entries id view act
