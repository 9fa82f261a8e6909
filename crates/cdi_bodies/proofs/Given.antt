-- What a body may give lies in its shape.
use Rattle.std.proofs.Common.{◌≡◌, List, Option, Some, None, subst, option_map, MatchOption, true, slice_get}
use Rattle.cdi_base.specs.declared.act.Act.{Act}
use Rattle.cdi_base.specs.declared.fields.Fields.{Fields}
use Rattle.cdi_bodies.specs.declared.entry.Entry.{Entry}
use Rattle.cdi_bodies.specs.declared.view.View.{View}
use Rattle.cdi_bodies.specs.Shape.{in_shape}
use Rattle.cdi_bodies.specs.Gives.{Promises, LieInShape, shape_or_none}

pub promise-in_shape : {X : Type 0} {F : X → Type 0} {g : _} (e : Entry X F g) (fields : Fields) (view : View) (act : Act) → Promises e fields view act → in_shape e.shape view act ≡ true
promise-in_shape e fields view act p = subst (λ (v : View). in_shape e.shape v act ≡ true) p.is_view (e.within p.shown_fields p.shown_view act p.given)

pub gives-in_shape : {X : Type 0} {F : X → Type 0} {g : _} (entries : List (Entry X F g)) → LieInShape entries
gives-in_shape {X} {F} {g} entries id fields view act = by (slice_get entries id)
  where
    by : (o : Option (Entry X F g)) → MatchOption o ⊥ (λ e. Promises e fields view act) → in_shape (shape_or_none (option_map (λ e. e.shape) o)) view act ≡ true
    by None h = absurd h
    by (Some e) h = promise-in_shape e fields view act h
