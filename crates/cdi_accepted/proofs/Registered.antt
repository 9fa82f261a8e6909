-- A deployment's tables as the check of shapes sees them, and the body that is registered under a name.
use Rattle.std.proofs.Common.{ℕ, ◌≡◌, ◌∙◌, List, Some, ap}
use Rattle.std.specs.Prelude.{option_and_then}
use Rattle.cdi_bodies.specs.Gives.{place_of, shape_at}
use Rattle.cdi_bodies.specs.declared.entry.Entry.{Entry}
use Rattle.cdi_bodies.specs.declared.shape.Shape.{Shape}
use Rattle.cdi_body_check.specs.Shapes.{shape_of}
use Rattle.cdi_resolve.specs.Filters.{enabled_of}
use Rattle.cdi_run_tables.specs.declared.tables.RunTables.{RunTables}
use Rattle.cdi_shape_check.specs.Application.{Application}

abbrev pub app_of : RunTables → Application
app_of t =
    record { deployment = t.deployment; qualifiers = t.tables.declared.qualifiers; enabled = enabled_of t.tables.resolver }

module _ {X : Type 0} {F : X → Type 0} {g : _} (entries : List (Entry X F g)) where
  -- a body that is registered, with its number and its shape
  pub record HasBody (name : ℕ) : Type 0 where
    pub id : ℕ
    pub place : place_of entries name ≡ Some id
    pub shape : Shape
    pub has : shape_at entries id ≡ Some shape

  pub has_shape : (name : ℕ) (b : HasBody name) → shape_of entries name ≡ Some b.shape
  has_shape name b = ap (option_and_then (shape_at entries)) b.place ∙ b.has
