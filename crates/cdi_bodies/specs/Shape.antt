-- Which acts lie in a shape.
use Rattle.std.specs.Prelude.{◌≡◌, ℕ, Bool, true, false, [], ◌-◌, ◌==◌, ◌&&◌, ◌||◌, length, nat_lt, slice_get, Option, Some, Result, Ok}
use Rattle.std.specs.Borrow.{Bor}
use Rattle.std.specs.List.{list_any}
use Rattle.std.specs.declared.alloc.AllocError.{AllocError}
use Rattle.cdi_base.specs.declared.act.Act.{Act}
use Rattle.cdi_base.specs.declared.act.Act.TheVariants as acts
use Rattle.cdi_base.specs.declared.act.Answer.{Answer}
use Rattle.cdi_base.specs.declared.act.Answer.TheVariants as answers
use Rattle.cdi_base.specs.declared.act.Via.{Via}
use Rattle.cdi_base.specs.declared.act.Via.TheVariants as vias
use Rattle.cdi_base.specs.declared.fields.Fields.{Fields}
use Rattle.cdi_bodies.specs.Events.{same_qualifiers}
use Rattle.cdi_bodies.specs.declared.shape.Shape.{Shape}
use Rattle.cdi_bodies.specs.declared.view.View.{View}

abbrev pub via_eq : Via → Via → Bool
via_eq (vias.Field a) (vias.Field b) = a == b
via_eq (vias.Param j) (vias.Param k) = j == k
via_eq (vias.Local j) (vias.Local k) = j == k
via_eq _ _ = false

-- the answer is that this exception was thrown
abbrev pub is_thrown : ℕ → Option Answer → Bool
is_thrown exception (Some (answers.Threw thrown text)) = thrown == exception
is_thrown exception _ = false

abbrev pub last_answer : View → Option Answer
last_answer view = slice_get view.answers (length view.answers - 1)

-- what the act names is listed in the shape, or it throws again what the last act was answered with
abbrev pub in_shape : Shape → View → Act → Bool
in_shape shape view (acts.Set field value) = list_any (λ f. f == field) shape.sets
in_shape shape view (acts.Call via method args) =
    list_any (λ c. via_eq c.via via && (c.method == method) && (c.count == length args)) shape.calls
in_shape shape view (acts.Own method args) =
    list_any (λ c. (c.method == method) && (c.count == length args)) shape.owns
in_shape shape view (acts.Read via) = list_any (λ v. via_eq v via) shape.cells
in_shape shape view (acts.Write via value) = list_any (λ v. via_eq v via) shape.cells
in_shape shape view (acts.Fire class qualifiers value) =
    list_any (λ e. (e.class == class) && same_qualifiers e.qualifiers qualifiers) shape.fires
in_shape shape view (acts.Proceed args) = shape.chain
in_shape shape view (acts.Find lookup) = nat_lt lookup (length shape.lookups)
in_shape shape view (acts.Keep key value) = shape.chain
in_shape shape view (acts.Peek key) = shape.chain
in_shape shape view (acts.Destroy local) = list_any (λ k. k == local) shape.destroys
in_shape shape view (acts.Give value) = true
in_shape shape view (acts.Throw exception) =
    list_any (λ x. x == exception) shape.throws || is_thrown exception (last_answer view)

-- nothing is listed
abbrev pub no_acts : Shape
no_acts =
    record {
      sets = [];
      calls = [];
      owns = [];
      cells = [];
      fires = [];
      lookups = [];
      destroys = [];
      throws = [];
      chain = false;
    }

-- each act that a body with this promise may answer, at any fields and any view, lies in the shape
abbrev pub KeepsShape : (Bor Fields → Bor View → Result Act AllocError → Type 0) → Shape → Type 0
KeepsShape promise shape =
    (fields : Bor Fields) (view : Bor View) (act : Act) → promise fields view (Ok act)
    → in_shape shape view.now act ≡ true
