-- The value of an expression.
use Rattle.std.specs.Prelude.{ℤ, pos, negsuc, ◌+ℤ◌, ◌^◌, List, map, Bool, slice_get, Option, Some, None, nat_lt, if◌then◌else◌}
use Rattle.cdi_base.specs.declared.act.Answer.{Answer}
use Rattle.cdi_base.specs.declared.act.Answer.TheVariants as answers
use Rattle.cdi_base.specs.declared.fields.Fields.{Fields}
use Rattle.cdi_base.specs.declared.value.Value.{Value}
use Rattle.cdi_base.specs.declared.value.Value.TheVariants as values
use Rattle.cdi_base.specs.Fields.{get}
use Rattle.cdi_bodies.specs.declared.view.View.{View}
use Rattle.cdi_bodies.specs.Shape.{last_answer}
use Rattle.cdi_script.specs.Term as terms

abbrev pub fits_i64 : ℤ → Bool
fits_i64 (pos n) = nat_lt n (2 ^ 63)
fits_i64 (negsuc n) = nat_lt n (2 ^ 63)

-- the sum of two whole numbers, null where it is none of 64 bits, and for other values
abbrev pub sum_of : Value → Value → Value
sum_of (values.Int a) (values.Int b) =
    if fits_i64 (a +ℤ b) then values.Int (a +ℤ b) else values.Null
sum_of _ _ = values.Null

abbrev pub or_null : Option Value → Value
or_null (Some value) = value
or_null None = values.Null

-- the value that was answered, or the text of the exception
abbrev pub value_in : Option Answer → Value
value_in (Some (answers.Done value)) = value
value_in (Some (answers.Threw exception text)) = values.Text text
value_in _ = values.Null

abbrev pub value_of : terms.Term → Fields → View → Value
value_of terms.null fields view = values.Null
value_of (terms.whole n) fields view = values.Int n
value_of (terms.text s) fields view = values.Text s
value_of (terms.field name) fields view = get fields name
value_of (terms.argument k) fields view = or_null (slice_get view.args k)
value_of (terms.answer k) fields view = value_in (slice_get view.answers k)
value_of terms.last fields view = value_in (last_answer view)
value_of (terms.sum a b) fields view = sum_of (value_of a fields view) (value_of b fields view)

abbrev pub values_of : List terms.Term → Fields → View → List Value
values_of args fields view = map (λ arg. value_of arg fields view) args
