-- How expressions are written.
use Rattle.std.specs.Prelude.{ℕ, List, Bool, true, false, ◌&&◌, codes, is_some, Ok, Err, if◌then◌else◌}
use Rattle.cdi_base.specs.Reading.{◌>>=◌}
use Rattle.cdi_form.specs.Json.{is_word}
use Rattle.serde_json.specs.Data.{Data, null, boolean, number, string, array, object, no_items, item}
use Rattle.serde_json.specs.Find.{as_i64}
use Rattle.cdi_script.specs.declared.fault.ScriptFault.TheVariants.{BadStep}
use Rattle.cdi_script.specs.Reading.{Reads, is_named, name_of, count_of, is_count, found}
use Rattle.cdi_script.specs.Term as terms

-- `["field",f]`, `["arg",k]` and `["ans",k]`
unfoldable pub is_pair : Data → Data → Bool
is_pair word value =
    if is_word word (codes "field") then is_named value
    else
    (if is_word word (codes "arg") then is_count value
    else (if is_word word (codes "ans") then is_count value else false))

-- null, a whole number, a text, one of these pairs, `["last"]` or `["add",e,e]`
abbrev pub is_expression : Data → Bool
is_expression null = true
is_expression (boolean b) = false
is_expression (number n) = is_some (as_i64 n)
is_expression (string text) = true
is_expression (array (item word no_items)) = is_word word (codes "last")
is_expression (array (item word (item value no_items))) = is_pair word value
is_expression (array (item word (item left (item right no_items)))) =
    is_word word (codes "add") && (is_expression left && is_expression right)
is_expression (array _) = false
is_expression (object _) = false

unfoldable pub pair_of : List (List ℕ) → Data → Data → Reads terms.Term
pair_of names word value =
    if is_word word (codes "field") then
    (name_of names value >>= λ name. Ok (terms.field name.0, name.1))
    else (if is_word word (codes "arg") then found terms.argument names (count_of value)
    else
    (if is_word word (codes "ans") then found terms.answer names (count_of value) else Err BadStep))

-- the expression that a value is
abbrev pub expression_of : List (List ℕ) → Data → Reads terms.Term
expression_of names null = Ok (terms.null, names)
expression_of names (boolean b) = Err BadStep
expression_of names (number n) = found terms.whole names (as_i64 n)
expression_of names (string text) = Ok (terms.text text, names)
expression_of names (array (item word no_items)) =
    if is_word word (codes "last") then Ok (terms.last, names) else Err BadStep
expression_of names (array (item word (item value no_items))) = pair_of names word value
expression_of names (array (item word (item left (item right no_items)))) =
    if is_word word (codes "add")
    then
    (expression_of names left >>= λ a. expression_of a.1 right >>= λ b. Ok (terms.sum a.0 b.0, b.1))
    else Err BadStep
expression_of names (array _) = Err BadStep
expression_of names (object _) = Err BadStep
