-- What stands at a key of an object, and what stands for it where it is missing.
use Rattle.std.specs.Prelude.{ℕ, ℤ, Bool, false, List, [], Option, Some, None, nat_le, if◌then◌else◌}
use Rattle.std.specs.Option.{unwrap_or}
use Rattle.cdi_base.specs.declared.scope.Scope.{Scope}
use Rattle.cdi_base.specs.declared.scope.Scope.TheVariants as scopes
use Rattle.cdi_base.specs.declared.value.Value.{Value}
use Rattle.cdi_base.specs.declared.value.Value.TheVariants as values
use Rattle.cdi_form.specs.Words.{scope_named}
use Rattle.cdi_form.specs.ValueForms.{value_in}
use Rattle.serde_json.specs.Data.{Num, unsigned, Data, null, boolean, number, string, array, Items, no_items}
use Rattle.serde_json.specs.Find.{as_i64}

-- a text that is missing is empty
abbrev pub text_of : Option Data → List ℕ
text_of (Some (string s)) = s
text_of _ = []

-- a list that is missing is empty
abbrev pub list_of : Option Data → Items
list_of (Some (array ds)) = ds
list_of _ = no_items

-- a value that is missing is null
abbrev pub value_of : Option Data → Value
value_of None = values.Null
value_of (Some d) = unwrap_or (value_in d) values.Null

abbrev pub count_of_num : Num → ℕ
count_of_num (unsigned n) = if nat_le n 8 then n else 0
count_of_num _ = 0

-- a number of arguments that is missing is 0
abbrev pub count_of : Option Data → ℕ
count_of (Some (number n)) = count_of_num n
count_of _ = 0

-- a mark that is missing is false
abbrev pub mark_of : Option Data → Bool
mark_of (Some (boolean b)) = b
mark_of _ = false

-- a whole number may be missing
abbrev pub whole_number_of : Option Data → Option ℤ
whole_number_of (Some (number n)) = as_i64 n
whole_number_of _ = None

-- a scope that is missing is Dependent
abbrev pub scope_of : Option Data → Scope
scope_of d = unwrap_or (scope_named (text_of d)) scopes.Dependent

abbrev pub data_of : Option Data → Data
data_of (Some d) = d
data_of None = null
