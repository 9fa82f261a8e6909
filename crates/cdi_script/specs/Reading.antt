-- What reading gives, and the names, numbers and lists that stand in scripts.
use Rattle.std.specs.Prelude.{ℕ, List, [], ◌∷◌, Bool, true, false, ◌&&◌, nat_le, is_some, Option, Some, None, Result, Ok, Err, if◌then◌else◌}
use Rattle.cdi_base.specs.Name.{is_name, has_room, number_of, with_name}
use Rattle.cdi_base.specs.Reading.{◌>>=◌}
use Rattle.serde_json.specs.Data.{Num, unsigned, negative, float, Data, number, string, array, Items, no_items, item}
use Rattle.cdi_script.specs.declared.fault.ScriptFault.{ScriptFault}
use Rattle.cdi_script.specs.declared.fault.ScriptFault.TheVariants.{BadStep, Full}

-- what was read, with the table of names behind it, or the fault
abbrev pub Reads : Type 0 → Type 0
Reads X = Result (X × List (List ℕ)) ScriptFault

-- a text that is a name
abbrev pub is_named : Data → Bool
is_named (string text) = is_name text
is_named _ = false

-- the name of a text
unfoldable pub named : List (List ℕ) → List ℕ → Reads ℕ
named names text =
    if is_name text then
    (if has_room names text then Ok (number_of names text, with_name names text) else Err Full)
    else Err BadStep

abbrev pub name_of : List (List ℕ) → Data → Reads ℕ
name_of names (string text) = named names text
name_of names _ = Err BadStep

-- the number of a parameter, an answer or a local: 0 to 65,535
abbrev pub count_of_num : Num → Option ℕ
count_of_num (unsigned n) = if nat_le n 65535 then Some n else None
count_of_num (negative z) = None
count_of_num (float x) = None

abbrev pub count_of : Data → Option ℕ
count_of (number n) = count_of_num n
count_of _ = None

abbrev pub is_count : Data → Bool
is_count d = is_some (count_of d)

-- what is made of a number, if there is one
abbrev pub found : {X Y : Type 0} → (X → Y) → List (List ℕ) → Option X → Reads Y
found make names (Some x) = Ok (make x, names)
found make names None = Err BadStep

-- each item passes
abbrev pub all_items : (Data → Bool) → Items → Bool
all_items test no_items = true
all_items test (item d ds) = test d && all_items test ds

abbrev pub is_array_of : (Data → Bool) → Data → Bool
is_array_of test (array ds) = all_items test ds
is_array_of test _ = false

-- one item after another, each into the table that the one before left
abbrev pub each : {X : Type 0} → (List (List ℕ) → Data → Reads X) → List (List ℕ) → Items
    → Reads (List X)
each form names no_items = Ok ([], names)
each form names (item d ds) =
    form names d >>= λ first. each form first.1 ds >>= λ others. Ok (first.0 ∷ others.0, others.1)

abbrev pub array_of : {X : Type 0} → (List (List ℕ) → Data → Reads X) → List (List ℕ) → Data
    → Reads (List X)
array_of form names (array ds) = each form names ds
array_of form names _ = Err BadStep
