-- How the references are written by which a body reaches another instance.
use Rattle.std.specs.Prelude.{ℕ, List, Bool, false, codes, is_some, Option, None, Ok, Err, if◌then◌else◌}
use Rattle.cdi_base.specs.Reading.{◌>>=◌}
use Rattle.cdi_base.specs.declared.act.Via.{Via}
use Rattle.cdi_base.specs.declared.act.Via.TheVariants.{Field, Param, Local}
use Rattle.cdi_form.specs.Json.{is_word}
use Rattle.serde_json.specs.Data.{Data, array, no_items, item}
use Rattle.cdi_script.specs.declared.fault.ScriptFault.TheVariants.{BadStep}
use Rattle.cdi_script.specs.Reading.{Reads, is_named, name_of, count_of, is_count, found}

-- `["field",f]`, `["param",k]` and `["local",k]`
unfoldable pub is_via_pair : Data → Data → Bool
is_via_pair word value =
    if is_word word (codes "field") then is_named value
    else (if is_word word (codes "param") then is_count value
    else
    (if is_word word (codes "local") then is_count value else false))

abbrev pub is_via : Data → Bool
is_via (array (item word (item value no_items))) = is_via_pair word value
is_via _ = false

unfoldable pub via_pair_of : List (List ℕ) → Data → Data → Reads Via
via_pair_of names word value =
    if is_word word (codes "field") then (name_of names value >>= λ name. Ok (Field name.0, name.1))
    else (if is_word word (codes "param") then found Param names (count_of value)
    else (if is_word word (codes "local") then found Local names (count_of value) else Err BadStep))

-- the reference that a value is
abbrev pub via_of : List (List ℕ) → Data → Reads Via
via_of names (array (item word (item value no_items))) = via_pair_of names word value
via_of names _ = Err BadStep

unfoldable pub local_in : Data → Data → Option ℕ
local_in word value = if is_word word (codes "local") then count_of value else None

-- the number of the local that a value refers to, where it is `["local",k]`
abbrev pub local_of : Data → Option ℕ
local_of (array (item word (item value no_items))) = local_in word value
local_of _ = None

abbrev pub is_local : Data → Bool
is_local d = is_some (local_of d)
