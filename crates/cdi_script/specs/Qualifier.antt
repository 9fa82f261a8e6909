-- How uses of qualifiers are written in scripts: as in deployments.
use Rattle.std.specs.Prelude.{ℕ, List, Bool, true, false, ◌&&◌, Option, Some, None, Ok, Err, if◌then◌else◌}
use Rattle.std.specs.Option.{option_map_or}
use Rattle.cdi_base.specs.Name.{is_name}
use Rattle.cdi_base.specs.Uses.{has_names, numbered_use}
use Rattle.cdi_base.specs.declared.uses.Use.{Use}
use Rattle.cdi_base.specs.declared.uses.WrittenUse.{WrittenUse}
use Rattle.cdi_form.specs.ValueForms.{use_in}
use Rattle.serde_json.specs.Data.{Data, string, array, object, no_items, item, Members, no_members, member}
use Rattle.cdi_script.specs.declared.fault.ScriptFault.TheVariants.{BadStep, Full}
use Rattle.cdi_script.specs.Reading.{Reads, is_named}

-- a use whose texts are names where names are due
abbrev pub is_qualifier : Data → Bool
is_qualifier d = option_map_or has_names (use_in d) false

-- the same of the keys of an object
abbrev pub has_named_keys : Members → Bool
has_named_keys no_members = true
has_named_keys (member key d ms) = is_name key && has_named_keys ms

abbrev pub are_use_names : Data → Data → Bool
are_use_names name (object ms) = is_named name && has_named_keys ms
are_use_names name _ = false

-- the same of a value, whatever the values of its members are
abbrev pub has_use_names : Data → Bool
has_use_names (string text) = is_name text
has_use_names (array (item name (item members no_items))) = are_use_names name members
has_use_names _ = false

abbrev pub or_full : {X : Type 0} → Option (X × List (List ℕ)) → Reads X
or_full (Some x) = Ok x
or_full None = Err Full

-- the use with its names in the table
abbrev pub named_use : List (List ℕ) → Option WrittenUse → Reads Use
named_use names (Some written) =
    if has_names written then or_full (numbered_use names written) else Err BadStep
named_use names None = Err BadStep

abbrev pub qualifier_of : List (List ℕ) → Data → Reads Use
qualifier_of names d = named_use names (use_in d)
