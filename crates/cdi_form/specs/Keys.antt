-- Whether an object itself is right: the kind that it is of, and its keys.
use Rattle.std.specs.Prelude.{ℕ, Bool, true, not, ◌&&◌, ◌||◌, List, codes, Option, Some, None, option_and_then}
use Rattle.std.specs.List.{list_all}
use Rattle.std.specs.Option.{is_some}
use Rattle.serde_json.specs.Data.{Members, no_members, member}
use Rattle.serde_json.specs.Find.{as_str, get_member}
use Rattle.cdi_form.specs.declared.form.Kind.{Kind}
use Rattle.cdi_form.specs.declared.form.Part.{Part}
use Rattle.cdi_form.specs.declared.form.Part.TheVariants as parts
use Rattle.cdi_form.specs.Table.{Row, rows}
use Rattle.cdi_form.specs.Form.{part_at}
use Rattle.cdi_form.specs.Words.{member_kind}

-- the key of a row is there, or need not be
abbrev pub is_met : Members → Row → Bool
is_met ms row = not row.is_required || is_some (get_member row.key ms)

-- no key is missing
abbrev pub has_required : Kind → Members → Bool
has_required kind ms = list_all (is_met ms) (rows kind)

-- each key is listed
abbrev pub are_listed : Kind → Members → Bool
are_listed kind no_members = true
are_listed kind (member key d ms) =
    is_some (part_at kind key) && are_listed kind ms

-- an object itself is right: no key is missing, and each is listed
abbrev pub has_right_keys : Kind → Members → Bool
has_right_keys kind ms = has_required kind ms && are_listed kind ms

-- the text at the key `kind`
abbrev pub kind_word : Members → Option (List ℕ)
kind_word ms = option_and_then as_str (get_member (codes "kind") ms)

-- the kind of the object at a part: none where no object may stand, and where a member names no kind
abbrev pub kind_of : Part → Members → Option Kind
kind_of (parts.Object kind) ms = Some kind
kind_of parts.Member ms = option_and_then member_kind (kind_word ms)
kind_of _ ms = None
