-- The first text in the place of a name that is none. Items go by their index, members by their keys in the order of bytes, and in a
-- use its name comes before the keys of its members.
use Rattle.std.specs.Prelude.{ℕ, Bool, List, Option, Some, None, option_and_then, if◌then◌else◌}
use Rattle.std.specs.Option.{is_none, option_or}
use Rattle.cdi_base.specs.Name.{is_name}
use Rattle.serde_json.specs.Data.{Data, string, array, object, Items, no_items, item, Members, no_members, member}
use Rattle.cdi_form.specs.declared.form.Kind.{Kind}
use Rattle.cdi_form.specs.declared.form.Part.{Part}
use Rattle.cdi_form.specs.declared.form.Part.TheVariants as parts
use Rattle.cdi_form.specs.Form.{part_at, named_part}
use Rattle.cdi_form.specs.Keys.{kind_of}

-- a text, if it is no name
abbrev pub no_name : List ℕ → Option (List ℕ)
no_name s = if is_name s then None else Some s

abbrev pub bad_text : Part → List ℕ → Option (List ℕ)
bad_text parts.Name s = no_name s
bad_text parts.Use s = no_name s
bad_text _ s = None

-- the first key of the members in a use that is no name
abbrev pub first_bad_key : Members → Option (List ℕ)
first_bad_key no_members = None
first_bad_key (member key d ms) = option_or (no_name key) (first_bad_key ms)

-- there is none where no part or no kind is known
abbrev mutual
  pub first_bad_name : Data → Part → Option (List ℕ)
  first_bad_name (string s) part = bad_text part s
  first_bad_name (array ds) part = option_and_then (λ inner. bad_name_in_items ds inner)
      (named_part part)
  first_bad_name (object ms) parts.Use = first_bad_key ms
  first_bad_name (object ms) part = option_and_then
      (λ kind. bad_name_in_members ms kind) (kind_of part ms)
  first_bad_name _ part = None

  pub bad_name_in_items : Items → Part → Option (List ℕ)
  bad_name_in_items no_items part = None
  bad_name_in_items (item d ds) part = option_or (first_bad_name d part)
      (bad_name_in_items ds part)

  pub bad_name_in_members : Members → Kind → Option (List ℕ)
  bad_name_in_members no_members kind = None
  bad_name_in_members (member key d ms) kind =
      option_or (option_and_then (λ part. first_bad_name d part) (part_at kind key))
      (bad_name_in_members ms kind)

-- each text in the place of a name is one
abbrev pub names_fit : Data → Part → Bool
names_fit d part = is_none (first_bad_name d part)
