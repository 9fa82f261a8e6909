-- The table of the names of a deployment: the texts in the places of names are added one after the other, as they stand. Members of an
-- object go by their keys in the order of bytes, items by their index, and in a use its name comes before the keys of its members.
use Rattle.std.specs.Prelude.{ℕ, List, Option, Some, None, Result, Ok, Err, if◌then◌else◌}
use Rattle.cdi_base.specs.Name.{is_name, has_room, with_name}
use Rattle.cdi_base.specs.Reading.{◌>>=◌}
use Rattle.cdi_form.specs.declared.form.Kind.{Kind}
use Rattle.cdi_form.specs.declared.form.Part.{Part}
use Rattle.cdi_form.specs.declared.form.Part.TheVariants as parts
use Rattle.cdi_form.specs.Form.{part_at, named_part}
use Rattle.cdi_form.specs.Keys.{kind_of}
use Rattle.serde_json.specs.Data.{Data, string, array, object, Items, no_items, item, Members, no_members, member}
use Rattle.cdi_deploy.specs.declared.fault.ReadFault.{ReadFault}
use Rattle.cdi_deploy.specs.declared.fault.ReadFault.TheVariants as faults

-- a table with further names, or too many of them
abbrev pub Table : Type 0
Table = Result (List (List ℕ)) ReadFault

-- what is no name is left out
unfoldable pub added : List (List ℕ) → List ℕ → Table
added names text =
    if is_name text then
    (if has_room names text then Ok (with_name names text) else Err faults.TooMany)
    else Ok names

abbrev pub text_added : Part → List (List ℕ) → List ℕ → Table
text_added parts.Name names s = added names s
text_added parts.Use names s = added names s
text_added _ names s = Ok names

abbrev pub keys_added : List (List ℕ) → Members → Table
keys_added names no_members = Ok names
keys_added names (member key d ms) = added names key >>= λ after. keys_added after ms

-- nothing is added where no part or no kind is known
abbrev pub added_at : {X : Type 0} → Option X → List (List ℕ) → (X → Table) → Table
added_at None names inside = Ok names
added_at (Some x) names inside = inside x

abbrev mutual
  pub names_added : List (List ℕ) → Data → Part → Table
  names_added names (string s) part = text_added part names s
  names_added names (array ds) part = added_at (named_part part) names
      (λ inner. items_added names ds inner)
  names_added names (object ms) parts.Use = keys_added names ms
  names_added names (object ms) part = added_at (kind_of part ms) names
      (λ kind. members_added names ms kind)
  names_added names _ part = Ok names

  pub items_added : List (List ℕ) → Items → Part → Table
  items_added names no_items part = Ok names
  items_added names (item d ds)
      part = names_added names d part >>= λ after. items_added after ds part

  pub members_added : List (List ℕ) → Members → Kind → Table
  members_added names no_members kind = Ok names
  members_added names (member key d ms) kind =
      added_at (part_at kind key) names (λ part. names_added names d part)
      >>= λ after. members_added after ms kind
