-- Each text in the table of the names of a value is a name, if those before it are.
use Rattle.std.proofs.Common.{◌≡◌, ◌∙◌, ℕ, Bool, true, false, List, [], ◌∷◌, Option, Some, None, Ok, Err, IfOk, if◌then◌else◌, zero, suc, slice_get, refl, sym, ap}
use Rattle.std.proofs.lemmas.Bool.{and_parts}
use Rattle.std.specs.List.{list_all}
use Rattle.cdi_base.specs.BuiltIn.{built_in_names}
use Rattle.cdi_base.specs.Name.{is_name, has_room, with_name}
use Rattle.cdi_base.specs.Reading.{◌>>=◌}
use Rattle.cdi_form.specs.declared.form.Kind.{Kind}
use Rattle.cdi_form.specs.declared.form.Part.{Part}
use Rattle.cdi_form.specs.declared.form.Part.TheVariants as parts
use Rattle.cdi_form.specs.Form.{part_at, named_part}
use Rattle.cdi_form.specs.Keys.{kind_of}
use Rattle.serde_json.specs.Data.{Data, null, boolean, number, string, array, object, Items, no_items, item, Members, no_members, member}
use Rattle.cdi_script.proofs.Named.{AreNames, with-name}
use Rattle.cdi_deploy.specs.declared.fault.ReadFault.{ReadFault}
use Rattle.cdi_deploy.specs.Naming.{Table, added, text_added, keys_added, added_at, names_added, items_added, members_added}
use Rattle.cdi_deploy.specs.Reading.{deployment_in, root, table_of}
use Rattle.cdi_report.proofs.ReadTables.{of-read}

-- what stands in such a table is a name
pub name-at : (names : List (List ℕ)) (n : ℕ) (text : List ℕ) → AreNames names
    → slice_get names n ≡ Some text → is_name text ≡ true
name-at [] n text are e = absurd cc
name-at (first ∷ names) zero text are e =
    let is : first ≡ text = cc in
    ap is_name (sym is) ∙ (and_parts (is_name first) (list_all is_name names) are).0
name-at (first ∷ names) (suc n) text are e =
    name-at names n text (and_parts (is_name first) (list_all is_name names) are).1 e

-- ---- tables

abbrev Named : Table → Type 0
Named r = IfOk r AreNames

-- one step after another
then-named : (r : Table) (next : List (List ℕ) → Table) → Named r
    → ((between : List (List ℕ)) → AreNames between → Named (next between)) → Named (r >>= next)
then-named (Err fault) next first second = tt
then-named (Ok between) next first second = second between first

at-named : {X : Type 0} (o : Option X) (names : List (List ℕ)) (inside : X → Table) → AreNames names
    → ((x : X) → Named (inside x)) → Named (added_at o names inside)
at-named None names inside are each = are
at-named (Some x) names inside are each = each x

added-named : (names : List (List ℕ)) (text : List ℕ) → AreNames names → Named (added names text)
unfolding added
added-named names text are = by (is_name text) refl (has_room names text)
  where
    by : (name : Bool) → is_name text ≡ name → (room : Bool)
        → Named (if name then (if room then Ok (with_name names text) else Err ReadFault.TooMany)
        else Ok names)
    by true is true = with-name names text are is
    by true is false = tt
    by false is room = are

text-named : (part : Part) (names : List (List ℕ)) (text : List ℕ) → AreNames names
    → Named (text_added part names text)
text-named parts.Name names text are = added-named names text are
text-named parts.Use names text are = added-named names text are
text-named _ names text are = are

keys-named : (names : List (List ℕ)) (ms : Members) → AreNames names → Named (keys_added names ms)
keys-named names no_members are = are
keys-named names (member key d ms) are =
    then-named (added names key) (λ after. keys_added after ms) (added-named names key are)
    (λ between h. keys-named between ms h)

object-named : (names : List (List ℕ)) (ms : Members) (part : Part) → AreNames names
    → ((kind : Kind) → Named (members_added names ms kind))
    → Named (names_added names (object ms) part)
object-named names ms parts.Use are inside = keys-named names ms are
object-named names ms part are inside =
    at-named (kind_of part ms) names (λ kind. members_added names ms kind) are inside

mutual
  pub names-named : (d : Data) (names : List (List ℕ)) (part : Part) → AreNames names
      → Named (names_added names d part)
  names-named null names part are = are
  names-named (boolean b) names part are = are
  names-named (number n) names part are = are
  names-named (string text) names part are = text-named part names text are
  names-named (array ds) names part are =
      at-named (named_part part) names (λ inner. items_added names ds inner) are
      (λ inner. items-named ds names inner are)
  names-named (object ms) names part are =
      object-named names ms part are (λ kind. members-named ms names kind are)

  items-named : (ds : Items) (names : List (List ℕ)) (part : Part) → AreNames names
      → Named (items_added names ds part)
  items-named no_items names part are = are
  items-named (item d ds) names part are =
      then-named (names_added names d part) (λ after. items_added after ds part)
      (names-named d names part are) (λ between h. items-named ds between part h)

  members-named : (ms : Members) (names : List (List ℕ)) (kind : Kind) → AreNames names
      → Named (members_added names ms kind)
  members-named no_members names kind are = are
  members-named (member key d ms) names kind are =
      then-named (added_at (part_at kind key) names (λ part. names_added names d part))
      (λ after. members_added after ms kind)
      (at-named (part_at kind key) names (λ part. names_added names d part) are
      (λ part. names-named d names part are))
      (λ between h. members-named ms between kind h)

-- ---- deployments

built_in-named : AreNames built_in_names
unfolding built_in_names
built_in-named = refl

value-named : (d : Data) → Named (table_of d)
value-named d = names-named d built_in_names root built_in-named

-- in the table of a deployment that was read
pub read-named : (bytes : List ℕ) → IfOk (deployment_in bytes) (λ d. AreNames d.names)
read-named = of-read AreNames value-named
