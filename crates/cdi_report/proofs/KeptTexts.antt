-- The table of the names of a value extends the one that it begins with, and so keeps its texts.
use Rattle.std.proofs.Common.{◌≡◌, ◌∙◌, ℕ, ◌+◌, ◌<◌, Bool, true, false, List, [], length, Option, Some, None, Ok, Err, IfOk, if◌then◌else◌, ap, arith, length-append}
use Rattle.std.proofs.lemmas.Option.{slice_get-get_or}
use Rattle.std.specs.Option.{is_some}
use Rattle.cdi_base.specs.Name.{Extends, is_name, has_room, with_name}
use Rattle.cdi_base.specs.Reading.{◌>>=◌}
use Rattle.cdi_base.proofs.Tables.{stays, joins, with_one}
use Rattle.cdi_form.specs.declared.form.Kind.{Kind}
use Rattle.cdi_form.specs.declared.form.Part.{Part}
use Rattle.cdi_form.specs.declared.form.Part.TheVariants as parts
use Rattle.cdi_form.specs.Form.{part_at, named_part}
use Rattle.cdi_form.specs.Keys.{kind_of}
use Rattle.serde_json.specs.Data.{Data, null, boolean, number, string, array, object, Items, no_items, item, Members, no_members, member}
use Rattle.cdi_deploy.specs.declared.fault.ReadFault.{ReadFault}
use Rattle.cdi_deploy.specs.Naming.{Table, added, text_added, keys_added, added_at, names_added, items_added, members_added}
use Rattle.cdi_run_tables.specs.Texts.{has_text}

-- a text that a table has stays in those that extend it
pub text-stays : (names after : List (List ℕ)) (n : ℕ) → Extends names after → n < length names
    → has_text after n ≡ true
text-stays names after n extends below =
    let longer : length after ≡ length names + length extends.more =
    ap (λ (t : List (List ℕ)). length t) extends.is ∙ length-append names extends.more in
    let within : n < length after = omega (arith, longer, below) in
    ap (λ (o : Option (List ℕ)). is_some o) (slice_get-get_or after n [] within)

-- a table with further names, if there is room, extends a table
abbrev Grows : List (List ℕ) → Table → Type 0
Grows names r = IfOk r (Extends names)

-- one step after another
then-grows : (names : List (List ℕ)) (r : Table) (next : List (List ℕ) → Table) → Grows names r
    → ((between : List (List ℕ)) → Grows between (next between)) → Grows names (r >>= next)
then-grows names (Err fault) next first second = tt
then-grows names (Ok between) next first second = by (next between) (second between)
  where
    by : (r : Table) → Grows between r → Grows names r
    by (Err fault) h = tt
    by (Ok after) h = joins first h

at-grows : {X : Type 0} (o : Option X) (names : List (List ℕ)) (inside : X → Table)
    → ((x : X) → Grows names (inside x)) → Grows names (added_at o names inside)
at-grows None names inside each = stays names
at-grows (Some x) names inside each = each x

added-grows : (names : List (List ℕ)) (text : List ℕ) → Grows names (added names text)
unfolding added
added-grows names text = by (is_name text) (has_room names text)
  where
    by : (name room : Bool)
        → Grows names (if name then (if room then Ok (with_name names text) else Err ReadFault.TooMany)
        else Ok names)
    by true true = with_one names text
    by true false = tt
    by false room = stays names

text-grows : (part : Part) (names : List (List ℕ)) (text : List ℕ)
    → Grows names (text_added part names text)
text-grows parts.Name names text = added-grows names text
text-grows parts.Use names text = added-grows names text
text-grows _ names text = stays names

keys-grow : (names : List (List ℕ)) (ms : Members) → Grows names (keys_added names ms)
keys-grow names no_members = stays names
keys-grow names (member key d ms) =
    then-grows names (added names key) (λ after. keys_added after ms) (added-grows names key)
    (λ between. keys-grow between ms)

object-grows : (names : List (List ℕ)) (ms : Members) (part : Part)
    → ((kind : Kind) → Grows names (members_added names ms kind))
    → Grows names (names_added names (object ms) part)
object-grows names ms parts.Use inside = keys-grow names ms
object-grows names ms part inside =
    at-grows (kind_of part ms) names (λ kind. members_added names ms kind) inside

mutual
  pub names-grow : (d : Data) (names : List (List ℕ)) (part : Part)
      → Grows names (names_added names d part)
  names-grow null names part = stays names
  names-grow (boolean b) names part = stays names
  names-grow (number n) names part = stays names
  names-grow (string text) names part = text-grows part names text
  names-grow (array ds) names part =
      at-grows (named_part part) names (λ inner. items_added names ds inner)
      (λ inner. items-grow ds names inner)
  names-grow (object ms) names part =
      object-grows names ms part (λ kind. members-grow ms names kind)

  items-grow : (ds : Items) (names : List (List ℕ)) (part : Part)
      → Grows names (items_added names ds part)
  items-grow no_items names part = stays names
  items-grow (item d ds) names part =
      then-grows names (names_added names d part) (λ after. items_added after ds part)
      (names-grow d names part) (λ between. items-grow ds between part)

  members-grow : (ms : Members) (names : List (List ℕ)) (kind : Kind)
      → Grows names (members_added names ms kind)
  members-grow no_members names kind = stays names
  members-grow (member key d ms) names kind =
      then-grows names
      (added_at (part_at kind key) names (λ part. names_added names d part))
      (λ after. members_added after ms kind)
      (at-grows (part_at kind key) names (λ part. names_added names d part)
      (λ part. names-grow d names part))
      (λ between. members-grow ms between kind)
