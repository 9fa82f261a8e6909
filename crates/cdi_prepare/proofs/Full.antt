-- The lists of a value are read unless the table of names is full.
use Rattle.std.proofs.Common.{Bool, true, false, ℕ, List, Option, Some, None, Result, Ok, Err, if◌then◌else◌}
use Rattle.cdi_base.specs.BuiltIn.{built_in_names}
use Rattle.cdi_base.specs.Name.{is_name, has_room, with_name}
use Rattle.cdi_base.specs.Reading.{◌>>=◌}
use Rattle.serde_json.specs.Data.{Data, null, boolean, number, string, array, object, Items, no_items, item, Members, no_members, member}
use Rattle.cdi_form.specs.declared.form.Kind.{Kind}
use Rattle.cdi_form.specs.declared.form.Part.{Part}
use Rattle.cdi_form.specs.declared.form.Part.TheVariants as parts
use Rattle.cdi_form.specs.Form.{part_at, named_part}
use Rattle.cdi_form.specs.Keys.{kind_of}
use Rattle.cdi_deploy.specs.declared.fault.ReadFault.{ReadFault}
use Rattle.cdi_deploy.specs.declared.fault.ReadFault.TheVariants as faults
use Rattle.cdi_deploy.specs.Naming.{Table, added, text_added, keys_added, added_at, names_added, items_added, members_added}
use Rattle.cdi_deploy.specs.Reading.{lists_of, root}

abbrev pub IsFull : ReadFault → Type 0
IsFull faults.TooMany = Unit {0}
IsFull _ = ⊥

-- a full table is the only fault
abbrev pub OnlyFull : {X : Type 0} → Result X ReadFault → Type 0
OnlyFull (Ok x) = Unit {0}
OnlyFull (Err fault) = IsFull fault

then_full : {A B : Type 0} (r : Result A ReadFault) (next : A → Result B ReadFault) → OnlyFull r → ((x : A) → OnlyFull (next x)) → OnlyFull (r >>= next)
then_full (Ok x) next h step = step x
then_full (Err fault) next h step = h

added_full : (names : List (List ℕ)) (text : List ℕ) → OnlyFull (added names text)
unfolding added
added_full names text = by (is_name text) (has_room names text)
  where
    by : (name room : Bool) → OnlyFull (if name then (if room then Ok (with_name names text) else Err ReadFault.TooMany) else Ok names)
    by true true = tt
    by true false = tt
    by false room = tt

text_full : (part : Part) (names : List (List ℕ)) (s : List ℕ) → OnlyFull (text_added part names s)
text_full parts.Name names s = added_full names s
text_full parts.Use names s = added_full names s
text_full _ names s = tt

keys_full : (names : List (List ℕ)) (ms : Members) → OnlyFull (keys_added names ms)
keys_full names no_members = tt
keys_full names (member key d ms) = then_full (added names key) _ (added_full names key) (λ after. keys_full after ms)

at_full : {X : Type 0} (o : Option X) (names : List (List ℕ)) (inside : X → Table) → ((x : X) → OnlyFull (inside x)) → OnlyFull (added_at o names inside)
at_full None names inside h = tt
at_full (Some x) names inside h = h x

mutual
  names_full : (names : List (List ℕ)) (d : Data) (part : Part) → OnlyFull (names_added names d part)
  names_full names null part = tt
  names_full names (boolean b) part = tt
  names_full names (number n) part = tt
  names_full names (string s) part = text_full part names s
  names_full names (array ds) part = at_full (named_part part) names (λ inner. items_added names ds inner) (λ inner. items_full names ds inner)
  names_full names (object ms) parts.Use = keys_full names ms
  names_full names (object ms) part =
      at_full (kind_of part ms) names (λ kind. members_added names ms kind) (λ kind. members_full names ms kind)

  items_full : (names : List (List ℕ)) (ds : Items) (part : Part) → OnlyFull (items_added names ds part)
  items_full names no_items part = tt
  items_full names (item d ds) part = then_full (names_added names d part) _ (names_full names d part) (λ after. items_full after ds part)

  members_full : (names : List (List ℕ)) (ms : Members) (kind : Kind) → OnlyFull (members_added names ms kind)
  members_full names no_members kind = tt
  members_full names (member key d ms) kind =
      then_full (added_at (part_at kind key) names (λ part. names_added names d part)) _
      (at_full (part_at kind key) names (λ part. names_added names d part) (λ part. names_full names d part))
      (λ after. members_full after ms kind)

pub lists_full : (d : Data) → OnlyFull (lists_of d)
unfolding lists_of
lists_full d = then_full (names_added built_in_names d root) _ (names_full built_in_names d root) (λ names. tt)
