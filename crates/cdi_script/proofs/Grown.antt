-- A script that is read leaves a table of names that begins with the names before it.
use Rattle.std.proofs.Common.{ℕ, Bool, true, false, cond, List, [], ◌∷◌, Option, Some, None, Ok, Err}
use Rattle.std.specs.Prelude.{codes, nat_le, option_map, option_and_then, if◌then◌else◌}
use Rattle.cdi_base.specs.Name.{Extends, has_room, is_name, number_of, with_name}
use Rattle.cdi_base.proofs.Tables.{stays, joins, with_one}
use Rattle.cdi_base.specs.Reading.{◌>>=◌}
use Rattle.cdi_base.specs.Uses.{has_names, numbered, numbered_member, numbered_members, numbered_use}
use Rattle.cdi_base.specs.declared.uses.MemberValue.{MemberValue}
use Rattle.cdi_base.specs.declared.uses.WrittenMember.{WrittenMember}
use Rattle.cdi_base.specs.declared.uses.WrittenUse.{WrittenUse}
use Rattle.cdi_base.specs.declared.act.Via.TheVariants as vias
use Rattle.cdi_form.specs.ValueForms.{use_in}
use Rattle.cdi_form.specs.Json.{is_word}
use Rattle.cdi_script.specs.declared.fault.ScriptFault.{ScriptFault}
use Rattle.cdi_script.specs.Term as terms
use Rattle.cdi_script.specs.declared.fault.ScriptFault.TheVariants.{BadStep}
use Rattle.cdi_script.specs.declared.part.PartKind.{PartKind}
use Rattle.cdi_script.specs.declared.part.PartKind.TheVariants.{Name, Via, Local, Qualifiers, Value, Values}
use Rattle.cdi_script.specs.declared.part.Parts.{Parts}
use Rattle.cdi_script.specs.declared.step.StepKind.{StepKind}
use Rattle.cdi_script.specs.Build.{action_as, action_in, behind_word, script_of, step_of, steps_of}
use Rattle.cdi_script.specs.Expression.{expression_of, pair_of}
use Rattle.cdi_script.specs.Form.{are_steps, kind_of, plain_items}
use Rattle.cdi_script.specs.Part.{no_parts, with_part, with_parts}
use Rattle.cdi_script.specs.Qualifier.{named_use, or_full, qualifier_of}
use Rattle.cdi_script.specs.Reading.{Reads, array_of, count_of, each, found, name_of, named}
use Rattle.cdi_script.specs.Step.{row_of}
use Rattle.cdi_script.specs.Via.{local_of, via_of, via_pair_of}
use Rattle.serde_json.specs.Data.{Data, null, boolean, number, string, array, object, Items, no_items, item}
use Rattle.serde_json.specs.Events.{items_len}

-- what was read left a table that begins with these names
pub data Grows {X : Type 0} (names : List (List ℕ)) : Reads X → Type 0 where
  ok : {read : X × List (List ℕ)} → Extends names read.1 → Grows names (Ok read)
  err : {fault : ScriptFault} → Grows names (Err fault)

keeps : {X : Type 0} {x : X} (names : List (List ℕ)) → Grows names (Ok (x, names))
keeps names = Grows.ok (stays names)

-- so does what is read behind it
grows-more : {X : Type 0} {names table : List (List ℕ)} {r : Reads X} → Extends names table → Grows table r → Grows names r
grows-more first (Grows.ok rest) = Grows.ok (joins first rest)
grows-more first Grows.err = Grows.err

grows-on : {X Y : Type 0} {names : List (List ℕ)} {r : Reads X} {next : X × List (List ℕ) → Reads Y} → Grows names r
    → ((read : X × List (List ℕ)) → Grows read.1 (next read)) → Grows names (r >>= next)
grows-on (Grows.ok {read = read} first) rest = grows-more first (rest read)
grows-on Grows.err rest = Grows.err

grows-if : {X : Type 0} {names : List (List ℕ)} (b : Bool) {r s : Reads X} → Grows names r → Grows names s → Grows names (if b then r else s)
grows-if true g h = g
grows-if false g h = h

named-grows : (names : List (List ℕ)) (text : List ℕ) → Grows names (named names text)
unfolding named
named-grows names text =
    grows-if (is_name text) (grows-if (has_room names text) (Grows.ok (with_one names text)) Grows.err) Grows.err

name-grows : (names : List (List ℕ)) (d : Data) → Grows names (name_of names d)
name-grows names null = Grows.err
name-grows names (boolean b) = Grows.err
name-grows names (number n) = Grows.err
name-grows names (string text) = named-grows names text
name-grows names (array ds) = Grows.err
name-grows names (object ms) = Grows.err

found-grows : {X Y : Type 0} (make : X → Y) (names : List (List ℕ)) (o : Option X) → Grows names (found make names o)
found-grows make names (Some x) = keeps names
found-grows make names None = Grows.err

each-grows : {X : Type 0} (form : List (List ℕ) → Data → Reads X) → ((names : List (List ℕ)) (d : Data) → Grows names (form names d))
    → (names : List (List ℕ)) (ds : Items) → Grows names (each form names ds)
each-grows form grows names no_items = keeps names
each-grows form grows names (item d ds) =
    grows-on (grows names d) (λ first. grows-on (each-grows form grows first.1 ds) (λ others. keeps others.1))

array-grows : {X : Type 0} (form : List (List ℕ) → Data → Reads X) → ((names : List (List ℕ)) (d : Data) → Grows names (form names d))
    → (names : List (List ℕ)) (d : Data) → Grows names (array_of form names d)
array-grows form grows names null = Grows.err
array-grows form grows names (boolean b) = Grows.err
array-grows form grows names (number n) = Grows.err
array-grows form grows names (string text) = Grows.err
array-grows form grows names (array ds) = each-grows form grows names ds
array-grows form grows names (object ms) = Grows.err

-- ---- uses

-- what was numbered left such a table
data Numbers {X : Type 0} (names : List (List ℕ)) : Option (X × List (List ℕ)) → Type 0 where
  some : {read : X × List (List ℕ)} → Extends names read.1 → Numbers names (Some read)
  none : Numbers names None

numbers-more : {X : Type 0} {names table : List (List ℕ)} {o : Option (X × List (List ℕ))} → Extends names table → Numbers table o → Numbers names o
numbers-more first (Numbers.some rest) = Numbers.some (joins first rest)
numbers-more first Numbers.none = Numbers.none

numbers-on : {X Y : Type 0} {names : List (List ℕ)} {o : Option (X × List (List ℕ))} {next : X × List (List ℕ) → Option (Y × List (List ℕ))} → Numbers names o
    → ((read : X × List (List ℕ)) → Numbers read.1 (next read)) → Numbers names (option_and_then next o)
numbers-on (Numbers.some {read = read} first) rest = numbers-more first (rest read)
numbers-on Numbers.none rest = Numbers.none

numbers-made : {X Y : Type 0} {names : List (List ℕ)} {o : Option (X × List (List ℕ))} (make : X → Y) → Numbers names o → Numbers names (option_map (λ read. (make read.0, read.1)) o)
numbers-made make (Numbers.some first) = Numbers.some first
numbers-made make Numbers.none = Numbers.none

numbered-grows : (names : List (List ℕ)) (text : List ℕ) → Numbers names (numbered names text)
numbered-grows names text = by (has_room names text)
  where
    by : (b : Bool) → Numbers names (cond b (Some (number_of names text, with_name names text)) None)
    by true = Numbers.some (with_one names text)
    by false = Numbers.none

member-grows : (names : List (List ℕ)) (m : WrittenMember) → Numbers names (numbered_member names m)
member-grows names m =
    numbers-made (λ (n : ℕ). record { name = n; value = m.value }) (numbered-grows names m.name)

members-grow : (names : List (List ℕ)) (ms : List WrittenMember) → Numbers names (numbered_members names ms)
members-grow names [] = Numbers.some (stays names)
members-grow names (m ∷ ms) =
    numbers-on (member-grows names m) (λ first. numbers-made (λ (rest : List MemberValue). first.0 ∷ rest) (members-grow first.1 ms))

use-grows : (names : List (List ℕ)) (written : WrittenUse) → Numbers names (numbered_use names written)
use-grows names written =
    numbers-on (numbered-grows names written.name)
    (λ n. numbers-made (λ (ms : List MemberValue). record { name = n.0; members = ms }) (members-grow n.1 written.members))

full-grows : {X : Type 0} {names : List (List ℕ)} {o : Option (X × List (List ℕ))} → Numbers names o → Grows names (or_full o)
full-grows (Numbers.some g) = Grows.ok g
full-grows Numbers.none = Grows.err

qualifier-grows : (names : List (List ℕ)) (d : Data) → Grows names (qualifier_of names d)
qualifier-grows names d = by (use_in d)
  where
    by : (o : Option WrittenUse) → Grows names (named_use names o)
    by (Some written) = grows-if (has_names written) (full-grows (use-grows names written)) Grows.err
    by None = Grows.err

-- ---- references and expressions

via-pair-grows : (names : List (List ℕ)) (word value : Data) → Grows names (via_pair_of names word value)
unfolding via_pair_of
via-pair-grows names word value =
    grows-if _ (grows-on (name-grows names value) (λ name. keeps name.1))
    (grows-if (is_word word (codes "param")) (found-grows vias.Param names (count_of value))
    (grows-if (is_word word (codes "local")) (found-grows vias.Local names (count_of value)) (Grows.err {fault = BadStep})))

via-grows : (names : List (List ℕ)) (d : Data) → Grows names (via_of names d)
via-grows names null = Grows.err
via-grows names (boolean b) = Grows.err
via-grows names (number n) = Grows.err
via-grows names (string text) = Grows.err
via-grows names (array no_items) = Grows.err
via-grows names (array (item word no_items)) = Grows.err
via-grows names (array (item word (item value no_items))) = via-pair-grows names word value
via-grows names (array (item word (item value (item more ds)))) = Grows.err
via-grows names (object ms) = Grows.err

pair-grows : (names : List (List ℕ)) (word value : Data) → Grows names (pair_of names word value)
unfolding pair_of
pair-grows names word value =
    grows-if _ (grows-on (name-grows names value) (λ name. keeps name.1))
    (grows-if (is_word word (codes "arg")) (found-grows terms.argument names (count_of value))
    (grows-if (is_word word (codes "ans")) (found-grows terms.answer names (count_of value)) (Grows.err {fault = BadStep})))

expression-grows : (names : List (List ℕ)) (d : Data) → Grows names (expression_of names d)
expression-grows names null = keeps names
expression-grows names (boolean b) = Grows.err
expression-grows names (number n) = found-grows _ names _
expression-grows names (string text) = keeps names
expression-grows names (array no_items) = Grows.err
expression-grows names (array (item word no_items)) = grows-if _ (keeps names) Grows.err
expression-grows names (array (item word (item value no_items))) = pair-grows names word value
expression-grows names (array (item word (item left (item right no_items)))) =
    grows-if _
    (grows-on (expression-grows names left) (λ a. grows-on (expression-grows a.1 right) (λ b. keeps b.1)))
    Grows.err
expression-grows names (array (item word (item left (item right (item more ds))))) = Grows.err
expression-grows names (object ms) = Grows.err

-- ---- steps

part-grows : (parts : Parts) (names : List (List ℕ)) (kind : PartKind) (d : Data) → Grows names (with_part parts names kind d)
part-grows parts names Name d = grows-on (name-grows names d) (λ read. keeps read.1)
part-grows parts names Via d = grows-on (via-grows names d) (λ read. keeps read.1)
part-grows parts names Local d = found-grows _ names (local_of d)
part-grows parts names Qualifiers d =
    grows-on (array-grows qualifier_of qualifier-grows names d) (λ read. keeps read.1)
part-grows parts names Value d = grows-on (expression-grows names d) (λ read. keeps read.1)
part-grows parts names Values d =
    grows-on (array-grows expression_of expression-grows names d) (λ read. keeps read.1)

parts-grow : (parts : Parts) (names : List (List ℕ)) (kinds : List PartKind) (ds : Items) → Grows names (with_parts parts names kinds ds)
parts-grow parts names [] no_items = keeps names
parts-grow parts names [] (item d ds) = keeps names
parts-grow parts names (kind ∷ kinds) no_items = keeps names
parts-grow parts names (kind ∷ kinds) (item d ds) =
    grows-on (part-grows parts names kind d) (λ read. parts-grow read.0 read.1 kinds ds)

action-grows : (names : List (List ℕ)) (kind : Option StepKind) (items : Items) → Grows names (action_as kind names items)
action-grows names (Some kind) items =
    grows-on (parts-grow no_parts names (row_of kind).parts (behind_word items)) (λ read. keeps read.1)
action-grows names None items = Grows.err

action-in-grows : (names : List (List ℕ)) (items : Items) → Grows names (action_in names items)
unfolding action_in
action-in-grows names items = action-grows names (kind_of items) items

step-grows : (names : List (List ℕ)) (d : Data) → Grows names (step_of names d)
step-grows names null = Grows.err
step-grows names (boolean b) = Grows.err
step-grows names (number n) = Grows.err
step-grows names (string text) = Grows.err
step-grows names (array items) =
    grows-on (action-in-grows names (plain_items items)) (λ read. keeps read.1)
step-grows names (object ms) = Grows.err

steps-grow : (names : List (List ℕ)) (items : Items) → Grows names (steps_of names items)
steps-grow names items =
    grows-if (are_steps items)
    (grows-if (nat_le (items_len items) 256) (each-grows step_of step-grows names items) Grows.err) Grows.err

-- the table that a script leaves begins with the names before it
pub script-grows : (names : List (List ℕ)) (d : Data) → Grows names (script_of names d)
script-grows names null = Grows.err
script-grows names (boolean b) = Grows.err
script-grows names (number n) = Grows.err
script-grows names (string text) = Grows.err
script-grows names (array items) = steps-grow names items
script-grows names (object ms) = Grows.err
