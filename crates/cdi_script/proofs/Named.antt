-- Each text in the table of names that a script leaves is a name, if those before it are.
use Rattle.std.proofs.Common.{◌≡◌, ◌∙◌, ℕ, Bool, true, false, cond, ◌&&◌, List, [], ◌∷◌, ◌++◌, Option, Some, None, Result, Ok, Err, refl}
use Rattle.std.proofs.lemmas.Bool.{and_parts}
use Rattle.std.proofs.lemmas.List.Folds.{list_all-append}
use Rattle.std.specs.List.{list_all}
use Rattle.std.specs.Prelude.{codes, nat_le, option_map, option_and_then, if◌then◌else◌}
use Rattle.cdi_base.specs.Name.{has_room, is_known, is_name, number_of, with_name}
use Rattle.cdi_base.specs.Reading.{◌>>=◌}
use Rattle.cdi_base.specs.Uses.{has_name, has_names, numbered, numbered_member, numbered_members, numbered_use}
use Rattle.cdi_base.specs.declared.act.Via.TheVariants as vias
use Rattle.cdi_base.specs.declared.uses.MemberValue.{MemberValue}
use Rattle.cdi_base.specs.declared.uses.WrittenMember.{WrittenMember}
use Rattle.cdi_base.specs.declared.uses.WrittenUse.{WrittenUse}
use Rattle.cdi_form.specs.ValueForms.{use_in}
use Rattle.cdi_form.specs.Json.{is_word}
use Rattle.cdi_script.specs.Build.{action_as, action_in, behind_word, script_of, step_of, steps_of}
use Rattle.cdi_script.specs.Expression.{expression_of, pair_of}
use Rattle.cdi_script.specs.Form.{are_steps, kind_of, plain_items}
use Rattle.cdi_script.specs.Part.{no_parts, with_part, with_parts}
use Rattle.cdi_script.specs.Qualifier.{named_use, or_full, qualifier_of}
use Rattle.cdi_script.specs.Reading.{Reads, array_of, count_of, each, found, name_of, named}
use Rattle.cdi_script.specs.Step.{row_of}
use Rattle.cdi_script.specs.Term as terms
use Rattle.cdi_script.specs.Via.{local_of, via_of, via_pair_of}
use Rattle.cdi_script.specs.declared.fault.ScriptFault.TheVariants.{BadStep}
use Rattle.cdi_script.specs.declared.part.PartKind.{PartKind}
use Rattle.cdi_script.specs.declared.part.PartKind.TheVariants.{Name, Via, Local, Qualifiers, Value, Values}
use Rattle.cdi_script.specs.declared.part.Parts.{Parts}
use Rattle.cdi_script.specs.declared.step.StepKind.{StepKind}
use Rattle.serde_json.specs.Data.{Data, null, boolean, number, string, array, object, Items, no_items, item}
use Rattle.serde_json.specs.Events.{items_len}

abbrev pub AreNames : List (List ℕ) → Type 0
AreNames names = list_all is_name names ≡ true

both : (a b : Bool) → a ≡ true → b ≡ true → (a && b) ≡ true
both true b e f = f
both false b e f = absurd cc

-- a name more
pub with-name : (names : List (List ℕ)) (text : List ℕ) → AreNames names → is_name text ≡ true
    → AreNames (with_name names text)
with-name names text are is = by (is_known names text)
  where
    by : (b : Bool) → AreNames (if b then names else names ++ text ∷ [])
    by true = are
    by false =
        list_all-append is_name names (text ∷ [])
        ∙ both (list_all is_name names) (is_name text && true) are (both (is_name text) true is refl)

-- each text in the table that was left is a name
pub data Named {X F : Type 0} : Result (X × List (List ℕ)) F → Type 0 where
  ok : {read : X × List (List ℕ)} → AreNames read.1 → Named (Ok read)
  err : {fault : F} → Named (Err fault)

pub named-on : {X Y F : Type 0} {r : Result (X × List (List ℕ)) F} {next : X × List (List ℕ) → Result (Y × List (List ℕ)) F} → Named r
    → ((read : X × List (List ℕ)) → AreNames read.1 → Named (next read)) → Named (r >>= next)
named-on (Named.ok {read = read} first) rest = rest read first
named-on Named.err rest = Named.err

named-if : {X F : Type 0} (b : Bool) {r s : Result (X × List (List ℕ)) F} → Named r → Named s → Named (if b then r else s)
named-if true g h = g
named-if false g h = h

-- the first if the test passes
named-when : {X F : Type 0} (b : Bool) {r s : Result (X × List (List ℕ)) F} → (b ≡ true → Named r) → Named s → Named (if b then r else s)
named-when true g h = g refl
named-when false g h = h

text-named : (names : List (List ℕ)) (text : List ℕ) → AreNames names → Named (named names text)
unfolding named
text-named names text are =
    named-when (is_name text) (λ is. named-if (has_room names text) (Named.ok (with-name names text are is)) Named.err) Named.err

name-named : (names : List (List ℕ)) (d : Data) → AreNames names → Named (name_of names d)
name-named names null are = Named.err
name-named names (boolean b) are = Named.err
name-named names (number n) are = Named.err
name-named names (string text) are = text-named names text are
name-named names (array ds) are = Named.err
name-named names (object ms) are = Named.err

found-named : {X Y : Type 0} (make : X → Y) (names : List (List ℕ)) (o : Option X) → AreNames names → Named (found make names o)
found-named make names (Some x) are = Named.ok are
found-named make names None are = Named.err

each-named : {X : Type 0} (form : List (List ℕ) → Data → Reads X) → ((names : List (List ℕ)) (d : Data) → AreNames names → Named (form names d))
    → (names : List (List ℕ)) (ds : Items) → AreNames names → Named (each form names ds)
each-named form reads names no_items are = Named.ok are
each-named form reads names (item d ds) are =
    named-on (reads names d are) (λ first h. named-on (each-named form reads first.1 ds h) (λ others k. Named.ok k))

array-named : {X : Type 0} (form : List (List ℕ) → Data → Reads X) → ((names : List (List ℕ)) (d : Data) → AreNames names → Named (form names d))
    → (names : List (List ℕ)) (d : Data) → AreNames names → Named (array_of form names d)
array-named form reads names null are = Named.err
array-named form reads names (boolean b) are = Named.err
array-named form reads names (number n) are = Named.err
array-named form reads names (string text) are = Named.err
array-named form reads names (array ds) are = each-named form reads names ds are
array-named form reads names (object ms) are = Named.err

-- ---- uses

data Numbered {X : Type 0} : Option (X × List (List ℕ)) → Type 0 where
  some : {read : X × List (List ℕ)} → AreNames read.1 → Numbered (Some read)
  none : Numbered None

numbered-on : {X Y : Type 0} {o : Option (X × List (List ℕ))} {next : X × List (List ℕ) → Option (Y × List (List ℕ))} → Numbered o
    → ((read : X × List (List ℕ)) → AreNames read.1 → Numbered (next read)) → Numbered (option_and_then next o)
numbered-on (Numbered.some {read = read} first) rest = rest read first
numbered-on Numbered.none rest = Numbered.none

numbered-made : {X Y : Type 0} {o : Option (X × List (List ℕ))} (make : X → Y) → Numbered o → Numbered (option_map (λ read. (make read.0, read.1)) o)
numbered-made make (Numbered.some first) = Numbered.some first
numbered-made make Numbered.none = Numbered.none

text-numbered : (names : List (List ℕ)) (text : List ℕ) → AreNames names → is_name text ≡ true → Numbered (numbered names text)
text-numbered names text are is = by (has_room names text)
  where
    by : (b : Bool) → Numbered (cond b (Some (number_of names text, with_name names text)) None)
    by true = Numbered.some (with-name names text are is)
    by false = Numbered.none

member-numbered : (names : List (List ℕ)) (m : WrittenMember) → AreNames names → has_name m ≡ true → Numbered (numbered_member names m)
member-numbered names m are is =
    numbered-made (λ (n : ℕ). record { name = n; value = m.value }) (text-numbered names m.name are is)

members-numbered : (names : List (List ℕ)) (ms : List WrittenMember) → AreNames names → list_all has_name ms ≡ true → Numbered (numbered_members names ms)
members-numbered names [] are is = Numbered.some are
members-numbered names (m ∷ ms) are is =
    let each = and_parts (has_name m) (list_all has_name ms) is in
    numbered-on (member-numbered names m are each.0)
    (λ first h. numbered-made (λ (rest : List MemberValue). first.0 ∷ rest) (members-numbered first.1 ms h each.1))

use-numbered : (names : List (List ℕ)) (written : WrittenUse) → AreNames names → has_names written ≡ true → Numbered (numbered_use names written)
use-numbered names written are is =
    let each = and_parts (is_name written.name) (list_all has_name written.members) is in
    numbered-on (text-numbered names written.name are each.0)
    (λ n h. numbered-made (λ (ms : List MemberValue). record { name = n.0; members = ms }) (members-numbered n.1 written.members h each.1))

full-named : {X : Type 0} {o : Option (X × List (List ℕ))} → Numbered o → Named (or_full o)
full-named (Numbered.some g) = Named.ok g
full-named Numbered.none = Named.err

qualifier-named : (names : List (List ℕ)) (d : Data) → AreNames names → Named (qualifier_of names d)
qualifier-named names d are = by (use_in d)
  where
    by : (o : Option WrittenUse) → Named (named_use names o)
    by (Some written) = named-when (has_names written) (λ is. full-named (use-numbered names written are is)) Named.err
    by None = Named.err

-- ---- references and expressions

via-pair-named : (names : List (List ℕ)) (word value : Data) → AreNames names → Named (via_pair_of names word value)
unfolding via_pair_of
via-pair-named names word value are =
    named-if _ (named-on (name-named names value are) (λ name h. Named.ok h))
    (named-if (is_word word (codes "param")) (found-named vias.Param names (count_of value) are)
    (named-if (is_word word (codes "local")) (found-named vias.Local names (count_of value) are) (Named.err {fault = BadStep})))

via-named : (names : List (List ℕ)) (d : Data) → AreNames names → Named (via_of names d)
via-named names null are = Named.err
via-named names (boolean b) are = Named.err
via-named names (number n) are = Named.err
via-named names (string text) are = Named.err
via-named names (array no_items) are = Named.err
via-named names (array (item word no_items)) are = Named.err
via-named names (array (item word (item value no_items))) are = via-pair-named names word value are
via-named names (array (item word (item value (item more ds)))) are = Named.err
via-named names (object ms) are = Named.err

pair-named : (names : List (List ℕ)) (word value : Data) → AreNames names → Named (pair_of names word value)
unfolding pair_of
pair-named names word value are =
    named-if _ (named-on (name-named names value are) (λ name h. Named.ok h))
    (named-if (is_word word (codes "arg")) (found-named terms.argument names (count_of value) are)
    (named-if (is_word word (codes "ans")) (found-named terms.answer names (count_of value) are) (Named.err {fault = BadStep})))

expression-named : (names : List (List ℕ)) (d : Data) → AreNames names → Named (expression_of names d)
expression-named names null are = Named.ok are
expression-named names (boolean b) are = Named.err
expression-named names (number n) are = found-named _ names _ are
expression-named names (string text) are = Named.ok are
expression-named names (array no_items) are = Named.err
expression-named names (array (item word no_items)) are = named-if _ (Named.ok are) Named.err
expression-named names (array (item word (item value no_items))) are = pair-named names word value are
expression-named names (array (item word (item left (item right no_items)))) are =
    named-if _
    (named-on (expression-named names left are) (λ a h. named-on (expression-named a.1 right h) (λ b k. Named.ok k)))
    Named.err
expression-named names (array (item word (item left (item right (item more ds))))) are = Named.err
expression-named names (object ms) are = Named.err

-- ---- steps

part-named : (parts : Parts) (names : List (List ℕ)) (kind : PartKind) (d : Data) → AreNames names → Named (with_part parts names kind d)
part-named parts names Name d are = named-on (name-named names d are) (λ read h. Named.ok h)
part-named parts names Via d are = named-on (via-named names d are) (λ read h. Named.ok h)
part-named parts names Local d are = found-named _ names (local_of d) are
part-named parts names Qualifiers d are =
    named-on (array-named qualifier_of qualifier-named names d are) (λ read h. Named.ok h)
part-named parts names Value d are = named-on (expression-named names d are) (λ read h. Named.ok h)
part-named parts names Values d are =
    named-on (array-named expression_of expression-named names d are) (λ read h. Named.ok h)

parts-named : (parts : Parts) (names : List (List ℕ)) (kinds : List PartKind) (ds : Items) → AreNames names → Named (with_parts parts names kinds ds)
parts-named parts names [] no_items are = Named.ok are
parts-named parts names [] (item d ds) are = Named.ok are
parts-named parts names (kind ∷ kinds) no_items are = Named.ok are
parts-named parts names (kind ∷ kinds) (item d ds) are =
    named-on (part-named parts names kind d are) (λ read h. parts-named read.0 read.1 kinds ds h)

action-named : (names : List (List ℕ)) (kind : Option StepKind) (items : Items) → AreNames names → Named (action_as kind names items)
action-named names (Some kind) items are =
    named-on (parts-named no_parts names (row_of kind).parts (behind_word items) are) (λ read h. Named.ok h)
action-named names None items are = Named.err

action-in-named : (names : List (List ℕ)) (items : Items) → AreNames names → Named (action_in names items)
unfolding action_in
action-in-named names items are = action-named names (kind_of items) items are

step-named : (names : List (List ℕ)) (d : Data) → AreNames names → Named (step_of names d)
step-named names null are = Named.err
step-named names (boolean b) are = Named.err
step-named names (number n) are = Named.err
step-named names (string text) are = Named.err
step-named names (array items) are =
    named-on (action-in-named names (plain_items items) are) (λ read h. Named.ok h)
step-named names (object ms) are = Named.err

steps-named : (names : List (List ℕ)) (items : Items) → AreNames names → Named (steps_of names items)
steps-named names items are =
    named-if (are_steps items)
    (named-if (nat_le (items_len items) 256) (each-named step_of step-named names items are) Named.err) Named.err

pub script-named : (names : List (List ℕ)) (d : Data) → AreNames names → Named (script_of names d)
script-named names null are = Named.err
script-named names (boolean b) are = Named.err
script-named names (number n) are = Named.err
script-named names (string text) are = Named.err
script-named names (array items) are = steps-named names items are
script-named names (object ms) are = Named.err
