-- What passes the tests of a script is read: no fault but that the table of names is full.
use Rattle.std.proofs.Common.{◌≡◌, sym, subst, refl, ℕ, ◌&&◌, Bool, true, false, true≢false, cond, codes, is_some, List, [], ◌∷◌, Option, Some, None, Result, Ok, Err}
use Rattle.std.proofs.lemmas.Bool.{and_parts}
use Rattle.std.specs.List.{find}
use Rattle.std.specs.Option.{option_map_or}
use Rattle.cdi_base.specs.Name.{is_name, has_room}
use Rattle.cdi_base.specs.Reading.{◌>>=◌, Gives, IsFault}
use Rattle.cdi_base.specs.declared.or_memory.OrMemory.{OrMemory}
use Rattle.cdi_base.specs.Uses.{has_names, numbered_use}
use Rattle.cdi_base.specs.declared.act.Via.TheVariants as vias
use Rattle.cdi_base.specs.declared.uses.WrittenUse.{WrittenUse}
use Rattle.cdi_form.specs.ValueForms.{use_in}
use Rattle.cdi_form.specs.Json.{is_word}
use Rattle.serde_json.specs.Data.{Data, null, boolean, number, string, array, object, Items, no_items, item}
use Rattle.serde_json.specs.Find.{as_i64}
use Rattle.cdi_script.specs.declared.fault.ScriptFault.{ScriptFault}
use Rattle.cdi_script.specs.declared.fault.ScriptFault.TheVariants.{BadStep, Full}
use Rattle.cdi_script.specs.declared.part.PartKind.{PartKind}
use Rattle.cdi_script.specs.declared.part.PartKind.TheVariants as parts
use Rattle.cdi_script.specs.declared.part.Parts.{Parts}
use Rattle.cdi_script.specs.declared.step.Step.{Step}
use Rattle.cdi_script.specs.declared.step.StepKind.{StepKind}
use Rattle.cdi_script.specs.Build.{action_as, action_in, step_of}
use Rattle.cdi_script.specs.Expression.{is_pair, is_expression, pair_of, expression_of}
use Rattle.cdi_script.specs.Form.{fits, kind_of, plain_items, is_step, are_steps}
use Rattle.cdi_script.specs.Part.{is_part, are_parts, with_part, with_parts, no_parts}
use Rattle.cdi_script.specs.Qualifier.{is_qualifier, or_full, named_use, qualifier_of}
use Rattle.cdi_script.specs.Reading.{Reads, is_named, named, name_of, count_of, found, all_items, is_array_of, each, array_of}
use Rattle.cdi_script.specs.Step.{row_of, all_kinds}
use Rattle.cdi_script.specs.Term as terms
use Rattle.cdi_script.specs.Via.{is_via_pair, is_via, via_pair_of, via_of, local_of}

abbrev Names : Type 0
Names = List (List ℕ)

-- no fault but that the table is full
abbrev pub IsRead : {X : Type 0} → Reads X → Type 0
IsRead (Ok x) = Unit {0}
IsRead (Err fault) = fault ≡ Full

then : {X Y : Type 0} (r : Reads X) (next : X × Names → Reads Y) → IsRead r → ((x : X × Names) → IsRead (next x)) → IsRead (r >>= next)
then (Ok x) next h more = more x
then (Err fault) next h more = h

-- a test that fails passes nothing
nothing : {A : Type 0} → false ≡ true → A
nothing h = absurd (true≢false (sym h))

either : {X : Type 0} (b : Bool) (x y : Reads X) → (b ≡ true → IsRead x) → (b ≡ false → IsRead y) → IsRead (cond b x y)
either true x y h k = h refl
either false x y h k = k refl

by_room : {X : Type 0} (b : Bool) (x : X × Names) → IsRead (cond b (Ok x) (Err Full))
by_room true x = tt
by_room false x = refl

named-read : (names : Names) (text : List ℕ) → is_name text ≡ true → IsRead (named names text)
unfolding named
named-read names text h = rw h (by_room (has_room names text) _)

name-read : (names : Names) (d : Data) → is_named d ≡ true → IsRead (name_of names d)
name-read names (string text) h = named-read names text h
name-read names null h = nothing h
name-read names (boolean b) h = nothing h
name-read names (number n) h = nothing h
name-read names (array ds) h = nothing h
name-read names (object ms) h = nothing h

found-read : {X Y : Type 0} (make : X → Y) (names : Names) (o : Option X) → is_some o ≡ true → IsRead (found make names o)
found-read make names (Some x) h = tt
found-read make names None h = nothing h

-- the words of a pair, one after another
word_by_word : {X : Type 0} (a b c : Bool) (p q r : Bool) (x y z : Reads X) → (p ≡ true → IsRead x) → (q ≡ true → IsRead y) → (r ≡ true → IsRead z)
    → cond a p (cond b q (cond c r false)) ≡ true → IsRead (cond a x (cond b y (cond c z (Err BadStep))))
word_by_word true b c p q r x y z hx hy hz h = hx h
word_by_word false true c p q r x y z hx hy hz h = hy h
word_by_word false false true p q r x y z hx hy hz h = hz h
word_by_word false false false p q r x y z hx hy hz h = nothing h

pair-read : (names : Names) (word value : Data) → is_pair word value ≡ true → IsRead (pair_of names word value)
unfolding is_pair pair_of
pair-read names word value h =
    word_by_word _ _ _ (is_named value) (is_some (count_of value)) (is_some (count_of value)) _ _ _
    (λ p. then (name_of names value) _ (name-read names value p) (λ x. tt)) (found-read _ names (count_of value)) (found-read _ names (count_of value)) h

abbrev sum_of : Names → Data → Data → Reads terms.Term
sum_of names left right = expression_of names left >>= λ a. expression_of a.1 right >>= λ b. Ok (terms.sum a.0 b.0, b.1)

sum-read : (names : Names) (left right : Data) → IsRead (expression_of names left) → ((after : Names) → IsRead (expression_of after right)) → IsRead (sum_of names left right)
sum-read names left right h more =
    then (expression_of names left) (λ a. expression_of a.1 right >>= λ b. Ok (terms.sum a.0 b.0, b.1)) h
    (λ a. then (expression_of a.1 right) (λ b. Ok (terms.sum a.0 b.0, b.1)) (more a.1) (λ b. tt))

where_true : {X : Type 0} (b : Bool) (x : Reads X) → b ≡ true → IsRead x → IsRead (cond b x (Err BadStep))
where_true true x h read = read
where_true false x h read = nothing h

expression-read : (names : Names) (d : Data) → is_expression d ≡ true → IsRead (expression_of names d)
expression-read names null h = tt
expression-read names (boolean b) h = nothing h
expression-read names (number n) h = found-read _ names (as_i64 n) h
expression-read names (string text) h = tt
expression-read names (array no_items) h = nothing h
expression-read names (array (item word no_items)) h = rw h tt
expression-read names (array (item word (item value no_items))) h = pair-read names word value h
expression-read names (array (item word (item left (item right no_items)))) h =
    let both = and_parts (is_word word (codes "add")) (is_expression left && is_expression right) h in
    let sides = and_parts (is_expression left) (is_expression right) both.1 in
    where_true (is_word word (codes "add")) (sum_of names left right) both.0 (sum-read names left right (expression-read names left sides.0) (λ after. expression-read after right sides.1))
expression-read names (array (item word (item left (item right (item d ds))))) h = nothing h
expression-read names (object ms) h = nothing h

via_pair-read : (names : Names) (word value : Data) → is_via_pair word value ≡ true → IsRead (via_pair_of names word value)
unfolding is_via_pair via_pair_of
via_pair-read names word value h =
    word_by_word (is_word word (codes "field")) (is_word word (codes "param")) (is_word word (codes "local")) (is_named value)
    (is_some (count_of value)) (is_some (count_of value)) (name_of names value >>= λ name. Ok (vias.Field name.0, name.1))
    (found vias.Param names (count_of value)) (found vias.Local names (count_of value))
    (λ p. then (name_of names value) _ (name-read names value p) (λ x. tt))
    (λ p. found-read _ names (count_of value) p) (λ p. found-read _ names (count_of value) p) h

via-read : (names : Names) (d : Data) → is_via d ≡ true → IsRead (via_of names d)
via-read names (array (item word (item value no_items))) h = via_pair-read names word value h
via-read names (array no_items) h = nothing h
via-read names (array (item word no_items)) h = nothing h
via-read names (array (item word (item value (item d ds)))) h = nothing h
via-read names null h = nothing h
via-read names (boolean b) h = nothing h
via-read names (number n) h = nothing h
via-read names (string text) h = nothing h
via-read names (object ms) h = nothing h

full-read : {X : Type 0} (o : Option (X × Names)) → IsRead (or_full o)
full-read (Some x) = tt
full-read None = refl

named_use-read : (names : Names) (o : Option WrittenUse) → option_map_or has_names o false ≡ true → IsRead (named_use names o)
named_use-read names (Some written) h = rw h (full-read (numbered_use names written))
named_use-read names None h = nothing h

qualifier-read : (names : Names) (d : Data) → is_qualifier d ≡ true → IsRead (qualifier_of names d)
qualifier-read names d h = named_use-read names (use_in d) h

module _ {X : Type 0} (test : Data → Bool) (form : Names → Data → Reads X) (read : (names : Names) (d : Data) → test d ≡ true → IsRead (form names d)) where
  each-read : (names : Names) (ds : Items) → all_items test ds ≡ true → IsRead (each form names ds)
  each-read names no_items h = tt
  each-read names (item d ds) h =
      let both = and_parts _ _ h in
      then (form names d) _ (read names d both.0) (λ first. then (each form first.1 ds) _ (each-read first.1 ds both.1) (λ others. tt))

  array-read : (names : Names) (d : Data) → is_array_of test d ≡ true → IsRead (array_of form names d)
  array-read names (array ds) h = each-read names ds h
  array-read names null h = nothing h
  array-read names (boolean b) h = nothing h
  array-read names (number n) h = nothing h
  array-read names (string text) h = nothing h
  array-read names (object ms) h = nothing h

part-read : (kind : PartKind) (read : Parts) (names : Names) (d : Data) → is_part kind d ≡ true → IsRead (with_part read names kind d)
part-read parts.Name read names d h = then (name_of names d) _ (name-read names d h) (λ x. tt)
part-read parts.Via read names d h = then (via_of names d) _ (via-read names d h) (λ x. tt)
part-read parts.Local read names d h = found-read _ names (local_of d) h
part-read parts.Qualifiers read names d h = then (array_of qualifier_of names d) _ (array-read is_qualifier qualifier_of qualifier-read names d h) (λ x. tt)
part-read parts.Value read names d h = then (expression_of names d) _ (expression-read names d h) (λ x. tt)
part-read parts.Values read names d h = then (array_of expression_of names d) _ (array-read is_expression expression_of expression-read names d h) (λ x. tt)

parts-read : (kinds : List PartKind) (read : Parts) (names : Names) (ds : Items) → are_parts kinds ds ≡ true → IsRead (with_parts read names kinds ds)
parts-read [] read names no_items h = tt
parts-read [] read names (item d ds) h = nothing h
parts-read (kind ∷ kinds) read names no_items h = nothing h
parts-read (kind ∷ kinds) read names (item d ds) h =
    let both = and_parts _ _ h in
    then (with_part read names kind d) _ (part-read kind read names d both.0) (λ next. parts-read kinds next.0 next.1 ds both.1)

-- what is found passes
found-passes : {X : Type 0} (p : X → Bool) (xs : List X) (x : X) → find p xs ≡ Some x → p x ≡ true
found-passes p [] x h = cc
found-passes p (y ∷ ys) x h = by (found-passes p ys x) (p y) refl h
  where
    by : (find p ys ≡ Some x → p x ≡ true) → (b : Bool) → p y ≡ b → cond b (Some y) (find p ys) ≡ Some x → p x ≡ true
    by later true e h = cc
    by later false e h = later h

as-read : (kind : StepKind) (names : Names) (ds : Items) → fits (row_of kind) ds ≡ true → IsRead (action_as (Some kind) names ds)
as-read of names no_items h = nothing h
as-read of names (item word ds) h =
    then (with_parts no_parts names (row_of of).parts ds) _ (parts-read (row_of of).parts no_parts names ds (and_parts _ _ h).1) (λ x. tt)

action-read : (names : Names) (ds : Items) → is_some (kind_of ds) ≡ true → IsRead (action_in names ds)
unfolding action_in
action-read names ds h = by (kind_of ds) refl h
  where
    by : (o : Option StepKind) → kind_of ds ≡ o → is_some o ≡ true → IsRead (action_as o names ds)
    by (Some k) e h = as-read k names ds (found-passes (λ other. fits (row_of other) ds) all_kinds k e)
    by None e h = nothing h

step-read : (names : Names) (d : Data) → is_step d ≡ true → IsRead (step_of names d)
step-read names (array ds) h = then (action_in names (plain_items ds)) _ (action-read names (plain_items ds) h) (λ x. tt)
step-read names null h = nothing h
step-read names (boolean b) h = nothing h
step-read names (number n) h = nothing h
step-read names (string text) h = nothing h
step-read names (object ms) h = nothing h

-- steps are read, unless the table of names is full or memory runs out
module _ (names : Names) (ds : Items) where
  pub no_other_fault : {A : Type 0} (fault : ScriptFault) (view : A → List Step × Names) (r : Result A (OrMemory ScriptFault)) → (fault ≡ Full → ⊥)
      → are_steps ds ≡ true → Gives view r (each step_of names ds) → IsFault r fault → ⊥
  no_other_fault fault view r other steps gives h =
      let is_fault : each step_of names ds ≡ Err fault = subst (λ x. Gives view x (each step_of names ds)) h gives in
      other (subst IsRead is_fault (each-read is_step step_of step-read names ds steps))
