-- What is wrong at the first place where a value is not of the form that is wanted.
use Rattle.std.specs.Prelude.{ℕ, ◌+◌, Bool, false, not, List, map, find, decimal, Option, Some, None, option_map, if◌then◌else◌}
use Rattle.std.specs.Option.{is_some, option_or}
use Rattle.serde_json.specs.Data.{Data, null, boolean, number, string, array, object, Items, no_items, item, Members, no_members, member}
use Rattle.cdi_form.specs.declared.form.Kind.{Kind}
use Rattle.cdi_form.specs.declared.form.Part.{Part}
use Rattle.cdi_form.specs.declared.form.Part.TheVariants as parts
use Rattle.cdi_form.specs.Form.{part_at, item_part}
use Rattle.cdi_form.specs.Keys.{is_met, kind_of, kind_word}
use Rattle.cdi_form.specs.Shape.{may_be_null, may_be_mark, may_be_number, may_be_text, may_be_array}
use Rattle.cdi_form.specs.Table.{rows}
use Rattle.cdi_form.specs.Words.{scope_words, member_words}
use Rattle.cdi_form_mistakes.specs.Written.{written_of}
use Rattle.cdi_form_mistakes.specs.UnknownWord.{listed, unknown_word}
use Rattle.cdi_form_mistakes.specs.Mistake.{here, under}
use Rattle.cdi_form_mistakes.specs.declared.mistake.FormMistake.{FormMistake}
use Rattle.cdi_form_mistakes.specs.declared.mistake.FormMistake.TheVariants as mistakes
use Rattle.cdi_form_mistakes.specs.declared.mistake.PlacedMistake.{PlacedMistake}

-- ---- objects themselves

abbrev pub keys : Kind → List (List ℕ)
keys kind = map (λ row. row.key) (rows kind)

abbrev pub scope_texts : List (List ℕ)
scope_texts = map (λ word. word.text) scope_words

abbrev pub member_texts : List (List ℕ)
member_texts = map (λ word. word.text) member_words

-- the first key that is not listed
abbrev pub first_unlisted : Kind → Members → Option (List ℕ)
first_unlisted kind no_members = None
first_unlisted kind (member key d ms) =
    if is_some (part_at kind key) then first_unlisted kind ms else Some key

-- the first key that the kind requires and that is missing
abbrev pub first_missing : Kind → Members → Option (List ℕ)
first_missing kind ms = option_map (λ row. row.key) (find (λ row. not (is_met ms row)) (rows kind))

abbrev pub key_mistake : Kind → Members → Option FormMistake
key_mistake kind ms =
    option_or
    (option_map (λ key. mistakes.UnknownKey (unknown_word key (keys kind)))
    (first_unlisted kind ms))
    (option_map mistakes.MissingKey (first_missing kind ms))

-- a member without a kind
abbrev pub no_kind : Option (List ℕ) → FormMistake
no_kind None = mistakes.NoMemberKind (listed member_texts)
no_kind (Some word) = mistakes.UnknownMemberKind (unknown_word word member_texts)

abbrev pub member_mistake : Members → FormMistake
member_mistake ms = no_kind (kind_word ms)

-- ---- values that may not stand where they do

abbrev pub scope_mistake : List ℕ → FormMistake
scope_mistake text = mistakes.UnknownScope (unknown_word text scope_texts)

abbrev pub wrong_value : Data → Part → FormMistake
wrong_value d part = mistakes.WrongValue (written_of d) part

abbrev pub value_mistake : Data → Part → FormMistake
value_mistake (string text) parts.Scope = scope_mistake text
value_mistake d part = wrong_value d part

abbrev pub mistake_unless : Bool → Data → Part → Option PlacedMistake
mistake_unless fits d part = if fits then None else Some (here (value_mistake d part))

abbrev pub kind_mistake : Members → Data → Part → FormMistake
kind_mistake ms d parts.Member = member_mistake ms
kind_mistake ms d part = value_mistake d part

-- ---- places

-- an object without a kind is wrong itself
abbrev pub in_kind : Option Kind → FormMistake → (Kind → Option PlacedMistake)
    → Option PlacedMistake
in_kind None mistake inside = Some (here mistake)
in_kind (Some kind) mistake inside = inside kind

-- what is wrong with an object itself, or else inside it
abbrev pub or_inside : Option FormMistake → Option PlacedMistake → Option PlacedMistake
or_inside None inside = inside
or_inside (Some mistake) inside = Some (here mistake)

-- there is nothing to look at where no part is known
abbrev pub at_part : Option Part → (Part → Option PlacedMistake) → Option PlacedMistake
at_part None inside = None
at_part (Some part) inside = inside part

-- an object is looked at itself before its members, and members and items are looked at in their order
abbrev mutual
  pub form_mistake : Data → Part → Option PlacedMistake
  form_mistake null part = mistake_unless (may_be_null part) null part
  form_mistake (boolean b) part = mistake_unless (may_be_mark part) (boolean b) part
  form_mistake (number n) part = mistake_unless (may_be_number part n) (number n) part
  form_mistake (string s) part = mistake_unless (may_be_text part s) (string s) part
  form_mistake (array ds) part =
      if may_be_array part (array ds)
      then at_part (item_part part) (λ inner. mistake_in_items ds inner 0)
      else mistake_unless false (array ds) part
  form_mistake (object ms) part =
      in_kind (kind_of part ms) (kind_mistake ms (object ms) part)
      (λ kind. or_inside (key_mistake kind ms) (mistake_in_members ms kind))

  pub mistake_in_items : Items → Part → ℕ → Option PlacedMistake
  mistake_in_items no_items part i = None
  mistake_in_items (item d ds) part i =
      option_or (under (decimal i) (form_mistake d part)) (mistake_in_items ds part (i + 1))

  pub mistake_in_members : Members → Kind → Option PlacedMistake
  mistake_in_members no_members kind = None
  mistake_in_members (member key d ms) kind =
      option_or (under key (at_part (part_at kind key) (λ part. form_mistake d part)))
      (mistake_in_members ms kind)
