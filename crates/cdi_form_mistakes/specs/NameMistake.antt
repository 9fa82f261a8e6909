-- The first text in the place of a name that is none, with its place.
use Rattle.std.specs.Prelude.{ℕ, ◌+◌, List, decimal, Option, None, option_map, option_and_then}
use Rattle.std.specs.Option.{option_or}
use Rattle.serde_json.specs.Data.{Data, string, array, object, Items, no_items, item, Members, no_members, member}
use Rattle.cdi_form.specs.declared.form.Kind.{Kind}
use Rattle.cdi_form.specs.declared.form.Part.{Part}
use Rattle.cdi_form.specs.declared.form.Part.TheVariants as parts
use Rattle.cdi_form.specs.Form.{part_at, named_part}
use Rattle.cdi_form.specs.Keys.{kind_of}
use Rattle.cdi_form.specs.Names.{bad_text, first_bad_key}
use Rattle.cdi_form_mistakes.specs.Mistake.{here, under}
use Rattle.cdi_form_mistakes.specs.declared.mistake.FormMistake.TheVariants as mistakes
use Rattle.cdi_form_mistakes.specs.declared.mistake.PlacedMistake.{PlacedMistake}

-- a text that is no name, where it stands itself
abbrev pub no_name : Option (List ℕ) → Option PlacedMistake
no_name text = option_map (λ s. here (mistakes.NoName s)) text

-- there is none where no part or no kind is known
abbrev mutual
  pub name_mistake : Data → Part → Option PlacedMistake
  name_mistake (string s) part = no_name (bad_text part s)
  name_mistake (array ds) part = option_and_then (λ inner. name_in_items ds inner 0)
      (named_part part)
  name_mistake (object ms) parts.Use = no_name (first_bad_key ms)
  name_mistake (object ms) part = option_and_then
      (λ kind. name_in_members ms kind) (kind_of part ms)
  name_mistake _ part = None

  pub name_in_items : Items → Part → ℕ → Option PlacedMistake
  name_in_items no_items part i = None
  name_in_items (item d ds) part i =
      option_or (under (decimal i) (name_mistake d part)) (name_in_items ds part (i + 1))

  pub name_in_members : Members → Kind → Option PlacedMistake
  name_in_members no_members kind = None
  name_in_members (member key d ms) kind =
      option_or (under key (option_and_then (λ part. name_mistake d part) (part_at kind key)))
      (name_in_members ms kind)
