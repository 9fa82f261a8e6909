-- The first number that is no whole number of 64 bits.
use Rattle.std.specs.Prelude.{ℕ, ◌+◌, decimal, Option, Some, None, if◌then◌else◌}
use Rattle.std.specs.Option.{is_some, option_or}
use Rattle.serde_json.specs.Data.{Num, Data, null, boolean, number, string, array, object, Items, no_items, item, Members, no_members, member}
use Rattle.serde_json.specs.Find.{as_i64}
use Rattle.cdi_form_mistakes.specs.Mistake.{here, under}
use Rattle.cdi_form_mistakes.specs.declared.mistake.FormMistake.TheVariants as mistakes
use Rattle.cdi_form_mistakes.specs.declared.mistake.PlacedMistake.{PlacedMistake}

abbrev pub not_whole : Num → Option PlacedMistake
not_whole n = if is_some (as_i64 n) then None else Some (here (mistakes.NotWhole n))

abbrev mutual
  pub number_mistake : Data → Option PlacedMistake
  number_mistake null = None
  number_mistake (boolean b) = None
  number_mistake (number n) = not_whole n
  number_mistake (string s) = None
  number_mistake (array ds) = number_in_items ds 0
  number_mistake (object ms) = number_in_members ms

  pub number_in_items : Items → ℕ → Option PlacedMistake
  number_in_items no_items i = None
  number_in_items (item d ds) i =
      option_or (under (decimal i) (number_mistake d)) (number_in_items ds (i + 1))

  pub number_in_members : Members → Option PlacedMistake
  number_in_members no_members = None
  number_in_members (member key d ms) =
      option_or (under key (number_mistake d)) (number_in_members ms)
