-- Each number in a value is a whole number of 64 bits with its sign.
use Rattle.std.specs.Prelude.{Bool, true, ◌&&◌}
use Rattle.std.specs.Option.{is_some}
use Rattle.serde_json.specs.Data.{Data, null, boolean, number, string, array, object, Items, no_items, item, Members, no_members, member}
use Rattle.serde_json.specs.Find.{as_i64}

abbrev mutual
  pub numbers_fit : Data → Bool
  numbers_fit null = true
  numbers_fit (boolean b) = true
  numbers_fit (number n) = is_some (as_i64 n)
  numbers_fit (string s) = true
  numbers_fit (array ds) = items_fit ds
  numbers_fit (object ms) = members_fit ms

  pub items_fit : Items → Bool
  items_fit no_items = true
  items_fit (item d ds) = numbers_fit d && items_fit ds

  pub members_fit : Members → Bool
  members_fit no_members = true
  members_fit (member key d ms) = numbers_fit d && members_fit ms
