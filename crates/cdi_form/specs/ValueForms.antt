-- The names, values and uses that a JSON value is: none if it is of another form.
use Rattle.std.specs.Prelude.{ℕ, List, [], ◌∷◌, Option, Some, None, option_map, option_and_then}
use Rattle.cdi_base.specs.declared.uses.WrittenMember.{WrittenMember}
use Rattle.cdi_base.specs.declared.uses.WrittenUse.{WrittenUse}
use Rattle.cdi_base.specs.declared.value.Value.{Value}
use Rattle.cdi_base.specs.declared.value.Value.TheVariants as values
use Rattle.serde_json.specs.Data.{Data, null, number, string, array, object, Items, no_items, item, Members, no_members, member}
use Rattle.serde_json.specs.Find.{as_i64}

-- the text that a value is
abbrev pub text_in : Data → Option (List ℕ)
text_in (string text) = Some text
text_in _ = None

-- null, a whole number of 64 bits or a text
abbrev pub value_in : Data → Option Value
value_in null = Some values.Null
value_in (number n) = option_map values.Int (as_i64 n)
value_in (string text) = Some (values.Text text)
value_in _ = None

-- the members that the keys of an object name, in the order of the keys
abbrev pub members_in : Members → Option (List WrittenMember)
members_in no_members = Some []
members_in (member key d others) =
    option_and_then
    (λ value.
    option_map (λ rest. (record { name = key; value = value }) ∷ rest) (members_in others))
    (value_in d)

-- the use with this name and these members
abbrev pub use_with : Data → Data → Option WrittenUse
use_with (string text) (object ms) =
    option_map (λ members. record { name = text; members = members }) (members_in ms)
use_with _ _ = None

-- just these two items
abbrev pub use_of_items : Items → Option WrittenUse
use_of_items (item name (item members no_items)) = use_with name members
use_of_items _ = None

-- a use: the text of its name, or an array of just that and an object of members
abbrev pub use_in : Data → Option WrittenUse
use_in (string text) = Some (record { name = text; members = [] })
use_in (array ds) = use_of_items ds
use_in _ = None

module _ {X : Type 0} where
  -- what each item is, in their order: none if one is none
  abbrev pub each_in : (Data → Option X) → Items → Option (List X)
  each_in form no_items = Some []
  each_in form (item d ds) = option_and_then
      (λ first. option_map (λ rest. first ∷ rest) (each_in form ds)) (form d)

  -- what the items of an array are
  abbrev pub list_in : (Data → Option X) → Data → Option (List X)
  list_in form (array ds) = each_in form ds
  list_in form _ = None
