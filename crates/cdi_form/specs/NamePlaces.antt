-- Which texts of a value stand in the place of a name, said apart from any way to look for them.
use Rattle.std.specs.Prelude.{◌≡◌, ℕ, List, Some}
use Rattle.serde_json.specs.Data.{Data, string, array, object, Items, Members}
use Rattle.cdi_form.specs.declared.form.Kind.{Kind}
use Rattle.cdi_form.specs.declared.form.Part.{Part}
use Rattle.cdi_form.specs.declared.form.Part.TheVariants as parts
use Rattle.cdi_form.specs.Form.{part_at, named_part}
use Rattle.cdi_form.specs.Keys.{kind_of}
use Rattle.cdi_form.specs.HasForm.{HasItem, HasMember}

pub data StandsAsName (s : List ℕ) : Part → Data → Type 0 where
  -- the text is the name
  itself : StandsAsName s parts.Name (string s)
  -- it is the name of a use
  used : StandsAsName s parts.Use (string s)
  -- it is the key of a member in a use
  given : (ms : Members) (d : Data) → HasMember ms s d → StandsAsName s parts.Use (object ms)
  -- it is so in an item of an array
  in_items : (part inner : Part) (ds : Items) (d : Data) → named_part part ≡ Some inner
      → HasItem ds d → StandsAsName s inner d
      → StandsAsName s part (array ds)
  -- it is so at a listed key of an object
  in_object : (part inner : Part) (ms : Members) (kind : Kind) (key : List ℕ) (d : Data)
      → kind_of part ms ≡ Some kind
      → HasMember ms key d → part_at kind key ≡ Some inner → StandsAsName s inner d
      → StandsAsName s part (object ms)
