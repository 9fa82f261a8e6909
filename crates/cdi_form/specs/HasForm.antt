-- Which values are of the form of a part, said apart from any way to look for it.
use Rattle.std.specs.Prelude.{◌≡◌, ℕ, ◌≤◌, ◌⊎◌, Bool, List, codes, IsTrue, Some}
use Rattle.std.specs.List.{AllPass}
use Rattle.std.specs.Option.{is_some}
use Rattle.cdi_form.specs.ValueForms.{use_in}
use Rattle.serde_json.specs.Data.{Num, unsigned, Data, null, boolean, number, string, array, object, Items, no_items, item, Members, no_members, member}
use Rattle.serde_json.specs.Find.{get_member}
use Rattle.cdi_form.specs.declared.form.Kind.{Kind}
use Rattle.cdi_form.specs.declared.form.Part.{Part}
use Rattle.cdi_form.specs.declared.form.Part.TheVariants as parts
use Rattle.cdi_form.specs.Table.{rows}
use Rattle.cdi_form.specs.Form.{part_at, item_part}
use Rattle.cdi_form.specs.Keys.{is_met}
use Rattle.cdi_form.specs.Words.{scope_named, member_kind}

-- an array has an item
abbrev pub HasItem : Items → Data → Type 0
HasItem no_items d = ⊥
HasItem (item e ds) d = (e ≡ d) ⊎ HasItem ds d

-- an object has a value at a key
abbrev pub HasMember : Members → List ℕ → Data → Type 0
HasMember no_members key d = ⊥
HasMember (member k e ms) key d = ((k ≡ key) × (e ≡ d)) ⊎ HasMember ms key d

-- each key that the kind requires is there
abbrev pub HasRequired : Kind → Members → Type 0
HasRequired kind ms = AllPass (is_met ms) (rows kind)

-- each key that is there is listed
abbrev pub AreListed : Kind → Members → Type 0
AreListed kind ms =
    (key : List ℕ) (d : Data) → HasMember ms key d → IsTrue (is_some (part_at kind key))

-- the key `kind` of a member names a kind
abbrev pub NamesKind : Members → Kind → Type 0
NamesKind ms kind =
    (word : List ℕ) × (get_member (codes "kind") ms ≡ Some (string word))
    × (member_kind word ≡ Some kind)

-- where a use is wanted, there is one
abbrev pub IsLongEnough : Part → Items → Type 0
IsLongEnough parts.SomeUses no_items = ⊥
IsLongEnough _ ds = Unit {0}

-- a value is of the form of a part
pub data HasForm : Part → Data → Type 0 where
  -- the number of the form is 1
  one : HasForm parts.FormNumber (number (unsigned 1))
  -- a name is a text
  name : (s : List ℕ) → HasForm parts.Name (string s)
  -- a value is null, a number or a text
  null_value : HasForm parts.Value null
  number_value : (n : Num) → HasForm parts.Value (number n)
  text_value : (s : List ℕ) → HasForm parts.Value (string s)
  -- a number of arguments is 0 to 8
  count : (n : ℕ) → n ≤ 8 → HasForm parts.ArgumentCount (number (unsigned n))
  -- a mark is true or false
  mark : (b : Bool) → HasForm parts.Mark (boolean b)
  -- a whole number is a number: of which size is looked at before
  whole_number : (n : Num) → HasForm parts.WholeNumber (number n)
  -- a scope is one of its texts
  scope : (s : List ℕ) → IsTrue (is_some (scope_named s))
      → HasForm parts.Scope (string s)
  -- the kind of a member is a text
  kind_text : (s : List ℕ) → HasForm parts.MemberKind (string s)
  -- a use is one
  a_use : (d : Data) → IsTrue (is_some (use_in d)) → HasForm parts.Use d
  -- steps are an array
  steps : (ds : Items) → HasForm parts.Steps (array ds)
  -- a list is an array of what it is a list of
  a_list : (part inner : Part) (ds : Items) → item_part part ≡ Some inner → IsLongEnough part ds
      → ((d : Data) → HasItem ds d → HasForm inner d) → HasForm part (array ds)
  -- an object has each key that its kind requires, only listed keys, and at each key a value of the form of its part
  an_object : (kind : Kind) (ms : Members) → HasRequired kind ms → AreListed kind ms
      → ((key : List ℕ) (d : Data) (part : Part) → HasMember ms key d
      → part_at kind key ≡ Some part → HasForm part d)
      → HasForm (parts.Object kind) (object ms)
  -- a member is an object of the kind that it names
  a_member : (kind : Kind) (ms : Members) → NamesKind ms kind
      → HasForm (parts.Object kind) (object ms)
      → HasForm parts.Member (object ms)
