-- The entries of a trace, as lines.
use Rattle.std.specs.Prelude.{ℕ, List, [], ◌∷◌, ◌++◌, codes, map, fold, flat_map, Option, Some, None, Bool, true, false}
use Rattle.cdi_base.specs.declared.act.Act.{Act}
use Rattle.cdi_base.specs.declared.act.Act.TheVariants as acts
use Rattle.cdi_base.specs.declared.act.Via.{Via}
use Rattle.cdi_base.specs.declared.act.Via.TheVariants as vias
use Rattle.cdi_base.specs.declared.entry.Entry.{Entry}
use Rattle.cdi_base.specs.declared.entry.Entry.TheVariants as entries
use Rattle.cdi_base.specs.declared.place.Place.{Place}
use Rattle.cdi_base.specs.declared.uses.MemberValue.{MemberValue}
use Rattle.cdi_base.specs.declared.uses.Use.{Use}
use Rattle.cdi_base.specs.declared.value.Value.{Value}
use Rattle.cdi_problems.specs.Places.{name_text, place_text}
use Rattle.cdi_text.specs.ReplyText.{number_data, one, pair, value_data}
use Rattle.serde_json.specs.Data.{Data, Members, array, no_members, object, put, string}
use Rattle.serde_json.specs.View.{items_of}
use Rattle.serde_json.specs.Written.{compact_text}

abbrev pub array_data : List Data → Data
array_data items = array (items_of items)

abbrev pub values_data : List Value → Data
values_data values = array_data (map value_data values)

-- a word, and what comes with it
abbrev pub worded : List ℕ → List Data → Data
worded word items = array_data (string word ∷ items)

abbrev pub proceed_data : Option (List Value) → Data
proceed_data None = one (codes "proceed")
proceed_data (Some args) = pair (codes "proceed") (values_data args)

module _ (names : List (List ℕ)) where
  abbrev pub name_data : ℕ → Data
  name_data name = string (name_text names name)

  abbrev pub place_data : Place → Data
  place_data place = string (place_text names place)

  -- the members of a qualifier, in byte order of their names
  abbrev pub members_data : List MemberValue → Members
  members_data members =
      fold (λ so_far (m : MemberValue). put (name_text names m.name) (value_data m.value) so_far)
      no_members members

  -- a qualifier without members is its name
  abbrev pub use_with : ℕ → List MemberValue → Data
  use_with name [] = name_data name
  use_with name (m ∷ ms) = array_data (name_data name ∷ object (members_data (m ∷ ms)) ∷ [])

  abbrev pub use_data : Use → Data
  use_data u = use_with u.name u.members

  abbrev pub uses_data : List Use → Data
  uses_data uses = array_data (map use_data uses)

  abbrev pub via_data : Via → Data
  via_data (vias.Field field) = pair (codes "field") (name_data field)
  via_data (vias.Param k) = pair (codes "param") (number_data k)
  via_data (vias.Local k) = pair (codes "local") (number_data k)

  -- an act, as the step of a script that gives it is written, with values for expressions
  abbrev pub act_data : Act → Data
  act_data (acts.Set field value) = worded (codes "set") (name_data field ∷ value_data value ∷ [])
  act_data (acts.Call via method args) =
      worded (codes "call") (via_data via ∷ name_data method ∷ values_data args ∷ [])
  act_data (acts.Own method args) =
      worded (codes "own") (name_data method ∷ values_data args ∷ [])
  act_data (acts.Read via) = worded (codes "read") (via_data via ∷ [])
  act_data (acts.Write via value) = worded (codes "write") (via_data via ∷ value_data value ∷ [])
  act_data (acts.Fire class qualifiers value) =
      worded (codes "fire") (name_data class ∷ uses_data qualifiers ∷ value_data value ∷ [])
  act_data (acts.Proceed args) = proceed_data args
  act_data (acts.Find lookup) = worded (codes "find") (number_data lookup ∷ [])
  act_data (acts.Keep key value) = worded (codes "keep") (name_data key ∷ value_data value ∷ [])
  act_data (acts.Peek key) = worded (codes "peek") (name_data key ∷ [])
  act_data (acts.Destroy local) = worded (codes "destroy") (via_data (vias.Local local) ∷ [])
  act_data (acts.Give value) = worded (codes "give") (value_data value ∷ [])
  act_data (acts.Throw exception) = worded (codes "throw") (name_data exception ∷ [])

  -- an entry: its word, and what comes with it
  abbrev pub entry_data : Entry → Data
  entry_data (entries.New number bean) =
      worded (codes "new") (number_data number ∷ place_data bean ∷ [])
  entry_data (entries.Ready number) = worded (codes "ready") (number_data number ∷ [])
  entry_data (entries.Drop number) = worded (codes "drop") (number_data number ∷ [])
  entry_data (entries.Run number member) =
      worded (codes "run") (number_data number ∷ place_data member ∷ [])
  entry_data (entries.Did act) = worded (codes "did") (act_data act ∷ [])
  entry_data (entries.Pick count choice) =
      worded (codes "pick") (number_data count ∷ number_data choice ∷ [])
  entry_data (entries.Event class qualifiers) =
      worded (codes "event") (name_data class ∷ uses_data qualifiers ∷ [])
  entry_data (entries.End number) = worded (codes "end") (number_data number ∷ [])
  entry_data (entries.Gone number) = worded (codes "gone") (number_data number ∷ [])

  abbrev pub entry_line : Entry → List ℕ
  entry_line e = compact_text (entry_data e) ++ 10 ∷ []

  -- one line for each
  abbrev pub trace_lines : List Entry → List ℕ
  trace_lines trace = flat_map entry_line trace

  -- the lines of a trace, if it is shown
  abbrev pub shown_lines : Bool → List Entry → List ℕ
  shown_lines true trace = trace_lines trace
  shown_lines false trace = []
