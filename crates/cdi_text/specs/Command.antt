-- The command that a line is.
use Rattle.std.specs.Prelude.{ℕ, List, [], ◌∷◌, codes, Option, Some, None, Result, Ok, Err, if◌then◌else◌}
use Rattle.std.specs.List.{list_all}
use Rattle.cdi_base.specs.Name.{is_name}
use Rattle.cdi_base.specs.Reading.{◌>>=◌}
use Rattle.cdi_base.specs.Uses.{has_names}
use Rattle.cdi_base.specs.declared.command.Command.{Command}
use Rattle.cdi_base.specs.declared.command.Command.TheVariants.{Begin, Call, Read, Fire, End, Invalidate, Live, Shutdown}
use Rattle.cdi_base.specs.declared.uses.WrittenUse.{WrittenUse}
use Rattle.cdi_base.specs.declared.value.Value.{Value}
use Rattle.cdi_form.specs.ValueForms.{value_in, use_in, list_in}
use Rattle.cdi_form.specs.Json.{is_word, json_in}
use Rattle.serde_json.specs.Data.{Data, null, string, array, Items, no_items, item}
use Rattle.cdi_text.specs.declared.command.BadLine.{BadLine}

abbrev pub Reads : Type 0 → Type 0
Reads X = Result X BadLine

abbrev pub bad : {X : Type 0} → Reads X
bad = Err (record {})

abbrev pub or_bad : {X : Type 0} → Option X → Reads X
or_bad (Some x) = Ok x
or_bad None = bad

-- a text that is a name
abbrev pub name_of : Data → Reads (List ℕ)
name_of (string text) = if is_name text then Ok text else bad
name_of _ = bad

-- a request may be left out, by null
abbrev pub request_of : Data → Reads (Option (List ℕ))
request_of null = Ok None
request_of d = name_of d >>= λ name. Ok (Some name)

-- null, a whole number of 64 bits or a text
abbrev pub value_of : Data → Reads Value
value_of d = or_bad (value_in d)

-- a list of such
abbrev pub values_of : Data → Reads (List Value)
values_of d = or_bad (list_in value_in d)

-- a list of uses, whose texts in a name's place are names
abbrev pub qualifiers_of : Data → Reads (List WrittenUse)
qualifiers_of d =
    or_bad (list_in use_in d) >>= λ uses. if list_all has_names uses then Ok uses else bad

-- a request, and a session if there is one
abbrev pub begin_of : Items → Reads Command
begin_of (item r no_items) = name_of r >>= λ request. Ok (Begin request None)
begin_of (item r (item s no_items)) = do
  request ← name_of r
  session ← name_of s
  Ok (Begin request (Some session))
begin_of _ = bad

unfoldable pub call_with : Data → Data → Data → Data → Data → Reads Command
call_with r t q m a = do
  request ← request_of r
  bean_type ← name_of t
  qualifiers ← qualifiers_of q
  method ← name_of m
  args ← values_of a
  Ok (Call request bean_type qualifiers method args)

-- a request or null, a type, qualifiers, a method and its values
abbrev pub call_of : Items → Reads Command
call_of (item r (item t (item q (item m (item a no_items))))) = call_with r t q m a
call_of _ = bad

unfoldable pub read_with : Data → Data → Data → Reads Command
read_with r t q = do
  request ← request_of r
  bean_type ← name_of t
  qualifiers ← qualifiers_of q
  Ok (Read request bean_type qualifiers)

-- a request or null, a type and qualifiers
abbrev pub read_of : Items → Reads Command
read_of (item r (item t (item q no_items))) = read_with r t q
read_of _ = bad

unfoldable pub fire_with : Data → Data → Data → Data → Reads Command
fire_with r c q v = do
  request ← request_of r
  class ← name_of c
  qualifiers ← qualifiers_of q
  value ← value_of v
  Ok (Fire request class qualifiers value)

-- a request or null, a class, qualifiers and a value
abbrev pub fire_of : Items → Reads Command
fire_of (item r (item c (item q (item v no_items)))) = fire_with r c q v
fire_of _ = bad

-- one name
abbrev pub name_alone : Items → Reads (List ℕ)
name_alone (item n no_items) = name_of n
name_alone _ = bad

-- no more items
abbrev pub alone : Command → Items → Reads Command
alone command no_items = Ok command
alone command _ = bad

-- the name of a request
abbrev pub end_of : Items → Reads Command
end_of ds = name_alone ds >>= λ request. Ok (End request)

-- the name of a session
abbrev pub invalidate_of : Items → Reads Command
invalidate_of ds = name_alone ds >>= λ session. Ok (Invalidate session)

-- the command with this word, and these items behind it
unfoldable pub command_named : Data → Items → Reads Command
command_named word ds =
    if is_word word (codes "begin") then begin_of ds
    else (if is_word word (codes "call") then call_of ds
    else (if is_word word (codes "read") then read_of ds
    else (if is_word word (codes "fire") then fire_of ds
    else (if is_word word (codes "end") then end_of ds
    else (if is_word word (codes "invalidate") then invalidate_of ds
    else (if is_word word (codes "live") then alone Live ds
    else (if is_word word (codes "shutdown") then alone Shutdown ds else bad)))))))

-- the command that a value is
abbrev pub command_of : Data → Reads Command
command_of (array (item word ds)) = command_named word ds
command_of _ = bad

-- the command that the bytes of a line are
unfoldable pub command_in : List ℕ → Reads Command
command_in bytes = or_bad (json_in bytes) >>= command_of
