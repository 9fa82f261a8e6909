-- The first key of a JSON text that stands twice in one object.
use Rattle.std.specs.Prelude.{ℕ, ◌&&◌, Bool, List, [], ◌∷◌, ◌++◌, bytes_eq, codes, drop, is_some, Option, Some, None, if◌then◌else◌}
use Rattle.std.specs.Fmt.{◌++?◌, debug_str}
use Rattle.std.specs.List.{list_any}
use Rattle.std.specs.Option.{option_or}
use Rattle.std.specs.Str.{is_utf8}
use Rattle.json.specs.Json.{document}
use Rattle.json.specs.Lex.{tokens}
use Rattle.json.specs.Token.{Token}
use Rattle.cdi_positions.specs.declared.repeated_keys.RepeatedKey.{RepeatedKey}
use Rattle.cdi_positions.specs.Position.{position_text}

-- the objects that are open, the innermost first, each with its keys so far
abbrev pub Objects : Type 0
Objects = List (List (List ℕ))

abbrev pub is_among : List (List ℕ) → List ℕ → Bool
is_among keys key = list_any (bytes_eq key) keys

-- a key more in the innermost object
abbrev pub with_key : Objects → List ℕ → Objects
with_key [] key = []
with_key (keys ∷ objects) key = (keys ++ key ∷ []) ∷ objects

-- the key, if the innermost object has it already
abbrev pub repeats : Objects → List ℕ → Option (List ℕ)
repeats [] key = None
repeats (keys ∷ objects) key = if is_among keys key then Some key else None

-- the first key of these tokens that stands in its object already
abbrev pub repeated_in : Objects → List Token → Option (List ℕ)
repeated_in objects [] = None
repeated_in objects (Token.begin_object ∷ ts) = repeated_in ([] ∷ objects) ts
repeated_in objects (Token.end_object ∷ ts) = repeated_in (drop 1 objects) ts
repeated_in objects (Token.key key ∷ ts) =
    option_or (repeats objects key) (repeated_in (with_key objects key) ts)
repeated_in objects (_ ∷ ts) = repeated_in objects ts

-- of bytes that are a JSON text
abbrev pub repeated_key : List ℕ → Option (List ℕ)
repeated_key bytes =
    if is_utf8 bytes && is_some (document bytes) then repeated_in [] (tokens bytes) else None

-- the key is quoted with its escapes: what is written is known where it is ASCII
abbrev pub repeated_text : RepeatedKey → Option (List ℕ)
repeated_text r =
    position_text r.position ++? Some (codes ": the key ") ++? debug_str r.key
    ++? Some (codes " stands twice in one object, and only its last value counts")
