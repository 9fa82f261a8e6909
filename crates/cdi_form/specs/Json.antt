-- The JSON value that bytes are, and values that are words.
use Rattle.std.specs.Prelude.{ℕ, List, bytes_eq, Bool, false, Option, None, if◌then◌else◌}
use Rattle.std.specs.Str.{is_utf8}
use Rattle.serde_json.specs.Data.{Data, string}
use Rattle.serde_json.specs.Read.{read}

-- the JSON value of a text in UTF-8
unfoldable pub json_in : List ℕ → Option Data
json_in bytes = if is_utf8 bytes then read bytes else None

-- the value is this text
abbrev pub is_word : Data → List ℕ → Bool
is_word (string text) word = bytes_eq text word
is_word _ word = false
