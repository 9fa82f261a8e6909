-- Texts that come from the user, as they are shown on a terminal.
use Rattle.std.specs.Prelude.{ℕ, ◌==◌, ◌/◌, ◌%◌, ◌&&◌, ◌||◌, Bool, List, [], ◌∷◌, ◌++◌, codes, nat_le, nat_lt, if◌then◌else◌}
use Rattle.std.specs.Char.{digit_char, encode_utf8}
use Rattle.std.specs.List.{flat_map}
use Rattle.std.specs.Str.{chars}

-- a control character: below the blank, or from 127 to 159
abbrev pub is_control : ℕ → Bool
is_control c = nat_lt c 32 || (nat_le 127 c && nat_le c 159)

-- a control character as JSON writes it: by a letter, or by its number
abbrev pub control_text : ℕ → List ℕ
control_text c =
    if c == 8 then codes "\\b"
    else if c == 9 then codes "\\t"
    else if c == 10 then codes "\\n"
    else if c == 12 then codes "\\f"
    else if c == 13 then codes "\\r"
    else codes "\\u00" ++ digit_char (c / 16) ∷ digit_char (c % 16) ∷ []

abbrev pub shown_char : ℕ → List ℕ
shown_char c = if is_control c then control_text c else encode_utf8 c

-- a text whose control characters are written so, and whose others are as they are
abbrev pub shown_name : List ℕ → List ℕ
shown_name text = flat_map shown_char (chars text)
