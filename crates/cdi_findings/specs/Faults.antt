-- The faults of bytes that can't be read, in words.
use Rattle.std.specs.Prelude.{ℕ, ◌-◌, List, [], codes, length, take, bytes_eq, Result, Ok, Err, if◌then◌else◌}
use Rattle.std.specs.Str.{is_utf8}
use Rattle.cdi_prepare.specs.Ready.{Readied}

-- a line without its last byte, which is the line feed
abbrev pub without_feed : List ℕ → List ℕ
without_feed line = take (length line - 1) line

-- the text of a line
abbrev pub line_text : List ℕ → List ℕ
line_text line = if is_utf8 (without_feed line) then without_feed line else []

-- the text of the line that tells why bytes can't be read; none if they can
abbrev pub fault_name : Result Readied (List ℕ) → List ℕ
fault_name (Ok r) = []
fault_name (Err line) = line_text line

-- why bytes with this fault can't be read, where there is no hint: they are too many, their names or those of a script find no room in
-- the table, or a script has too many steps
abbrev pub unhinted_text : List ℕ → List ℕ
unhinted_text name =
    if bytes_eq name (codes "TooLong") then codes "a deployment has at most 1,048,576 bytes"
    else if bytes_eq name (codes "TooMany") then codes "a deployment has at most 1,048,576 names"
    else codes "a script has at most 256 steps, and at most 1,048,576 names with its deployment"
