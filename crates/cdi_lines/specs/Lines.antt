-- The lines of bytes: a line feed, byte 10, ends each, and isn't part of it.
use Rattle.std.specs.Prelude.{◌≢◌, ℕ, ◌==◌, All, List, [], ◌∷◌, ◌++◌, if◌then◌else◌}

-- the lines that end in bytes, where the first has begun with these before them
abbrev pub ended_lines : List ℕ → List ℕ → List (List ℕ)
ended_lines begun [] = []
ended_lines begun (byte ∷ bytes) =
    if byte == 10 then begun ∷ ended_lines [] bytes else ended_lines (begun ++ byte ∷ []) bytes

-- and what then stands behind the last line feed
abbrev pub begun_line : List ℕ → List ℕ → List ℕ
begun_line begun [] = begun
begun_line begun (byte ∷ bytes) =
    if byte == 10 then begun_line [] bytes else begun_line (begun ++ byte ∷ []) bytes

-- what stands behind the last line feed is a line too, unless it is empty
abbrev pub last_line : List ℕ → List (List ℕ)
last_line [] = []
last_line (byte ∷ bytes) = (byte ∷ bytes) ∷ []

-- the lines that a line feed ends
abbrev pub complete_lines : List ℕ → List (List ℕ)
complete_lines bytes = ended_lines [] bytes

-- these, and the last one that no line feed ends
abbrev pub all_lines : List ℕ → List (List ℕ)
all_lines bytes = complete_lines bytes ++ last_line (begun_line [] bytes)

-- the lines, one after the other, with a line feed behind each
abbrev pub with_line_feeds : List (List ℕ) → List ℕ
with_line_feeds [] = []
with_line_feeds (line ∷ lines) = line ++ 10 ∷ with_line_feeds lines

-- no line feed stands among the bytes
abbrev pub IsOneLine : List ℕ → Type 0
IsOneLine bytes = All (λ byte. byte ≢ 10) bytes
