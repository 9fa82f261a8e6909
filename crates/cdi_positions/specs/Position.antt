-- Where something stands in a text.
use Rattle.std.specs.Prelude.{◌≡◌, ℕ, ◌+◌, ◌==◌, List, [], ◌∷◌, ◌++◌, codes, decimal, take, Option, Some, if◌then◌else◌}
use Rattle.cdi_positions.specs.declared.position.Position.{Position}

-- the position of what follows bytes that begin at a line and a column
abbrev pub position_from : ℕ → ℕ → List ℕ → Position
position_from line column [] = record { line = line; column = column }
position_from line column (byte ∷ bytes) =
    if byte == 10 then position_from (line + 1) 1 bytes else position_from line (column + 1) bytes

-- the position of what follows bytes, both counted from 1
abbrev pub position_after : List ℕ → Position
position_after front = position_from 1 1 front

-- the position of some byte of a text, or of its end
abbrev pub IsPositionIn : List ℕ → Position → Type 0
IsPositionIn text position = (offset : ℕ) × (position ≡ position_after (take offset text))

abbrev pub position_text : Position → Option (List ℕ)
position_text p =
    Some (codes "line " ++ (decimal p.line ++ (codes ", column " ++ decimal p.column)))
