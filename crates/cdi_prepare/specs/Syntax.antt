-- What is wrong with bytes that are no JSON text, and where they stop being one.
use Rattle.std.specs.Prelude.{◌≡◌, ℕ, ◌==◌, List, [], ◌∷◌, length, take, nat_eq, Bool, Option, Some, IsSome, if◌then◌else◌}
use Rattle.std.specs.Bool.{MatchBool}
use Rattle.std.specs.List.{starts_with}
use Rattle.std.specs.Str.{is_utf8}
use Rattle.std.specs.Str.Lossy.{utf8_valid_len}
use Rattle.cdi_positions.specs.declared.position.Position.{Position}
use Rattle.cdi_positions.specs.Position.{position_after}
use Rattle.cdi_prepare.specs.declared.hint.Hint.{Hint}
use Rattle.cdi_prepare.specs.declared.hint.Mistake.{Mistake}
use Rattle.cdi_prepare.specs.declared.hint.Mistake.TheVariants as mistakes

-- the byte order mark in UTF-8
abbrev pub has_mark : List ℕ → Bool
has_mark bytes = starts_with nat_eq bytes (239 ∷ 187 ∷ 191 ∷ [])

abbrev pub syntax_mistake : List ℕ → Mistake
syntax_mistake bytes =
    if length bytes == 0 then mistakes.Empty
    else (if has_mark bytes then mistakes.ByteOrderMark
    else (if is_utf8 bytes then mistakes.NotJson else mistakes.NotUtf8))

-- behind the longest front that is UTF-8; where all of it is, some place
abbrev pub IsPlaceIn : List ℕ → Option Position → Type 0
IsPlaceIn bytes place =
    MatchBool (is_utf8 bytes) (IsSome place)
    (place ≡ Some (position_after (take (utf8_valid_len bytes) bytes)))

abbrev pub IsSyntaxHint : List ℕ → Hint → Type 0
IsSyntaxHint bytes hint = (hint.mistake ≡ syntax_mistake bytes) × IsPlaceIn bytes hint.position
