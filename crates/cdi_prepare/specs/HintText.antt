-- Hints as they are written.
use Rattle.std.specs.Prelude.{ℕ, List, ◌++◌, codes, decimal, Option, Some, None}
use Rattle.std.specs.Fmt.{◌++?◌}
use Rattle.cdi_positions.specs.declared.position.Position.{Position}
use Rattle.cdi_positions.specs.Position.{position_text}
use Rattle.cdi_form_mistakes.specs.Mistake.{placed_text}
use Rattle.cdi_form_mistakes.specs.StepMistake.{mistake_text as step_text}
use Rattle.cdi_prepare.specs.declared.hint.Hint.{Hint}
use Rattle.cdi_prepare.specs.declared.hint.Mistake.{Mistake}
use Rattle.cdi_prepare.specs.declared.hint.Mistake.TheVariants as mistakes

abbrev pub mistake_text : Mistake → Option (List ℕ)
mistake_text mistakes.Empty = Some (codes "the file is empty: the least deployment is {}")
mistake_text mistakes.ByteOrderMark =
    Some (codes "the file begins with a byte order mark, which JSON has not")
mistake_text mistakes.NotUtf8 = Some (codes "here the file is no UTF-8, the encoding of JSON")
mistake_text mistakes.NotJson = Some (codes "here the file is no JSON")
mistake_text (mistakes.Form mistake) = placed_text mistake
mistake_text (mistakes.List path length limit) =
    Some (path ++ (codes " has " ++ (decimal length
    ++ (codes " items, and at most " ++ (decimal limit ++ codes " are allowed")))))
mistake_text (mistakes.Step path script mistake) =
    Some (path ++ (codes " of script " ++ (script ++ codes ": "))) ++? step_text mistake

-- behind its position, if that is known
abbrev pub text_at : Option Position → Option (List ℕ) → Option (List ℕ)
text_at None text = text
text_at (Some position) text = position_text position ++? Some (codes ": ") ++? text

-- a text that was written is quoted with its escapes: what is written is known where it is ASCII
abbrev pub hint_text : Hint → Option (List ℕ)
hint_text h = text_at h.position (mistake_text h.mistake)
