-- What is written in place of what belongs there.
use Rattle.std.specs.Prelude.{ℕ, List, codes, true, false, Option, Some, None}
use Rattle.std.specs.Fmt.{debug_str}
use Rattle.serde_json.specs.Data.{Data, null, boolean, number, string, array, object}
use Rattle.cdi_form_mistakes.specs.declared.written.Written.{Written}
use Rattle.cdi_form_mistakes.specs.declared.written.Written.TheVariants as kinds

abbrev pub written_of : Data → Written
written_of null = kinds.Null
written_of (boolean mark) = kinds.Mark mark
written_of (number n) = kinds.Number n
written_of (string text) = kinds.Text text
written_of (array ds) = kinds.List
written_of (object ms) = kinds.Object

-- how a number is written is not said; a text is quoted with its escapes: what is written is known where it is ASCII
abbrev pub written_text : Written → Option (List ℕ)
written_text kinds.Null = Some (codes "null")
written_text (kinds.Mark true) = Some (codes "true")
written_text (kinds.Mark false) = Some (codes "false")
written_text (kinds.Number n) = None
written_text (kinds.Text text) = debug_str text
written_text kinds.List = Some (codes "a list")
written_text kinds.Object = Some (codes "an object")
