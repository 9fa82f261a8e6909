-- What is wrong with a step, in words.
use Rattle.std.specs.Prelude.{ℕ, List, ◌++◌, codes, decimal, Option, Some}
use Rattle.std.specs.Fmt.{◌++?◌}
use Rattle.cdi_form_mistakes.specs.Written.{written_text}
use Rattle.cdi_form_mistakes.specs.UnknownWord.{unknown_text}
use Rattle.cdi_script.specs.declared.part.PartKind.{PartKind}
use Rattle.cdi_script.specs.declared.part.PartKind.TheVariants as parts
use Rattle.cdi_script.specs.declared.step.StepKind.{StepKind}
use Rattle.cdi_script.specs.declared.step.StepKind.TheVariants as kinds
use Rattle.cdi_form_mistakes.specs.declared.wrong_step.WrongPart.{WrongPart}
use Rattle.cdi_form_mistakes.specs.declared.wrong_step.StepMistake.{StepMistake}
use Rattle.cdi_form_mistakes.specs.declared.wrong_step.StepMistake.TheVariants as mistakes

-- how a step of a kind is written
abbrev pub form : StepKind → List ℕ
form kinds.Set = codes "[\"set\",FIELD,VALUE]"
form kinds.Call = codes "[\"call\",REFERENCE,METHOD,[VALUE,..]]"
form kinds.Own = codes "[\"own\",METHOD,[VALUE,..]]"
form kinds.Read = codes "[\"read\",REFERENCE]"
form kinds.Write = codes "[\"write\",REFERENCE,VALUE]"
form kinds.Fire = codes "[\"fire\",CLASS,[QUALIFIER,..],VALUE]"
form kinds.Proceed = codes "[\"proceed\"] or [\"proceed\",[VALUE,..]]"
form kinds.ProceedWith = codes "[\"proceed\"] or [\"proceed\",[VALUE,..]]"
form kinds.Find = codes "[\"find\",TYPE,[QUALIFIER,..]]"
form kinds.Destroy = codes "[\"destroy\",[\"local\",NUMBER]]"
form kinds.Keep = codes "[\"keep\",KEY,VALUE]"
form kinds.Peek = codes "[\"peek\",KEY]"
form kinds.Give = codes "[\"give\",VALUE]"
form kinds.Throw = codes "[\"throw\",EXCEPTION]"

-- what a part of a kind is
abbrev pub wanted : PartKind → List ℕ
wanted parts.Name = codes "a name"
wanted parts.Via = codes "a reference, as [\"field\",NAME],"
wanted parts.Local = codes "a reference [\"local\",NUMBER]"
wanted parts.Qualifiers = codes "a list of qualifiers"
wanted parts.Value = codes "null, a whole number, a text or an expression"
wanted parts.Values = codes "a list of values"

abbrev pub part_text : WrongPart → Option (List ℕ)
part_text p = Some (wanted p.kind ++ codes " belongs, not ") ++? written_text p.written

abbrev pub mistake_text : StepMistake → Option (List ℕ)
mistake_text (mistakes.NoList written) =
    Some (codes "a step is a list, not ") ++? written_text written
mistake_text (mistakes.NoWord known) =
    Some (codes "a step begins with a word. Known are " ++ known)
mistake_text (mistakes.UnknownStep word) = Some (codes "the step ") ++? unknown_text word
mistake_text (mistakes.WrongCount kind count) =
    Some (codes "it is to be " ++ (form kind ++ (codes ", but "
    ++ (decimal count ++ codes " parts stand behind its word"))))
mistake_text (mistakes.WrongPart index part) =
    Some (codes "at index " ++ (decimal index ++ codes " of it ")) ++? part_text part
