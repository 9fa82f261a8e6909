-- What is answered to a word that is to be explained.
use Rattle.std.specs.Prelude.{◌≡◌, ℕ, List, map, string_bytes, Some, None}
use Rattle.cdi_findings.specs.Explanation.{explained, heading, unknown_text}
use Rattle.cdi_findings.specs.Words.{words}
use Rattle.cdi_findings.specs.declared.explanation.Explanation.{Explanation}
use Rattle.cdi_program.specs.Lines.{file_line}
use Rattle.cdi_program.specs.declared.explaining.WordAnswer.{WordAnswer}
use Rattle.cdi_program.specs.declared.explaining.WordAnswer.TheVariants as answers

-- the word's explanations among these, or that there is none
abbrev pub IsAnswerBy : List Explanation → List ℕ → WordAnswer → Type 0
IsAnswerBy all word (answers.Known text) = explained word all ≡ Some (string_bytes text)
IsAnswerBy all word (answers.Unknown line) =
    (explained word all ≡ None) × (string_bytes line ≡ file_line word (unknown_text word all))

-- the same by explanations of all words of the output
pub record IsAnswerOn (word : List ℕ) (answer : WordAnswer) : Type 0 where
  pub all : List Explanation
  pub of_all : map heading all ≡ words
  pub is : IsAnswerBy all word answer
