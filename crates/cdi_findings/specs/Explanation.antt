-- Explanations, and how they are written.
use Rattle.std.specs.Prelude.{ℕ, Bool, not, ◌&&◌, ◌||◌, List, [], ◌++◌, codes, map, bytes_eq, Option, Some, None, if◌then◌else◌}
use Rattle.std.specs.List.{flat_map, list_any}
use Rattle.cdi_base.specs.Near.{nearest}
use Rattle.cdi_findings.specs.declared.explanation.Explanation.{Explanation}
use Rattle.cdi_findings.specs.declared.explanation.Subject.{Subject}
use Rattle.cdi_findings.specs.declared.explanation.Subject.TheVariants as subjects

abbrev pub subject_text : Subject → List ℕ
subject_text subjects.Fault = codes "a deployment or a script can't be read"
subject_text subjects.Warning = codes "a warning about a deployment"
subject_text subjects.Problem = codes "a problem of a deployment"
subject_text subjects.Refusal = codes "a command is refused"
subject_text subjects.Cause = codes "a command is cut"
subject_text subjects.Exception = codes "an exception"
subject_text subjects.Reply = codes "a reply"
subject_text subjects.Entry = codes "an entry of a trace"

-- this is its word, or its number if it has one
abbrev pub is_of : List ℕ → Explanation → Bool
is_of text e =
    bytes_eq e.word.now text || (not (bytes_eq e.number.now []) && bytes_eq e.number.now text)

-- the number in front of the word, if there is one
abbrev pub front : List ℕ → List ℕ
front number = if bytes_eq number [] then [] else number ++ codes " "

-- the word, with its number if it has one
abbrev pub heading : Explanation → List ℕ
heading e = front e.number.now ++ e.word.now

abbrev pub explanation_text : Explanation → List ℕ
explanation_text e =
    heading e
    ++ (codes ": "
    ++ (subject_text e.subject
    ++ (codes "\n  " ++ (e.meaning.now ++ (codes "\n  Example: " ++ (e.example.now ++ codes "\n"))))))

abbrev pub text_if_of : List ℕ → Explanation → List ℕ
text_if_of text e = if is_of text e then explanation_text e else []

-- each explanation of a word, in their order
abbrev pub texts_of : List ℕ → List Explanation → List ℕ
texts_of text explanations = flat_map (text_if_of text) explanations

-- what is told of a word: nothing if no explanation is of it
abbrev pub explained : List ℕ → List Explanation → Option (List ℕ)
explained text explanations =
    if list_any (is_of text) explanations then Some (texts_of text explanations) else None

-- the word that was probably meant
abbrev pub meant : List ℕ → List Explanation → Option (List ℕ)
meant word explanations = nearest word (map (λ e. e.word.now) explanations)

abbrev pub suggestion : Option (List ℕ) → List ℕ
suggestion None = []
suggestion (Some near) = codes " (did you mean " ++ (near ++ codes "?)")

-- what is told of a word that isn't explained
abbrev pub unknown_text : List ℕ → List Explanation → List ℕ
unknown_text word explanations =
    codes "no such fault, warning, problem, refusal, cause, exception, reply or entry"
    ++ suggestion (meant word explanations)
