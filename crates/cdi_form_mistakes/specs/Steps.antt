-- What is wrong with a value in the place of a step that is none.
use Rattle.std.specs.Prelude.{ℕ, ◌+◌, ◌==◌, ◌&&◌, Bool, List, [], ◌∷◌, length, codes, bytes_eq, find, Option, Some, None, unwrap_or, if◌then◌else◌}
use Rattle.serde_json.specs.Data.{Data, string, array, Items, no_items, item}
use Rattle.serde_json.specs.Events.{items_len}
use Rattle.cdi_form_mistakes.specs.Written.{written_of}
use Rattle.cdi_form_mistakes.specs.UnknownWord.{listed, unknown_word}
use Rattle.cdi_script.specs.declared.part.PartKind.{PartKind}
use Rattle.cdi_script.specs.declared.step.StepKind.{StepKind}
use Rattle.cdi_script.specs.Form.{plain_items}
use Rattle.cdi_script.specs.Part.{is_part}
use Rattle.cdi_script.specs.Step.{all_kinds, row_of}
use Rattle.cdi_form_mistakes.specs.declared.wrong_step.StepMistake.{StepMistake}
use Rattle.cdi_form_mistakes.specs.declared.wrong_step.StepMistake.TheVariants as mistakes

-- the words of steps
abbrev pub words : List (List ℕ)
words =
    codes "set" ∷ codes "call" ∷ codes "own" ∷ codes "read" ∷ codes "write" ∷ codes "fire"
    ∷ codes "proceed" ∷ codes "find" ∷ codes "destroy" ∷ codes "keep" ∷ codes "peek"
    ∷ codes "give" ∷ codes "throw" ∷ codes "catch" ∷ []

abbrev pub has_word : List ℕ → StepKind → Bool
has_word word kind = bytes_eq (row_of kind).word word

-- a step of the kind has this word, and so many parts
abbrev pub has_count : List ℕ → ℕ → StepKind → Bool
has_count word count kind = has_word word kind && length (row_of kind).parts == count

-- the first item that is no part of its kind, if the first has this index
abbrev pub part_mistake : ℕ → List PartKind → Items → Option StepMistake
part_mistake index [] ds = None
part_mistake index (kind ∷ kinds) no_items = None
part_mistake index (kind ∷ kinds) (item d ds) =
    if is_part kind d then part_mistake (index + 1) kinds ds
    else Some (mistakes.WrongPart index (record { kind = kind; written = written_of d }))

-- the first wrong part of a step of a kind that goes with the number of items
abbrev pub wrong_part : Option StepKind → Items → Option StepMistake
wrong_part None ds = None
wrong_part (Some kind) ds = part_mistake 1 (row_of kind).parts ds

-- where no kind goes with the number of items
abbrev pub wrong_count : Option StepKind → List ℕ → ℕ → StepMistake
wrong_count None word count = mistakes.UnknownStep (unknown_word word words)
wrong_count (Some kind) word count = mistakes.WrongCount kind count

abbrev pub parts_mistake : List ℕ → ℕ → Items → StepMistake
parts_mistake word count ds =
    unwrap_or (wrong_part (find (has_count word count) all_kinds) ds)
    (wrong_count (find (has_word word) all_kinds) word count)

abbrev pub word_mistake : Data → ℕ → Items → StepMistake
word_mistake (string word) count ds = parts_mistake word count ds
word_mistake d count ds = mistakes.NoWord (listed words)

abbrev pub items_mistake : Items → StepMistake
items_mistake (item d ds) = word_mistake d (items_len ds) ds
items_mistake no_items = mistakes.NoWord (listed words)

-- in a catch it is said of the step inside
abbrev pub step_mistake : Data → StepMistake
step_mistake (array ds) = items_mistake (plain_items ds)
step_mistake d = mistakes.NoList (written_of d)
