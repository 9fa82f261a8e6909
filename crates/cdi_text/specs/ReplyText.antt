-- The replies of a container, as lines.
use Rattle.std.specs.Prelude.{ℕ, List, [], ◌∷◌, ◌++◌, codes, map}
use Rattle.cdi_base.specs.declared.reply.Reply.{Reply}
use Rattle.cdi_base.specs.declared.reply.Reply.TheVariants as replies
use Rattle.cdi_base.specs.declared.value.Value.{Value}
use Rattle.cdi_base.specs.declared.value.Value.TheVariants as values
use Rattle.cdi_base.specs.Words.{refusal_word, cause_word}
use Rattle.serde_json.specs.Data.{Data, unsigned, null, number, string, array, no_items, item}
use Rattle.serde_json.specs.Find.{of_integer}
use Rattle.serde_json.specs.View.{items_of}
use Rattle.serde_json.specs.Written.{compact_text}
use Rattle.cdi_problems.specs.Places.{name_text}

abbrev pub one : List ℕ → Data
one word = array (item (string word) no_items)

abbrev pub pair : List ℕ → Data → Data
pair word second = array (item (string word) (item second no_items))

abbrev pub value_data : Value → Data
value_data values.Null = null
value_data (values.Int n) = number (of_integer n)
value_data (values.Text text) = string text

abbrev pub number_data : ℕ → Data
number_data n = number (unsigned n)

abbrev pub numbers_data : List ℕ → Data
numbers_data numbers = array (items_of (map number_data numbers))

-- the JSON value of a reply: its word, and what comes with it
abbrev pub reply_data : List (List ℕ) → Reply → Data
reply_data names (replies.Value value) = pair (codes "value") (value_data value)
reply_data names (replies.Threw class) = pair (codes "threw") (string (name_text names class))
reply_data names replies.Done = one (codes "done")
reply_data names (replies.Live numbers) = pair (codes "live") (numbers_data numbers)
reply_data names (replies.Refused refusal) = pair (codes "refused") (string (refusal_word refusal))
reply_data names (replies.Halted cause) = pair (codes "halted") (string (cause_word cause))

abbrev pub reply_line : List (List ℕ) → Reply → List ℕ
reply_line names reply = compact_text (reply_data names reply) ++ 10 ∷ []
