-- What a writer puts down for a reply is its text.
use Rattle.std.proofs.Common.{◌≡◌, ℕ, ℤ, pos, negsuc, List, [], ◌∷◌, ◌++◌, refl}
use Rattle.std.specs.Fmt.{signed_decimal}
use Rattle.std.specs.Prelude.{codes}
use Rattle.json.specs.Token.{begin_array, end_array, string, number, null}
use Rattle.json.specs.Print.{print}
use Rattle.serde_json.specs.Data as values
use Rattle.serde_json.specs.Find.{of_integer}
use Rattle.serde_json.specs.Written.{compact_text, number_text}
use Rattle.serde_json.proofs.Texts.{print-outline}
use Rattle.cdi_text.specs.ReplyText.{one, pair}

pub word_printed : (word : List ℕ) → print (begin_array ∷ string word ∷ end_array ∷ []) ≡ compact_text (one word)
word_printed word = print-outline (one word)

pub text_printed : (word text : List ℕ)
    → print (begin_array ∷ string word ∷ string text ∷ end_array ∷ []) ≡ compact_text (pair word (values.string text))
text_printed word text = print-outline (pair word (values.string text))

pub null_printed : (word : List ℕ)
    → print (begin_array ∷ string word ∷ null ∷ end_array ∷ []) ≡ compact_text (pair word values.null)
null_printed word = print-outline (pair word values.null)

pub integer_printed : (word : List ℕ) (n : ℤ)
    → print (begin_array ∷ string word ∷ number (signed_decimal n) ∷ end_array ∷ [])
    ≡ compact_text (pair word (values.number (of_integer n)))
integer_printed word (pos n) = print-outline (pair word (values.number (of_integer (pos n))))
integer_printed word (negsuc n) = print-outline (pair word (values.number (of_integer (negsuc n))))
