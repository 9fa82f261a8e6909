-- A word that isn't known, with those that are.
use Rattle.std.specs.Prelude.{ℕ, List, ◌++◌, codes, Option, Some, None, option_map}
use Rattle.std.specs.List.{join_by}
use Rattle.std.specs.Fmt.{debug_str}
use Rattle.cdi_base.specs.Near.{nearest}
use Rattle.cdi_form_mistakes.specs.declared.words.UnknownWord.{UnknownWord}

-- the words, with commas between them
abbrev pub listed : List (List ℕ) → List ℕ
listed words = join_by (λ word. word) (codes ", ") words

abbrev pub unknown_word : List ℕ → List (List ℕ) → UnknownWord
unknown_word written known =
    record { written = written; near = nearest written known; known = listed known }

-- behind the word that is written, quoted
abbrev pub known_text : Option (List ℕ) → List ℕ → List ℕ
known_text None known = codes " isn't known. Known are " ++ known
known_text (Some near) known =
    codes " isn't known: is " ++ (near ++ (codes " meant? Known are " ++ known))

abbrev pub unknown_text : UnknownWord → Option (List ℕ)
unknown_text w = option_map (λ quoted. quoted ++ known_text w.near w.known) (debug_str w.written)
