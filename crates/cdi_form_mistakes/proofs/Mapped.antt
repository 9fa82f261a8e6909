-- The texts of rows and of words, as their definitions have them, and lists of references, as those of what they point to.
use Rattle.std.proofs.Common.{◌≡◌, ◌∙◌, ℕ, List, [], ◌∷◌, ◌++◌, map, not, find, Option, Some, None, option_map, refl, sym, ap}
use Rattle.std.specs.Borrow.{Bor}
use Rattle.std.specs.List.{flat_map, join_by}
use Rattle.serde_json.specs.Data.{Members}
use Rattle.cdi_form.specs.Keys.{is_met}
use Rattle.cdi_form.specs.Table.{Row, row_of, rows}
use Rattle.cdi_form.specs.Words.{Word, word_of}
use Rattle.cdi_form.specs.declared.form.Kind.{Kind}
use Rattle.cdi_form.specs.declared.table.Row.{Row as DeclaredRow}
use Rattle.cdi_form.specs.declared.words.Word.{Word as DeclaredWord}
use Rattle.cdi_form.proofs.Finds.{find-map}
use Rattle.cdi_form_mistakes.specs.FormMistake.{first_missing}

pub key_texts : (declared : List DeclaredRow) → map (λ key. key.now) (map (λ row. row.key) declared) ≡ map (λ (row : Row). row.key) (map row_of declared)
key_texts [] = refl
key_texts (row ∷ declared) = ap (λ (keys : List (List ℕ)). row.key.now ∷ keys) (key_texts declared)

pub word_texts : {X : Type 0} (words : List (DeclaredWord X))
    → map (λ text. text.now) (map (λ word. word.text) words) ≡ map (λ (word : Word X). word.text) (map word_of words)
word_texts [] = refl
word_texts (word ∷ words) = ap (λ (texts : List (List ℕ)). word.text.now ∷ texts) (word_texts words)

rest_texts : (sep : List ℕ) (words : List (Bor (List ℕ)))
    → flat_map (λ (word : Bor (List ℕ)). sep ++ word.now) words ≡ flat_map (λ (word : List ℕ). sep ++ word) (map (λ word. word.now) words)
rest_texts sep [] = refl
rest_texts sep (word ∷ words) = ap (λ (rest : List ℕ). (sep ++ word.now) ++ rest) (rest_texts sep words)

pub listed_texts : (sep : List ℕ) (words : List (Bor (List ℕ)))
    → join_by (λ (word : Bor (List ℕ)). word.now) sep words ≡ join_by (λ (word : List ℕ). word) sep (map (λ word. word.now) words)
listed_texts sep [] = refl
listed_texts sep (word ∷ words) = ap (λ (rest : List ℕ). word.now ++ rest) (rest_texts sep words)

pub missing_key : (kind : Kind) (ms : Members) (declared : List DeclaredRow) (found : Option DeclaredRow) → map row_of declared ≡ rows kind
    → found ≡ find (λ row. not (is_met ms (row_of row))) declared → option_map (λ row. row.key.now) found ≡ first_missing kind ms
missing_key kind ms declared found table is =
    by found ∙ ap (λ (o : Option DeclaredRow). option_map (λ (row : Row). row.key) (option_map row_of o)) is
    ∙ ap (option_map (λ (row : Row). row.key)) (sym (find-map row_of (λ row. not (is_met ms row)) declared) ∙ ap (find (λ row. not (is_met ms row))) table)
  where
    by : (o : Option DeclaredRow) → option_map (λ row. row.key.now) o ≡ option_map (λ (row : Row). row.key) (option_map row_of o)
    by None = refl
    by (Some row) = refl
