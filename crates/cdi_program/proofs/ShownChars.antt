-- Texts that are shown character by character.
use Rattle.std.proofs.Common.{◌≡◌, ◌∙◌, ◌++◌, ◌∷◌, [], ℕ, List, length, sym, ap, append_assoc, append-nil}
use Rattle.std.specs.Char.{encode_utf8}
use Rattle.std.specs.List.{flat_map}
use Rattle.std.specs.Str.{IsUtf8}
use Rattle.std.proofs.lemmas.Str.{IsUtf8-past_char, chars-nil, chars_past_char}
use Rattle.cdi_program.specs.Shown.{shown_char, shown_name}

-- the first character of what is left is shown, and then what is left behind it
pub shown_more : (old rest before after all : List ℕ) (c : ℕ) → IsUtf8 old → old ≡ encode_utf8 c ++ rest → after ≡ before ++ shown_char c
    → before ++ shown_name old ≡ all → IsUtf8 rest × (after ++ shown_name rest ≡ all)
shown_more old rest before after all c u step grown is =
    let next : shown_name old ≡ shown_char c ++ shown_name rest = ap (λ (cs : List ℕ). flat_map shown_char cs) (chars_past_char old rest c u step) in (
      IsUtf8-past_char old rest c u step,
      ap (λ (s : List ℕ). s ++ shown_name rest) grown ∙ append_assoc before (shown_char c) (shown_name rest) ∙ ap (λ (s : List ℕ). before ++ s) (sym next) ∙ is,
    )

-- nothing is left to be shown
pub shown_none : (rest line all : List ℕ) → length rest ≡ 0 → line ++ shown_name rest ≡ all → line ≡ all
shown_none [] line all none is =
    sym (append-nil line) ∙ ap (λ (cs : List ℕ). line ++ flat_map shown_char cs) (sym chars-nil) ∙ is
shown_none (c ∷ cs) line all none is = absurd cc
