use Rattle.std.proofs.Common.{◌≡◌, ◌∙◌, List, ℕ, Some, true, false, true≢false, refl, ap, sym}
use Rattle.std.proofs.lemmas.Bool.{false_from_ne_true}
use Rattle.std.proofs.lemmas.Str.{IsUtf8-from_is_utf8, is_utf8-from_IsUtf8}
use Rattle.std.specs.Str.{is_utf8, IsUtf8}
use Rattle.serde_json.specs.Read.{read}
use Rattle.serde_json.specs.View.{view}
use Rattle.cdi_form.specs.Json.{json_in}
use Rattle.cdi_text.proofs.json_reader.JsonReader.read.Goals as goal

-- bytes that are UTF-8 are no others
no_other : (bytes : List ℕ) → IsUtf8 bytes → is_utf8 bytes ≡ false → ⊥
no_other bytes good bad = true≢false (sym (is_utf8-from_IsUtf8 _ good) ∙ bad)

pub returns-in_default-clause-read : goal.returns-in_default-clause-read
unfolding json_in
returns-in_default-clause-read c =
    let bad : is_utf8 c.args.bytes.now ≡ false = false_from_ne_true _ (λ e. c.in_default.ensures.cases.0 (IsUtf8-from_is_utf8 _ e)) in
    rw bad refl

pub returns-in-Ok-whole_value-clause-read : goal.returns-in-Ok-whole_value-clause-read
unfolding json_in
returns-in-Ok-whole_value-clause-read c =
    let good : is_utf8 c.args.bytes.now ≡ true = is_utf8-from_IsUtf8 _ c.in-Ok.ensures.cases.1 in
    let found : read c.args.bytes.now ≡ Some (view c.in-Ok-whole_value.value) = ap read (sym c.in-Ok.ensures.cases.0) ∙ c.in-Ok-whole_value.ensures.ok in
    rw (good, found) refl

pub returns-in-Ok-whole_value-clause-no_text : goal.returns-in-Ok-whole_value-clause-no_text
returns-in-Ok-whole_value-clause-no_text c = λ bad. absurd (no_other _ c.in-Ok.ensures.cases.1 bad)

pub returns-in-Err-OutOfMemory-clause-no_text : goal.returns-in-Err-OutOfMemory-clause-no_text
returns-in-Err-OutOfMemory-clause-no_text c = λ bad. absurd (no_other _ c.in-Ok.ensures.cases.1 bad)
