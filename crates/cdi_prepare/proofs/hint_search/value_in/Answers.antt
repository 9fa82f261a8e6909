use Rattle.std.proofs.Common.{◌≡◌, ◌∙◌, List, ℕ, Option, None, Some, true, false, true≢false, refl, ap, sym, take}
use Rattle.std.proofs.lemmas.Bool.{false_from_ne_true}
use Rattle.std.proofs.lemmas.Str.{IsUtf8-from_is_utf8, is_utf8-from_IsUtf8}
use Rattle.std.specs.Str.{is_utf8, IsUtf8}
use Rattle.std.specs.Str.Lossy.{utf8_valid_len}
use Rattle.serde_json.specs.Errors.{IsMemory}
use Rattle.serde_json.specs.Read.{read}
use Rattle.serde_json.specs.View.{view}
use Rattle.cdi_form.specs.Json.{json_in}
use Rattle.cdi_positions.specs.Position.{position_after}
use Rattle.cdi_positions.specs.declared.position.Position.{Position}
use Rattle.cdi_prepare.specs.Syntax.{IsPlaceIn}
use Rattle.cdi_prepare.proofs.hint_search.value_in.Goals as goal

-- bytes that are UTF-8 are no others
no_other : (bytes : List ℕ) → IsUtf8 bytes → is_utf8 bytes ≡ false → ⊥
no_other bytes good bad = true≢false (sym (is_utf8-from_IsUtf8 _ good) ∙ bad)

no_text : (bytes : List ℕ) → is_utf8 bytes ≡ false → json_in bytes ≡ None
unfolding json_in
no_text bytes bad = rw bad refl

no_value : (bytes : List ℕ) → is_utf8 bytes ≡ true → read bytes ≡ None → json_in bytes ≡ None
unfolding json_in
no_value bytes good none = rw (good, none) refl

behind : (bytes : List ℕ) (place : Option Position) → is_utf8 bytes ≡ false → place ≡ Some (position_after (take (utf8_valid_len bytes) bytes)) → IsPlaceIn bytes place
behind bytes place bad is = rw bad is

some_place : (bytes : List ℕ) (place : Position) → is_utf8 bytes ≡ true → IsPlaceIn bytes (Some place)
some_place bytes place good = rw good refl

pub syntax_mistake-requires : goal.syntax_mistake-requires
syntax_mistake-requires c = sym (false_from_ne_true _ (λ e. c.in-Err.ensures.cases.0 (IsUtf8-from_is_utf8 _ e)))

pub returns-in-Err-clause-place : goal.returns-in-Err-clause-place
returns-in-Err-clause-place c =
    let bad : is_utf8 c.args.bytes.now ≡ false = false_from_ne_true _ (λ e. c.in-Err.ensures.cases.0 (IsUtf8-from_is_utf8 _ e)) in
    let front : c.split_at.result.0.now ≡ take (utf8_valid_len c.args.bytes.now) c.args.bytes.now =
    c.split_at.ensures.front ∙ ap (λ n. take n c.args.bytes.now) (c.valid_up_to.ensures ∙ c.in-Err.ensures.valid_len) in
    (no_text _ bad, (c.syntax_mistake.ensures, behind _ _ bad (ap Some (c.position_after.ensures ∙ ap position_after front))))

pub returns-in-Ok-from_str-clause-value : goal.returns-in-Ok-from_str-clause-value
unfolding json_in
returns-in-Ok-from_str-clause-value c =
    let good : is_utf8 c.args.bytes.now ≡ true = is_utf8-from_IsUtf8 _ c.in-Ok.ensures.cases.1 in
    let found : read c.args.bytes.now ≡ Some (view c.in-Ok-from_str.value) = ap read (sym c.in-Ok.ensures.cases.0) ∙ c.in-Ok-from_str.ensures.ok in
    rw (good, found) refl

pub returns-in-Ok-from_str-clause-no_text : goal.returns-in-Ok-from_str-clause-no_text
returns-in-Ok-from_str-clause-no_text c = λ bad. absurd (no_other _ c.in-Ok.ensures.cases.1 bad)

pub returns-then-is_memory-clause-no_text : goal.returns-then-is_memory-clause-no_text
returns-then-is_memory-clause-no_text c = λ bad. absurd (no_other _ c.in-Ok.ensures.cases.1 bad)

pub syntax_mistake-requires-else-is_memory : goal.syntax_mistake-requires-else-is_memory
syntax_mistake-requires-else-is_memory c = sym (is_utf8-from_IsUtf8 _ c.in-Ok.ensures.cases.1)

pub returns-else-is_memory-clause-place : goal.returns-else-is_memory-clause-place
returns-else-is_memory-clause-place c =
    let good : is_utf8 c.args.bytes.now ≡ true = is_utf8-from_IsUtf8 _ c.in-Ok.ensures.cases.1 in
    let other : ¬ (IsMemory c.in-Err-from_str.error) = λ memory. true≢false (sym (c.is_memory.ensures.1 memory) ∙ c.if-is_memory.false) in
    let none : read c.args.bytes.now ≡ None = ap read (sym c.in-Ok.ensures.cases.0) ∙ c.in-Err-from_str.ensures.err other in
    (no_value _ good none, (c.syntax_mistake-else-is_memory.ensures, some_place _ _ good))
