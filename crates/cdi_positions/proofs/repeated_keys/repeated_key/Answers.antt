use Rattle.std.proofs.Common.{◌≡◌, ◌∙◌, ℕ, List, [], true, false, Option, None, IsSome, IfOk, option_map, refl, ap, subst}
use Rattle.std.proofs.lemmas.Bool.{false_from_ne_true}
use Rattle.std.proofs.lemmas.Str.{IsUtf8-from_is_utf8, is_utf8-from_IsUtf8}
use Rattle.std.specs.Str.{is_utf8}
use Rattle.json.specs.Json.{document}
use Rattle.json.specs.Lex.{tokens}
use Rattle.cdi_positions.specs.RepeatedKey.{repeated_in, repeated_key}
use Rattle.cdi_positions.specs.declared.repeated_keys.RepeatedKey.{RepeatedKey}
use Rattle.cdi_positions.proofs.repeated_keys.repeated_key.Goals as goal

no_text : (bytes : List ℕ) → is_utf8 bytes ≡ false → None ≡ repeated_key bytes
no_text bytes bad = rw bad refl

of_json : (bytes : List ℕ) → is_utf8 bytes ≡ true → IsSome (document bytes) → repeated_in [] (tokens bytes) ≡ repeated_key bytes
of_json bytes good some = rw (good, some) refl

pub returns-in_default-clause-key : goal.returns-in_default-clause-key
returns-in_default-clause-key c = no_text _ (false_from_ne_true _ (λ e. c.in_default.ensures.cases.0 (IsUtf8-from_is_utf8 _ e)))

pub returns-clause-key : goal.returns-clause-key
returns-clause-key c =
    let good : is_utf8 c.args.bytes.now ≡ true = is_utf8-from_IsUtf8 _ c.in-Ok.ensures.cases.1 in
    let same : c.in-Ok.text.now ≡ c.args.bytes.now = c.in-Ok.ensures.cases.0 in
    let some : IsSome (document c.args.bytes.now) =
    subst (λ (bytes : List ℕ). IsSome (document bytes)) same (c.in_ok-is_valid.ensures.ok.0 c.if-not-branch.false) in
    let is : repeated_in [] (tokens c.in-Ok.text.now) ≡ repeated_key c.args.bytes.now = ap (λ bytes. repeated_in [] (tokens bytes)) same ∙ of_json _ good some in
    subst (λ (key : Option (List ℕ)). IfOk c.search.result (λ (found : Option RepeatedKey). option_map (λ (r : RepeatedKey). r.key) found ≡ key)) is c.search.ensures.key
