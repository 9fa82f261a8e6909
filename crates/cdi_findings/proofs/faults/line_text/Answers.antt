use Rattle.std.proofs.Common.{rules, ◌≡◌, ◌∙◌, false, true, refl, sym, subst}
use Rattle.std.proofs.lemmas.Bool.{false_from_ne_true}
use Rattle.std.proofs.lemmas.Str.{IsUtf8-from_is_utf8, is_utf8-from_IsUtf8}
use Rattle.std.specs.Str.{IsUtf8, is_utf8}
use Rattle.cdi_findings.specs.Faults as spec
use Rattle.cdi_findings.proofs.faults.line_text.Goals as goal

pub returns-in-Ok : goal.returns-in-Ok
returns-in-Ok c =
    let same : c.split_at.result.0.now ≡ spec.without_feed c.args.line.now = search rules in
    let valid : is_utf8 (spec.without_feed c.args.line.now) ≡ true = is_utf8-from_IsUtf8 _ (subst IsUtf8 same c.in-Ok.ensures.cases.1) in
    rw valid (c.in-Ok.ensures.cases.0 ∙ same)

pub returns-in-Err : goal.returns-in-Err
returns-in-Err c =
    let same : c.split_at.result.0.now ≡ spec.without_feed c.args.line.now = search rules in
    let invalid : is_utf8 (spec.without_feed c.args.line.now) ≡ false =
    false_from_ne_true _ (λ yes. c.in-Err.ensures.cases.0 (subst IsUtf8 (sym same) (IsUtf8-from_is_utf8 _ yes))) in
    rw invalid refl
